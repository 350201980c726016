-- Loads keep what is paid: a lost turn was overtaken.
use Rattle.std.proofs.Common.{◌≡◌, ◌≢◌, ℕ, ◌+◌, ◌-◌, ◌%◌, ◌<◌, ◌≤◌, ◌&&◌, Bool, true, false, cond, nat_eq, List, [], Option, Some, None, refl, sym, ap, ap₂, ◌∙◌, subst, ⊎_elim, ne_eqb, arith}
use Rattle.std.proofs.lemmas.Bool.{cases_Bool}
use Rattle.std.proofs.lemmas.List.Elements.{All-cons, All-nil}
use native.Mathlib.Decide.{ℕ_discrete}
use Rattle.set_model.specs.declared.entry.Entry.{Entry}
use Rattle.step_core.specs.Format.{IsMutable, IsFrozen}
use Rattle.step_core.specs.declared.published.GenerationBlock.{GenerationBlock}
use Rattle.step_core.specs.declared.published.RowBlock.{RowBlock}
use Rattle.step_core.specs.declared.views.BucketLoad.{BucketLoad}
use Rattle.step_core.specs.declared.views.OpenTurn.{OpenTurn}
use Rattle.step_core.specs.declared.views.Mark.{Mark}
use Rattle.step_core.specs.declared.views.PassView.{PassView}
use Rattle.cells.specs.Known.{generation_at, bucket_at}
use Rattle.cells.specs.Paid.{PaysLoad, IsPaidTurn, IsPaid}
use Rattle.cells.specs.Steps.{is_frozen, bucket_load, loses_turn, turn_after_load, view_after_load_head, view_after_load_bucket}
use Rattle.cells.proofs.laws.BucketLoads.{noted, odd_by_test}
use Rattle.cells.proofs.parts.StillPaid.{paid_turn_same}

module _ (wins head : ℕ) (cells : ℕ → ℕ → ℕ) (old : PassView) (paid : IsPaid wins head cells old) where
  -- where no turn is open afterwards, the lost turns must be paid alone
  paid_closed : (new : PassView) → new.turn ≡ None → new.lost + new.won ≤ wins → IsPaid wins head cells new
  paid_closed new closed few = record {
    lost = few;
    turn = λ turn is_turn. absurd (let clash : None ≡ Some turn = sym closed ∙ is_turn in cc);
  }

  -- where this turn is open afterwards, it must be paid
  paid_open : (new : PassView) (turn : OpenTurn) → new.turn ≡ Some turn → IsPaidTurn wins head cells new turn
      → new.lost + new.won ≤ wins → IsPaid wins head cells new
  paid_open new turn open_turn pays few = record {
    lost = few;
    turn = λ other is_other.
        let same : turn ≡ other = (let both : Some turn ≡ Some other = sym open_turn ∙ is_other in cc) in
        subst (IsPaidTurn wins head cells new) same pays;
  }

  -- A load of the head that is the head begins a turn that has seen all exchanges of the others.
  pub paid_load_head : (word : ℕ) (history : List Entry) (seen : ℕ) (generation : GenerationBlock) → word ≡ head
      → seen ≡ wins - old.won → IsPaid wins head cells (view_after_load_head word history seen generation old)
  paid_load_head word history seen generation is_head all =
      let few = paid.lost in
      paid_open (view_after_load_head word history seen generation old) (record { head = word; seen = seen; loads = [] }) refl
      (record {
        before = omega arith;
        seen = omega arith;
        moved = λ apart. absurd (apart is_head);
        loads = All-nil (PaysLoad wins cells (view_after_load_head word history seen generation old)
            (record { head = word; seen = seen; loads = [] }));
      })
      few

  module _ (new : PassView) (won : new.won ≡ old.won) (at bucket word : ℕ) (shown : word ≡ cells at bucket)
      (mutable : (b : ℕ) → IsMutable (cells head b)) where
    -- a load of what a cell has is paid, as long as the cell has it
    paid_noted : (turn : OpenTurn) (load : BucketLoad) → load ≡ record { at = at; bucket = bucket; word = word }
        → old.turn ≡ Some turn → new.lost ≡ old.lost → new.turn ≡ Some (noted load turn) → IsPaid wins head cells new
    paid_noted turn load is_load was lost now =
        let before = paid_turn_same wins head cells old new lost won turn (paid.turn turn was) in
        paid_open new (noted load turn) now
        (record {
          before = before.before;
          seen = before.seen;
          moved = before.moved;
          loads = All-cons (PaysLoad wins cells new (noted load turn)) load turn.loads
              (λ same some even apart. absurd (apart
              (ap (λ (load : BucketLoad). cells load.at load.bucket) is_load ∙ sym shown
              ∙ sym (ap (λ (load : BucketLoad). load.word) is_load))))
              before.loads;
        })
        (omega (arith, paid.lost))

    -- a frozen bucket of the turn's head tells that this is the head no more, so the turn was overtaken
    paid_lost : (turn : OpenTurn) → old.turn ≡ Some turn → IsFrozen word → at ≡ turn.head → new.lost ≡ old.lost + 1
        → new.turn ≡ None → IsPaid wins head cells new
    paid_lost turn was frozen same lost now =
        let pays = paid.turn turn was in
        let moved : turn.head ≢ head = λ (still : turn.head ≡ head).
        (let even : cells head bucket % 2 ≡ 0 = mutable bucket in
        let is_word : word ≡ cells head bucket = shown ∙ ap (λ (place : ℕ). cells place bucket) (same ∙ still) in
        let odd : cells head bucket % 2 ≡ 1 = sym (ap (λ (word : ℕ). word % 2) is_word) ∙ frozen in omega arith) in
        let overtaken : turn.seen + old.won < wins = pays.moved moved in
        paid_closed new now (omega (arith, pays.before))

-- where two tests hold together, each holds
pub both_true : (first second : Bool) → (first && second) ≡ true → (first ≡ true) × (second ≡ true)
both_true true true test = (refl, refl)
both_true true false test = absurd (cc)
both_true false second test = absurd (cc)

-- numbers that the test finds the same are
pub same_numbers : (first second : ℕ) → nat_eq first second ≡ true → first ≡ second
same_numbers first second test = elim (ℕ_discrete first second) [
  | yes same ↦ same
  | no apart ↦ absurd (let clash : true ≡ false = sym test ∙ ne_eqb first second apart in cc)
]

module _ (wins head : ℕ) (cells : ℕ → ℕ → ℕ) (old : PassView) (paid : IsPaid wins head cells old) (place at bucket word : ℕ)
    (found_at : generation_at old.known place ≡ at) (found_bucket : bucket_at old.known place ≡ bucket)
    (shown : word ≡ cells at bucket) (mutable : (b : ℕ) → IsMutable (cells head b)) where
  -- any view with the counts and the turn of one after the load
  paid_after : (new : PassView) (turn : Option OpenTurn) → old.turn ≡ turn → new.won ≡ old.won
      → new.lost ≡ cond (loses_turn old place word turn) (old.lost + 1) old.lost
      → new.turn ≡ turn_after_load (bucket_load old place word) (loses_turn old place word turn) turn
      → IsPaid wins head cells new
  paid_after new None was won lost now = paid_closed wins head cells old paid new now (omega (arith, paid.lost))
  paid_after new (Some turn) was won lost now = ⊎_elim
      (λ (loses : loses_turn old place word (Some turn) ≡ true).
      let both = both_true (is_frozen word) (nat_eq (generation_at old.known place) turn.head) loses in
      paid_lost wins head cells old paid new won at bucket word shown mutable turn was
      (odd_by_test word both.0) (sym found_at ∙ same_numbers (generation_at old.known place) turn.head both.1)
      (lost ∙ ap (λ (b : Bool). cond b (old.lost + 1) old.lost) loses)
      (now ∙ ap (λ (b : Bool). cond b None (Some (noted (bucket_load old place word) turn))) loses))
      (λ (keeps : loses_turn old place word (Some turn) ≡ false).
      paid_noted wins head cells old paid new won at bucket word shown mutable turn (bucket_load old place word)
      (ap₂ (λ (at bucket : ℕ). record { at = at; bucket = bucket; word = word }) found_at found_bucket) was
      (lost ∙ ap (λ (b : Bool). cond b (old.lost + 1) old.lost) keeps)
      (now ∙ ap (λ (b : Bool). cond b None (Some (noted (bucket_load old place word) turn))) keeps))
      (cases_Bool (loses_turn old place word (Some turn)))

  -- A load of a bucket keeps what is paid, where the word is that of the cell and no bucket of the head is frozen.
  pub paid_load_bucket : (history : List Entry) (row : RowBlock) (marks : List Mark)
      → IsPaid wins head cells (view_after_load_bucket place word history row marks old)
  paid_load_bucket history row marks =
      paid_after (view_after_load_bucket place word history row marks old) old.turn refl refl refl refl
