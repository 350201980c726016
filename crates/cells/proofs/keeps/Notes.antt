-- Making a note keeps the rule, and so does taking one in: a note's front begins the history.
use Rattle.std.proofs.Common.{arith, ◌≡◌, ℕ, ◌<◌, All, List, [], ◌∷◌, ◌++◌, slice_set, refl, sym, ap, ◌∙◌, subst, inl, inr}
use mathlib.Core.List.{IsPrefix}
use mathlib.Core.Option.{some}
use lib.ListN.{get_elem?}
use base.Growing.{prefix_refl}
use Rattle.std.proofs.lemmas.List.Elements.{All-nil}
use Rattle.atomic_table.specs.Table.{Me, Splits, Joins}
use Rattle.atomic_table.proofs.Lists.{at_set, set_again, set_else, set_here}
use Rattle.set_model.specs.declared.entry.Entry.{Entry}
use Rattle.arena.proofs.laws.Hands.{KeepsFronts-refl}
use Rattle.arena.proofs.keeps.View.{view_keeps}
use Rattle.step_core.specs.Format.{sealed_words, open_words}
use Rattle.step_core.specs.States.{RoundState, hands_of}
use Rattle.step_core.specs.declared.views.PassView.{PassView}
use Rattle.step_core.specs.declared.views.RoundFacts.{RoundFacts}
use Rattle.cells.specs.declared.pass.Pass.TheInside as pass
use Rattle.cells.specs.declared.rule.SeatView.{SeatView}
use Rattle.cells.specs.Modeled.{IsWhole}
use Rattle.cells.specs.Sound.{IsSound}
use Rattle.cells.specs.Invariant.{HoldsRound}
use Rattle.cells.specs.Moves.{view_after_hear}
use Rattle.cells.specs.Paid.{wins_of}
use Rattle.cells.specs.Steps.{view_after_note}
use Rattle.cells.specs.Seats.{IsRuled, IsSeat, AreSeated, SpeaksFor, pass_of, pass_seat, note_seat, spent_seat}
use Rattle.cells.proofs.laws.Seats.{speaks_for, reseated}
use Rattle.cells.proofs.parts.Seated.{beside_seated}
use Rattle.cells.proofs.laws.Counted.{sound_counted}
use Rattle.cells.proofs.parts.SameTurns.{sees_goes}
use Rattle.cells.proofs.parts.PutState.{there_inside}
use Rattle.cells.proofs.parts.PutView.{Goes, put, put_view, account_stays}

-- a table seat that is spent owes nothing
spent_beside : (views : List PassView) (history : List Entry) (seats : List SeatView) (id : ℕ) → AreSeated views history seats
    → AreSeated views history (slice_set seats id spent_seat)
spent_beside views history seats id seated = record {
  owner = seated.owner;
  each = λ number seat is_seat. elim (at_set seats id number spent_seat seat is_seat) [
    | inl same ↦
        subst (λ (both : ℕ × SeatView). IsSeat views history seated.owner both.0 both.1) (λ i. (sym same.0 i, same.1 i)) (record {
          front = (history, refl);
          rights = All-nil (SpeaksFor views seated.owner id);
        })
    | inr differs ↦ seated.each number seat differs.1
  ];
}

module _ {facts : RoundFacts} {words : List ℕ} {state : RoundState} {history : List Entry} (round : HoldsRound facts words state history)
    (old : PassView) (there : get_elem? state.views old.number ≡ some old) (front : List Entry) (begins : IsPrefix front history) where
  -- the view that has heard the front
  abbrev heard : PassView
  heard = view_after_hear front old

  -- it owes nothing
  goes : Goes facts state.head state.blocks state.cells history (wins_of state.views) old heard
  goes =
      let begun = round.past.begun old.number old there in
      sees_goes round old heard there refl (prefix_refl old.front) begun.front begins (round.fits.known old.number old there)
      (round.past.given old.number old there) (round.hindsight old.number old there).marks (λ alone. refl)

  -- the invariant holds with the front that the pass heard
  hear_view : HoldsRound facts words (put round old heard there goes state.owners state.next) history
  hear_view =
      put_view round old heard there goes words state.owners state.next refl
      (view_keeps sealed_words open_words hands_of round.fits.holds.laid old.number heard
      (record { old = old; is_view = there; fronts = KeepsFronts-refl old.hands }))
      (account_stays state.views old.number old heard there facts state.next state.ticket refl refl round.fits.account)

module _ {facts : RoundFacts} {words : List ℕ} {state : RoundState} {history : List Entry} (round : HoldsRound facts words state history)
    (old : PassView) (there : get_elem? state.views old.number ≡ some old) where
  -- the view that has made a note owes nothing
  note_goes : Goes facts state.head state.blocks state.cells history (wins_of state.views) old (view_after_note old)
  note_goes =
      let begun = round.past.begun old.number old there in
      sees_goes round old (view_after_note old) there refl (prefix_refl old.front) begun.front begun.heard
      (round.fits.known old.number old there) (round.past.given old.number old there)
      (round.hindsight old.number old there).marks (λ alone. refl)

  -- the invariant holds with it
  note_view : HoldsRound facts words (put round old (view_after_note old) there note_goes state.owners state.next) history
  note_view =
      put_view round old (view_after_note old) there note_goes words state.owners state.next refl
      (view_keeps sealed_words open_words hands_of round.fits.holds.laid old.number (view_after_note old)
      (record { old = old; is_view = there; fronts = KeepsFronts-refl old.hands }))
      (account_stays state.views old.number old (view_after_note old) there facts state.next state.ticket refl refl round.fits.account)

-- a table seat that has only one pass still has, with another view of it
pub one_pass_still : (old new : Me ℕ SeatView) (view : PassView) → old ≡ (pass_seat (pass_of old.0), [])
    → new ≡ (pass_seat view, old.1) → new ≡ (pass_seat (pass_of new.0), [])
one_pass_still old new view one joined =
    joined
    ∙ ((λ i. (pass_seat view, (one i).1))
    ∙ sym (ap (λ (me : Me ℕ SeatView). (pass_seat (pass_of me.0), [])) joined))

-- a pass that has made a note is whole
pub noted_whole : (old new : pass.Inside) → IsWhole old → new.seat.me ≡ (pass_seat (view_after_note (pass_of old.seat.me.0)), old.seat.me.1)
    → new.number ≡ old.number → new.spent ≡ old.spent → new.calls ≡ old.calls → IsWhole new
noted_whole old new whole me number spent calls =
    let view : pass_of new.seat.me.0 ≡ view_after_note (pass_of old.seat.me.0) = ap (λ (me : Me ℕ SeatView). pass_of me.0) me in
    let Of : (PassView → Type 0) → Type 0 = λ P. P (pass_of new.seat.me.0) in
    record {
      one = one_pass_still old.seat.me new.seat.me (view_after_note (pass_of old.seat.me.0)) whole.one me;
      number = number ∙ whole.number ∙ sym (ap (λ (v : PassView). v.number) view);
      spent = spent ∙ whole.spent ∙ sym (ap (λ (v : PassView). v.spent) view);
      sound = subst IsSound (sym view) (sound_counted (pass_of old.seat.me.0) (view_after_note (pass_of old.seat.me.0)).made whole.sound);
      serials = record {
        serials = subst (λ (z : List Entry × ℕ). All (λ entry. entry.serial < z.1) z.0)
            (λ i. (ap (λ (v : PassView). v.mine) (sym view) i, sym calls i)) whole.serials.serials;
        used = omega (arith, whole.serials.used, ap (λ (v : PassView). v.used) view, calls);
      };
      heard = ap (λ (v : PassView). v.heard) view ∙ whole.heard;
    }

module _ (facts : RoundFacts) where
  -- a pass's front may get a table seat of its own, which the pass's view counts
  pub note_splits : (id : ℕ) (me : Me ℕ SeatView) → me ≡ (pass_seat (pass_of me.0), [])
      → Splits (IsRuled facts) id me.0 (pass_seat (view_after_note (pass_of me.0))) (note_seat (pass_of me.0).front)
  note_splits id me one table ruled there =
      let old : PassView = pass_of me.0 in
      let new : PassView = view_after_note old in
      let is_seat : get_elem? table.views id ≡ some (pass_seat old) = there ∙ ap (λ (me : Me ℕ SeatView). some me.0) one in
      let is_view = (speaks_for ruled.seated id old is_seat).is_view in
      let views : List PassView = slice_set ruled.state.views old.number new in
      let seats : List SeatView = slice_set table.views id (pass_seat new) in
      let seated : AreSeated views ruled.history seats =
      reseated ruled.seated ruled.history id old new (prefix_refl ruled.history) refl is_seat in
      let here : get_elem? seats id ≡ some (pass_seat new) =
      set_here table.views id (pass_seat new) (there_inside table.views id (pass_seat old) is_seat) in
      let beside = beside_seated views ruled.history seats seated id (pass_seat new) here old.front
      (ruled.holds.past.begun old.number old is_view).front in
      record {
        state = put ruled.holds old new is_view (note_goes ruled.holds old is_view) ruled.state.owners ruled.state.next;
        history = ruled.history;
        holds = note_view ruled.holds old is_view;
        seated = subst (λ (list : List SeatView). AreSeated views ruled.history (list ++ note_seat old.front ∷ []))
            (set_again seats id (pass_seat new) here) beside;
      }

  -- and a pass may take the front of a note in
  pub note_joins : (id : ℕ) (me : Me ℕ SeatView) (other_id : ℕ) (other : Me ℕ SeatView) → me ≡ (pass_seat (pass_of me.0), [])
      → Joins (IsRuled facts) id me.0 other_id other.0 (pass_seat (view_after_hear other.0.front (pass_of me.0))) spent_seat
  note_joins id me other_id other one table ruled there apart at =
      let old : PassView = pass_of me.0 in
      let front : List Entry = other.0.front in
      let new : PassView = view_after_hear front old in
      let is_seat : get_elem? table.views id ≡ some (pass_seat old) = there ∙ ap (λ (me : Me ℕ SeatView). some me.0) one in
      let is_view = (speaks_for ruled.seated id old is_seat).is_view in
      let is_other = sym (set_else table.views id other_id (pass_seat new) apart) ∙ at in
      let begins = (ruled.seated.each other_id other.0 is_other).front in
      record {
        state = put ruled.holds old new is_view (goes ruled.holds old is_view front begins) ruled.state.owners ruled.state.next;
        history = ruled.history;
        holds = hear_view ruled.holds old is_view front begins;
        seated = spent_beside (slice_set ruled.state.views old.number new) ruled.history (slice_set table.views id (pass_seat new)) other_id
            (reseated ruled.seated ruled.history id old new (prefix_refl ruled.history) refl is_seat);
      }
