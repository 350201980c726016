-- A row that takes the place of another with one key more or less: the members are then what that one call leaves.
use Rattle.std.proofs.Common.{◌≡◌, ◌≢◌, ℕ, Bool, true, ◌==◌, ◌||◌, ◌&&◌, not, List, [], ◌∷◌, ◌++◌, Option, refl, sym, ap, ◌∙◌, ne_eqb}
use native.Mathlib.Decide.{ℕ_discrete}
use Rattle.std.specs.List.Sorted.{IsStrictlyIncreasing}
use Rattle.set_model.specs.Call.{answer_where, members_after_call}
use Rattle.set_model.specs.History.{members_after}
use Rattle.set_model.specs.Keys.{is_in}
use Rattle.set_model.specs.declared.call.Call.{Call}
use Rattle.set_model.specs.declared.call.Call.TheVariants.{Insert, Remove, Contains}
use Rattle.set_model.specs.declared.entry.Entry.{Entry}
use Rattle.set_model.proofs.LawHistory.{members_after-push}
use Rattle.step_core.specs.Buckets.{key_bucket}
use Rattle.step_core.specs.Content.{InClass}
use Rattle.step_core.specs.Fits.{IsChain}
use Rattle.step_core.specs.Format.{row_address}
use Rattle.step_core.specs.Members.{row_content, is_held, HoldsMembers}
use Rattle.step_core.specs.Rising.{ChangesKeys, IsChange}
use Rattle.step_core.specs.States.{IsRow}
use Rattle.step_core.specs.declared.published.Published.{Published}
use Rattle.step_core.specs.declared.published.GenerationBlock.{GenerationBlock}
use Rattle.step_core.specs.declared.published.RowBlock.{RowBlock}
use Rattle.step_core.proofs.changes.Named.{with_row, with_name}
use Rattle.step_core.proofs.changes.Held.{held_apart, held_here, held_before}
use Rattle.step_core.proofs.changes.Replaced.{Replaces, replacing, chain_replaced}
use Rattle.step_core.proofs.lists.Calls.{is_in-after_call}
use Rattle.step_core.proofs.seen.Held.{row_content-plain}

-- what a call leaves at a key hangs on that key alone,
members_at : (call : Call) (key : ℕ) (one other : ℕ → Bool) (k : ℕ) → one k ≡ other k
    → members_after_call call key one k ≡ members_after_call call key other k
unfolding members_after_call
members_at Insert key one other k same = ap (λ (b : Bool). k == key || b) same
members_at Remove key one other k same = ap (λ (b : Bool). not (k == key) && b) same
members_at Contains key one other k same = same

-- and another key stays as it was
pub members_apart : (call : Call) (key : ℕ) (members : ℕ → Bool) (k : ℕ) → k ≢ key → members_after_call call key members k ≡ members k
unfolding members_after_call
members_apart Insert key members k apart = ap (λ (b : Bool). b || members k) (ne_eqb k key apart)
members_apart Remove key members k apart = ap (λ (b : Bool). not b && members k) (ne_eqb k key apart)
members_apart Contains key members k apart = refl

-- a changing call is answered true
pub changes_answer : (call : Call) (key : ℕ) (keys : List ℕ) (present : Bool) → ChangesKeys call key keys → is_in keys key ≡ present
    → true ≡ answer_where call present
changes_answer Insert key keys present changes is = ap not (sym changes) ∙ ap not is
changes_answer Remove key keys present changes is = sym changes ∙ is
changes_answer Contains key keys present changes is = absurd changes

module _ {head : ℕ} {blocks : ℕ → Option Published} {cells : ℕ → ℕ → ℕ} (chain : IsChain head blocks cells)
    {g bucket : ℕ} {generation : GenerationBlock} {at : ℕ} {row : RowBlock} (r : Replaces blocks cells g bucket generation at row) where
  -- the blocks and the cells after it
  abbrev new_blocks : ℕ → Option Published
  new_blocks = with_row (replacing r)

  abbrev new_cells : ℕ → ℕ → ℕ
  new_cells = with_name (replacing r)

  -- a key of the bucket is held where the new row has it
  row_holds : (key : ℕ) → InClass generation.exponent bucket key → is_held head new_blocks new_cells key ≡ is_in row.keys key
  row_holds key class =
      held_here (replacing r) chain key class (chain_replaced r chain)
      ∙ row_content-plain head new_blocks new_cells row key r.plain

  module _ (keys old_keys : List ℕ) (history : List Entry) (entry : Entry) (old : RowBlock)
      (old_here : IsRow blocks (row_address (cells g bucket)) old)
      (content : (key : ℕ) → row_content blocks cells old key ≡ is_in old_keys key) (rising : IsStrictlyIncreasing old_keys)
      (change : IsChange old_keys row.keys entry.call entry.key) (class : InClass generation.exponent bucket entry.key)
      (holds : HoldsMembers keys head blocks cells history) where
    -- the old row has its part of the set
    old_part : (key : ℕ) → InClass generation.exponent bucket key → is_in old_keys key ≡ members_after (is_in keys) history key
    old_part key here = sym (content key) ∙ sym (held_before (replacing r) chain key here r.filled old old_here) ∙ holds key

    -- the call changes the set, so its answer is true
    pub changes_members : true ≡ answer_where entry.call (members_after (is_in keys) history entry.key)
    changes_members =
        changes_answer entry.call entry.key old_keys (members_after (is_in keys) history entry.key) change.changes (old_part entry.key class)

    -- The members are those of the set after the call.
    pub members_changed : HoldsMembers keys head new_blocks new_cells (history ++ entry ∷ [])
    members_changed key =
        let before : ℕ → Bool = members_after (is_in keys) history in
        elim (ℕ_discrete (key_bucket generation.exponent key) bucket) [
          | yes here ↦
              row_holds key here
              ∙ ap (λ (list : List ℕ). is_in list key) change.after
              ∙ is_in-after_call entry.call entry.key old_keys key rising
              ∙ members_at entry.call entry.key (is_in old_keys) before key (old_part key here)
              ∙ ap (λ (members : ℕ → Bool). members key) (sym (members_after-push (is_in keys) history entry))
          | no other ↦
              held_apart (replacing r) chain key other
              ∙ holds key
              ∙ sym (members_apart entry.call entry.key before key
              (λ same. other (ap (key_bucket generation.exponent) same ∙ class)))
              ∙ ap (λ (members : ℕ → Bool). members key) (sym (members_after-push (is_in keys) history entry))
        ]
