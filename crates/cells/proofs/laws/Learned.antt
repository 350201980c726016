-- What a pass that learned from a note has: the longer front, and all else as it was.
use Rattle.std.proofs.Common.{◌≡◌, ℕ, ◌+◌, ◌≤◌, List, [], length, refl, ap, sym, ◌∙◌, subst, arith}
use mathlib.Core.List.{IsPrefix}
use Rattle.atomic_table.specs.Table.{Step as TableStep}
use Rattle.set_model.specs.declared.entry.Entry.{Entry}
use Rattle.step_core.specs.declared.views.PassView.{PassView}
use Rattle.cells.specs.Frames.{OnlyLearns}
use Rattle.cells.specs.Lone.{ledger_of, SameLedger}
use Rattle.cells.specs.Moves.{LearnTells, view_after_hear}
use Rattle.cells.specs.Past.{longer}
use Rattle.cells.specs.Steps.{Learns}
use Rattle.cells.proofs.laws.Fronts.{longer_is_long}

module _ (old : PassView) (front : List Entry) (new : PassView) (learns : Learns old front new) where
  -- Learning keeps all but the front.
  pub learn_keeps : OnlyLearns old new
  learn_keeps = subst (OnlyLearns old) (sym learns.view) refl

  -- The front is the longer of both.
  pub learn_front : new.front ≡ longer old.front front
  learn_front = ap (λ (view : PassView). view.front) learns.view

  -- So it is as long as both.
  pub learn_front_long : (length old.front ≤ length new.front) × (length front ≤ length new.front)
  learn_front_long =
      subst (λ (list : List Entry). (length old.front ≤ length list) × (length front ≤ length list)) (sym learn_front)
      (longer_is_long old.front front)

-- what was heard and not yet learned is no part of the ledger
heard_ledger : (front : List Entry) (old new : PassView) → SameLedger (view_after_hear front old) new → SameLedger old new
unfolding ledger_of
heard_ledger front old new same = record { front = same.front; ledger = same.ledger }

-- a pass that had learned from all notes before, and then heard this one, learns from it
pub learned_from_note : (front : List Entry) (old new : PassView) (step : TableStep ℕ) (word : ℕ) → old.heard ≡ []
    → LearnTells (view_after_hear front old) step word new → Learns old front new
learned_from_note front old new step word heard tells =
    let front_is : longer old.front front ≡ new.front = sym (ap (λ (view : PassView). view.front) tells.view) in
    record {
      own = subst (λ (list : List Entry). IsPrefix old.front list) front_is tells.own;
      other = subst (λ (list : List Entry). IsPrefix front list) front_is tells.other;
      view = tells.view ∙ (λ i. record old {
        front = longer old.front front;
        heard = sym heard i;
        made = record old.made { learned = (let two : old.made.learned + 1 + 1 ≡ old.made.learned + 2 = omega arith in two) i };
      });
      alone = λ alone. heard_ledger front old new (tells.alone alone);
    }
