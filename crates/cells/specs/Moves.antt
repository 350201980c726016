-- A kind of step as one statement: where the invariant holds, it holds after the step, with another
-- view of the pass.
use Rattle.std.specs.Prelude.{◌≡◌, ◌≢◌, ℕ, ◌+◌, ◌*◌, ◌<◌, ◌≤◌, ◌^◌, List, [], slice_index, slice_set}
use mathlib.Core.List.{IsPrefix}
use mathlib.Core.Option.{Option, none, some}
use lib.ListN.{get_elem?}
use Rattle.set_model.specs.declared.entry.Entry.{Entry}
use Rattle.atomic_table.specs.Table.{Me}
use Rattle.atomic_table.specs.Table.{Step as TableStep}
use Rattle.step_core.specs.States.{RoundState}
use Rattle.step_core.specs.Steps.{place_of, after_step}
use Rattle.step_core.specs.Limits.{max_draw}
use Rattle.step_core.specs.declared.kinds.Step.{Step}
use Rattle.step_core.specs.declared.views.PassView.{PassView}
use Rattle.step_core.specs.declared.views.RoundFacts.{RoundFacts}
use Rattle.arena.specs.Hands.{words_at}
use Rattle.cells.specs.declared.rule.SeatView.{SeatView}
use Rattle.step_core.specs.Format.{IsNil, row_address}
use Rattle.cells.specs.Exchanges.{SwapsRow, LosesSwap}
use Rattle.cells.specs.Filling.{FillsBucket, LosesFill}
use Rattle.cells.specs.Freezing.{FreezesBucket}
use Rattle.cells.specs.HeadSwaps.{SwapsHead, LosesHead}
use Rattle.cells.specs.Invariant.{HoldsRound}
use Rattle.cells.specs.Sound.{IsSound}
use Rattle.cells.specs.Lone.{SameLedger}
use Rattle.cells.specs.Past.{longer}
use Rattle.cells.specs.Seats.{pass_of, pass_seat}
use Rattle.cells.specs.Steps.{LoadsHead, LoadsSealed, LoadsBucket, FindsNext, view_after_draw, view_after_overdraw, view_after_write}

-- the round after a step of one pass: the invariant holds, and only that pass's view is another
pub record Moved (facts : RoundFacts) (words : List ℕ) (before : RoundState) (past : List Entry)
    (old : PassView) (told : PassView → Type 0) : Type 0 where
  pub view : PassView
  pub state : RoundState
  pub history : List Entry
  pub holds : HoldsRound facts words state history
  pub views : state.views ≡ slice_set before.views old.number view
  pub number : view.number ≡ old.number
  pub same_round : view.facts ≡ old.facts
  pub grows : IsPrefix past history
  pub tells : told view

-- whatever the round is when the pass makes the step, it may have a new view that tells this of the
-- word found
abbrev pub Moves : RoundFacts → PassView → Step → (ℕ → PassView → Type 0) → Type 0
Moves facts old step told = (words : List ℕ) (state : RoundState) (history : List Entry)
    → HoldsRound facts words state history → get_elem? state.views old.number ≡ some old
    → slice_index words (place_of step) < 2 ^ 64
    → Moved facts (after_step step words) state history old
    (told (slice_index words (place_of step)))

-- what a step at the table tells its pass
pub record Tells (told : PassView → TableStep ℕ → ℕ → PassView → Type 0) (step : TableStep ℕ)
    (before : Me ℕ SeatView) (word : ℕ) (after : Me ℕ SeatView) : Type 0 where
  pub view : PassView
  pub seat : after ≡ (pass_seat view, [])
  pub number : view.number ≡ (pass_of before.0).number
  pub same_round : view.facts ≡ (pass_of before.0).facts
  pub sound : IsSound view
  pub tells : told (pass_of before.0) step word view

-- what the loads tell, as what a step at the table tells
abbrev pub load_head_tells : PassView → TableStep ℕ → ℕ → PassView → Type 0
load_head_tells old step word new = LoadsHead old word new

abbrev pub load_sealed_tells : PassView → TableStep ℕ → ℕ → PassView → Type 0
load_sealed_tells old step word new = LoadsSealed step.word old word new

abbrev pub load_bucket_tells : PassView → TableStep ℕ → ℕ → PassView → Type 0
load_bucket_tells old step word new = LoadsBucket step.word old word new

-- NEXT never wraps, and the draw gives a block exactly where that doesn't pass the end
pub record DrawTells (old : PassView) (step : TableStep ℕ) (next : ℕ) (new : PassView)
    : Type 0 where
  pub found : FindsNext old next
  pub small : next ≤ (old.facts.seats + 1) * max_draw
  pub fresh : words_at old.hands next ≡ []
  pub within : next + step.first ≤ old.facts.cap → new ≡ view_after_draw next step.first old
  pub past : old.facts.cap < next + step.first → new ≡ view_after_overdraw next step.first old

-- a write tells that the word is written
abbrev pub write_tells : PassView → TableStep ℕ → ℕ → PassView → Type 0
write_tells old step word new = new ≡ view_after_write step.word step.first old

-- the serial that an exchange is told, which is for the proof alone
abbrev pub serial_of : Option ℕ → ℕ
serial_of none = 0
serial_of (some serial) = serial

-- an exchange of the word `first` for that of the row in hand is won where it finds it
pub record SwapTells (old : PassView) (step : TableStep ℕ) (word : ℕ) (new : PassView) : Type 0 where
  pub won : word ≡ step.first
      → SwapsRow (serial_of step.said) step.first (row_address step.second) old new
  pub lost : word ≢ step.first → LosesSwap old new

-- a freeze tells of the word that it found
abbrev pub freeze_tells : PassView → TableStep ℕ → ℕ → PassView → Type 0
freeze_tells old step word new = FreezesBucket step.word old word new

-- an exchange of a nil bucket's word for that of the row in hand is won where it finds 0
pub record FillTells (old : PassView) (step : TableStep ℕ) (word : ℕ) (new : PassView) : Type 0 where
  pub won : IsNil word → FillsBucket step.word (row_address step.second) old new
  pub lost : ¬ IsNil word → LosesFill step.word old new

-- an exchange of the head `first` for the generation in hand is won where it finds it
pub record HeadTells (old : PassView) (step : TableStep ℕ) (word : ℕ) (new : PassView) : Type 0 where
  pub won : word ≡ step.first → SwapsHead step.first step.second old new
  pub lost : word ≢ step.first → LosesHead step.first old new

-- what a pass has once it took a note: the note's front beside its own
abbrev pub view_after_hear : List Entry → PassView → PassView
view_after_hear front view = record view {
  heard = front;
  made = record view.made { learned = view.made.learned + 1 };
}

-- what a pass has once it learned which of its own front and that of a note is longer
abbrev pub view_after_learn : PassView → PassView
view_after_learn view = record view {
  front = longer view.front view.heard;
  heard = [];
  made = record view.made { learned = view.made.learned + 1 };
}

-- both are fronts of the longer one
pub record LearnTells (old : PassView) (step : TableStep ℕ) (word : ℕ) (new : PassView)
    : Type 0 where
  pub own : IsPrefix old.front (longer old.front old.heard)
  pub other : IsPrefix old.heard (longer old.front old.heard)
  pub view : new ≡ view_after_learn old
  pub alone : old.facts.seats ≡ 1 → SameLedger old new
