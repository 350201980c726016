-- The table invariant: what holds of a round between any two steps, whatever the schedule.
use Rattle.std.specs.Prelude.{◌≡◌, ℕ, ◌<◌, ◌^◌, List, All, Option}
use Rattle.set_model.specs.declared.entry.Entry.{Entry}
use Rattle.step_core.specs.Fits.{Fits}
use Rattle.step_core.specs.Format.{IsNil, IsFrozen}
use Rattle.step_core.specs.Members.{HoldsMembers}
use Rattle.step_core.specs.States.{RoundState, Each, IsGeneration, IsRow}
use Rattle.step_core.specs.declared.published.Published.{Published}
use Rattle.step_core.specs.declared.published.GenerationBlock.{GenerationBlock}
use Rattle.step_core.specs.declared.published.RowBlock.{RowBlock}
use Rattle.step_core.specs.declared.views.FilledBucket.{FilledBucket}
use Rattle.step_core.specs.declared.views.FixedCell.{FixedCell}
use Rattle.step_core.specs.declared.views.PassView.{PassView}
use Rattle.step_core.specs.declared.views.RoundFacts.{RoundFacts}
use Rattle.cells.specs.Hindsight.{HasHindsight}
use Rattle.cells.specs.Lone.{KnowsAlone}
use Rattle.cells.specs.Past.{HoldsHistory, HasGivenKeys}
use Rattle.cells.specs.Paid.{ArePaid}
use Rattle.cells.specs.SoFar.{HasNoOp}
use Rattle.cells.specs.Sound.{AreFacts}

-- the bucket isn't nil
abbrev pub IsFilled : (ℕ → ℕ → ℕ) → FilledBucket → Type 0
IsFilled cells bucket = ¬ IsNil (cells bucket.at bucket.bucket)

-- the buckets that a pass knows to be filled are
abbrev pub KnowsFilled : (ℕ → ℕ → ℕ) → ℕ → PassView → Type 0
KnowsFilled cells pass view = All (IsFilled cells) view.filled

-- the cell is that of a bucket of a published generation, is frozen, and has the word
pub record IsFrozenCell (blocks : ℕ → Option Published) (cells : ℕ → ℕ → ℕ) (cell : FixedCell)
    : Type 0 where
  pub generation : GenerationBlock
  pub here : IsGeneration blocks cell.at generation
  pub within : cell.place < 2 ^ generation.exponent
  pub frozen : IsFrozen cell.word
  pub word : cells cell.at cell.place ≡ cell.word

-- the cells that a pass knows to change no more are frozen
abbrev pub KnowsFixed : (ℕ → Option Published) → (ℕ → ℕ → ℕ) → ℕ → PassView → Type 0
KnowsFixed blocks cells pass view = All (IsFrozenCell blocks cells) view.fixed

-- the words, what they stand for, and the history
pub record HoldsRound (facts : RoundFacts) (words : List ℕ) (state : RoundState)
    (history : List Entry) : Type 0 where
  pub small : AreFacts facts
  -- words, published blocks and views fit
  pub fits : Fits facts words state
  pub past : HoldsHistory facts state.blocks state.cells state.views history
  -- each key of a row is the opening's or an insert's
  pub given : (at : ℕ) (row : RowBlock) → IsRow state.blocks at row
      → HasGivenKeys facts.keys history row
  -- the members are the set after the history
  pub members : HoldsMembers facts.keys state.head state.blocks state.cells history
  pub paid : ArePaid state.head state.cells state.views
  pub filled : Each (KnowsFilled state.cells) state.views
  pub fixed : Each (KnowsFixed state.blocks state.cells) state.views
  -- what each pass noted of rows that may have been replaced is so
  pub hindsight : Each (HasHindsight facts.keys state.blocks state.cells history) state.views
  -- a pass that is the only one knows the whole table
  pub alone : Each (KnowsAlone facts state.head state.blocks state.cells) state.views
  pub no_op : HasNoOp state.blocks
