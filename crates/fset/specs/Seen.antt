-- A row as a pass read it.
use Rattle.std.specs.Prelude.{◌≡◌, ◌≢◌, ℕ, List, [], ◌∷◌, length, Contains}
use Rattle.step_core.specs.declared.published.OpBlock.{OpBlock}
use Rattle.step_core.specs.declared.published.Published.TheVariants.{Op}
use Rattle.step_core.specs.declared.views.FixedCell.{FixedCell}
use Rattle.step_core.specs.declared.views.Known.{Known}
use Rattle.step_core.specs.declared.views.PassView.{PassView}
use Rattle.cells.specs.Known.{known_block, KnowsRow, row_at, keys_at}
use Rattle.cells.specs.Lone.{SameLedger}
use Rattle.cells.specs.Marks.{IsMarkedFor}
use Rattle.cells.specs.Steps.{AgreesAtFront}
use Rattle.fset.specs.declared.seen.Seen.{Seen}
use Rattle.fset.specs.Frames.{Reads}

-- the pass knows a row at the address
abbrev pub KnowsRowAt : PassView → ℕ → Type 0
KnowsRowAt view at = KnowsRow view at (row_at view.known at)

-- the result of an operation, which is its only cell, changes no more
abbrev pub fixed_result : ℕ → ℕ → FixedCell
fixed_result op result = record { at = op; place = 0; word = result }

-- a row without an operation has no result, and one that isn't 0 is known to be that of the
-- operation
pub record HasResult (view : PassView) (op result : ℕ) : Type 0 where
  pub none : op ≡ 0 → result ≡ 0
  pub settled : result ≢ 0 → Contains view.fixed (fixed_result op result)

-- The words that were read are those of the row that the pass knows there. That stays so while the
-- pass learns more.
pub record IsSeen (view : PassView) (seen : Seen) : Type 0 where
  pub known : KnowsRowAt view seen.at
  pub count : seen.count ≡ length (keys_at view seen.at)
  pub op : seen.op ≡ (row_at view.known seen.at).op
  pub result : HasResult view seen.op seen.result

-- what reading a known row tells: it makes two loads
pub record ReadsRow (at : ℕ) (old : PassView) (seen : Seen) (new : PassView) : Type 0 where
  pub place : seen.at ≡ at
  -- it is the row that was known
  pub same : row_at new.known at ≡ row_at old.known at
  pub agrees : IsSeen new seen
  pub learned : List Known
  pub reads : Reads learned 2 old new
  -- a row without an operation makes nothing known, nor any cell to change no more
  pub nothing : seen.op ≡ 0 → learned ≡ []
  pub unfixed : seen.op ≡ 0 → new.fixed ≡ old.fixed
  -- and one with an operation that operation alone, whose result isn't loaded
  pub learns_op : seen.op ≢ 0 → (op : OpBlock) × (learned ≡ known_block seen.op (Op op) ∷ [])
  pub unread : seen.result ≡ 0
  -- A marked row without an operation agrees with the set after the new front on the mark's keys, and is
  -- marked from there.
  pub marked : seen.op ≡ 0 → (key : ℕ) → IsMarkedFor old at key
      → AgreesAtFront new (row_at new.known at) key × IsMarkedFor new at key
  pub alone : old.facts.seats ≡ 1 → SameLedger old new
