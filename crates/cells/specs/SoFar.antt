-- What holds so far, while a round has no operation. Each field goes again with the step that ends it:
-- an announced operation.
use Rattle.std.specs.Prelude.{◌≡◌, ℕ, Option}
use Rattle.step_core.specs.States.{IsOp}
use Rattle.step_core.specs.declared.published.Published.{Published}
use Rattle.step_core.specs.declared.published.OpBlock.{OpBlock}
use Rattle.step_core.specs.declared.published.RowBlock.{RowBlock}
use Rattle.step_core.specs.declared.views.PassView.{PassView}
use Rattle.cells.specs.Known.{KnowsRow}

-- of the round: no operation is published
abbrev pub HasNoOp : (ℕ → Option Published) → Type 0
HasNoOp blocks = (at : ℕ) (op : OpBlock) → IsOp blocks at op → ⊥

-- of a view: no row that it knows has an operation
abbrev pub KnowsNoOp : PassView → Type 0
KnowsNoOp view = (at : ℕ) (row : RowBlock) → KnowsRow view at row → row.op ≡ 0
