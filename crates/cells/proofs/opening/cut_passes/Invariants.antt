use Rattle.cells.proofs.laws.Cutting.{IsCut}
use Rattle.cells.proofs.opening.cut_passes.Given as goal

-- the passes below the number have their table seats, and the first table seat has the rest
abbrev pub invariant-loop-number : goal.invariant-loop-number
invariant-loop-number l = IsCut l.round l.number l.seat.table_id l.seat.me l.passes.items
