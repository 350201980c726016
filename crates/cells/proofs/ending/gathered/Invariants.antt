use Rattle.std.proofs.Common.{vec_len}
use Rattle.cells.proofs.laws.Gathering.{IsGathered}
use Rattle.cells.proofs.ending.gathered.Given as goal

-- the table seat has the passes behind those that are left
abbrev pub invariant-loop-pass : goal.invariant-loop-pass
invariant-loop-pass l = IsGathered l.table.shared.table_id l.fn.passes.items l.passes.items l.seat.table_id l.seat.me

-- one fewer is left after each turn
abbrev pub decreases-loop-pass : goal.decreases-loop-pass
decreases-loop-pass l = vec_len l.passes
