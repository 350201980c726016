use Rattle.std.proofs.Common.{vec_len}
use Rattle.claims.proofs.LawGathering.{IsGathering}
use Rattle.claims.proofs.counter.gathered.Given as goal

-- the seat knows what all know but those that are left
abbrev pub invariant-loop-next : goal.invariant-loop-next
invariant-loop-next l = IsGathering l.table.shared.table_id l.fn.seats.items l.seats.items l.seat.table_id l.seat.me

-- one fewer is left after each turn
abbrev pub decreases-loop-next : goal.decreases-loop-next
decreases-loop-next l = vec_len l.seats
