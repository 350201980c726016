use Rattle.std.proofs.Common.{◌-◌, ◌≤◌, length}
use Rattle.claims.specs.Tokens.{IsSeatOf}
use Rattle.claims.proofs.tests.threads.mark_all.Given as goal

-- the seat is of the counter, and each place has a mark
abbrev pub invariant-loop-claim : goal.invariant-loop-claim
invariant-loop-claim l = IsSeatOf l.claims l.seat × (l.claims.setup.len ≤ length l.marks)

-- a seat has no more claims than there are places
abbrev pub decreases-loop-claim : goal.decreases-loop-claim
decreases-loop-claim l = l.claims.setup.len - length l.seat.claims
