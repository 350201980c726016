use Rattle.std.proofs.Common.{arith}
use Rattle.cells.proofs.laws.Fresh.{fresh_count}
use Rattle.hash_set.proofs.laws.Idle.{fresh_idle}
use Rattle.hash_set.proofs.tests.resizing.stale.looks_of.Goals as goal

-- all passes are idle as the round begins
pub look_beside-requires-clause-passes : goal.look_beside-requires-clause-passes
look_beside-requires-clause-passes c =
    fresh_idle c.in_ok-round.round c.in_ok-round.passes.items c.in_ok-round.ensures.passes c.in_ok-round.ensures.plan

-- there are two at least
pub look_beside-requires-clause-some : goal.look_beside-requires-clause-some
look_beside-requires-clause-some c =
    let count = fresh_count c.in_ok-round.round c.in_ok-round.passes.items c.in_ok-round.ensures.passes in
    omega (arith, count, c.in_ok-round.ensures.seats)
