use Rattle.std.proofs.Common.{arith}
use Rattle.cells.proofs.laws.Fresh.{fresh_count}
use Rattle.hash_set.proofs.laws.Idle.{fresh_idle}
use Rattle.hash_set.proofs.tests.resizing.schedules.tally_of.Goals as goal

-- all passes are idle as the round begins
pub play_all-passes-requires-clause-passes : goal.play_all-passes-requires-clause-passes
play_all-passes-requires-clause-passes c =
    fresh_idle c.in_ok-round.round c.in_ok-round.passes.items c.in_ok-round.ensures.passes c.in_ok-round.ensures.plan

-- there are some
pub play_all-passes-requires-clause-some : goal.play_all-passes-requires-clause-some
play_all-passes-requires-clause-some c =
    let count = fresh_count c.in_ok-round.round c.in_ok-round.passes.items c.in_ok-round.ensures.passes in
    omega (arith, count, c.in_ok-round.ensures.seats)
