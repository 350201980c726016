use Rattle.std.proofs.Common.{arith}
use Rattle.cells.proofs.laws.Fresh.{fresh_all-is, fresh_count}
use Rattle.buckets.proofs.tests.threads.words_left.Goals as goal

-- the passes are all of the round as it begins
pub resize_together-passes-requires-clause-passes : goal.resize_together-passes-requires-clause-passes
resize_together-passes-requires-clause-passes g c = λ κs lives.
    fresh_all-is c.in_ok-round.round c.in_ok-round.passes.items c.in_ok-round.ensures.passes

-- there are four
pub resize_together-passes-requires-clause-few : goal.resize_together-passes-requires-clause-few
resize_together-passes-requires-clause-few g c = λ κs lives.
    let count = fresh_count c.in_ok-round.round c.in_ok-round.passes.items c.in_ok-round.ensures.passes in
    omega (arith, count, c.in_ok-round.ensures.seats)
