use Rattle.std.proofs.Common.{arith}
use Rattle.cells.proofs.laws.Fresh.{fresh_count}
use Rattle.hash_set.proofs.laws.Idle.{fresh_idle}
use Rattle.hash_set.proofs.tests.threads.own_keys_left.Goals as goal

-- all passes are idle as the round begins
pub call_together-passes-requires-clause-passes : goal.call_together-passes-requires-clause-passes
call_together-passes-requires-clause-passes g c = λ κs lives.
    fresh_idle c.in_ok-round.round c.in_ok-round.passes.items c.in_ok-round.ensures.passes c.in_ok-round.ensures.plan

-- there are 1 to 64
pub call_together-passes-requires-clause-some : goal.call_together-passes-requires-clause-some
call_together-passes-requires-clause-some g c = λ κs lives.
    let count = fresh_count c.in_ok-round.round c.in_ok-round.passes.items c.in_ok-round.ensures.passes in
    (omega (arith, count, c.in_ok-round.ensures.seats), omega (arith, count, c.in_ok-round.ensures.seats))
