use Rattle.std.proofs.Common.{arith}
use Rattle.cells.proofs.laws.Fresh.{fresh_count}
use Rattle.hash_set.proofs.laws.Idle.{fresh_idle}
use Rattle.hash_set.proofs.tests.resizing.crews.keys_left.Goals as goal

-- all passes are idle as the round begins
pub work_together-passes-requires-clause-passes : goal.work_together-passes-requires-clause-passes
work_together-passes-requires-clause-passes g c = λ κs lives.
    fresh_idle c.in_ok-round.round c.in_ok-round.passes.items c.in_ok-round.ensures.passes c.in_ok-round.ensures.plan

-- there are five
pub work_together-passes-requires-clause-some : goal.work_together-passes-requires-clause-some
work_together-passes-requires-clause-some g c = λ κs lives.
    let count = fresh_count c.in_ok-round.round c.in_ok-round.passes.items c.in_ok-round.ensures.passes in
    (omega (arith, count, c.in_ok-round.ensures.seats), omega (arith, count, c.in_ok-round.ensures.seats))

pub work_together-passes-requires-2-clause-some : goal.work_together-passes-requires-2-clause-some
work_together-passes-requires-2-clause-some g c = λ κs lives.
    let count = fresh_count c.in_ok-round.round c.in_ok-round.passes.items c.in_ok-round.ensures.passes in
    let long = c.work_together-passes.ensures.long in
    (omega (arith, count, long, c.in_ok-round.ensures.seats), omega (arith, count, long, c.in_ok-round.ensures.seats))

pub work_together-passes-requires-3-clause-some : goal.work_together-passes-requires-3-clause-some
work_together-passes-requires-3-clause-some g c = λ κs lives.
    let count = fresh_count c.in_ok-round.round c.in_ok-round.passes.items c.in_ok-round.ensures.passes in
    let long = c.work_together-passes.ensures.long in
    let longer = c.work_together-passes-2.ensures.long in (
      omega (arith, count, long, longer, c.in_ok-round.ensures.seats),
      omega (arith, count, long, longer, c.in_ok-round.ensures.seats),
    )
