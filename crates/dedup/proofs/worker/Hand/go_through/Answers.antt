use Rattle.std.proofs.Common.{rules}
use Rattle.dedup.proofs.LawHands.{stops_part}
use Rattle.dedup.proofs.worker.Hand.go_through.Goals as goal

-- the insert that was begun last was refused, or found no memory
pub returns-then-ne-clause-done : goal.returns-then-ne-clause-done
returns-then-ne-clause-done g c =
    stops_part c.args.job.now.records.now c.args.job.now.round.now c.args.part.now c.loop-number.number-index c.begin-stop.result
    c.loop-number.self c.begin-stop.new.self c.begin-stop.new.pass c.loop-number-test.true (search rules)
    c.loop-number.invariant.made (search rules) c.begin-stop.ensures.begun
