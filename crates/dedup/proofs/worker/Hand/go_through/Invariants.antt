use Rattle.std.proofs.Common.{◌≡◌, take}
use Rattle.dedup.specs.Workers.{HasBegun}
use Rattle.dedup.specs.declared.worker.Stop.TheVariants.{Finished}
use Rattle.dedup.proofs.worker.Hand.go_through.Given as goal

-- the inserts of the records so far were begun and answered
abbrev pub invariant-loop-number : goal.invariant-loop-number
invariant-loop-number g l = record {
  number : l.pass.view.number ≡ l.fn.pass.view.number;
  made : l.self.made.items ≡ take l.number-index l.part;
  begun : HasBegun l.job.records.now l.job.round.now Finished l.self l.pass;
}
