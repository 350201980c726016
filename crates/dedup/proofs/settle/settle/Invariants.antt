use Rattle.std.proofs.Common.{◌≡◌, map, take}
use Rattle.std.specs.FinSet as set
use Rattle.chain.specs.Workers.{AreSettled}
use Rattle.set_model.specs.History.{set_after}
use Rattle.dedup.specs.Records.{asked_of}
use Rattle.dedup.specs.Settling.{handed_in}
use Rattle.dedup.proofs.settle.settle.Given as goal

-- the calls of the hands so far are settled
abbrev pub invariant-loop-who : goal.invariant-loop-who
invariant-loop-who l = record {
  settled : AreSettled (asked_of l.records) (map handed_in (take l.who l.hands)) (set.contains l.fn.plain) l.settled.items;
  after : l.plain ≡ set_after l.fn.plain l.settled.items;
}
