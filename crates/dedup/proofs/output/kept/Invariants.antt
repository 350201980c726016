use Rattle.std.proofs.Common.{◌≡◌, take}
use Rattle.dedup.specs.Records.{records_at}
use Rattle.dedup.proofs.output.kept.Given as goal

-- the records of the numbers so far
abbrev pub invariant-loop-number : goal.invariant-loop-number
invariant-loop-number l = l.kept.items ≡ records_at l.records (take l.number-index l.numbers)
