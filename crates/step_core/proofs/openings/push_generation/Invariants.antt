use Rattle.std.proofs.Common.{◌≡◌, ◌++◌, length}
use Rattle.step_core.specs.Buckets.{IsBucketStart}
use Rattle.step_core.proofs.tables.Rows.{generation_front}
use Rattle.step_core.proofs.openings.push_generation.Given as goal

-- the words of the buckets before are written
abbrev pub invariant-loop-bucket : goal.invariant-loop-bucket
invariant-loop-bucket l = record {
  start : IsBucketStart l.exponent l.keys l.bucket l.first;
  words : l.words.items ≡ l.fn.words.items ++ generation_front (length l.fn.words.items) l.exponent l.keys l.bucket;
}
