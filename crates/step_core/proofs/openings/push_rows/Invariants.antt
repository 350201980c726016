use Rattle.std.proofs.Common.{◌≡◌, ◌++◌}
use Rattle.step_core.specs.Buckets.{IsBucketStart}
use Rattle.step_core.specs.Openings.{rows_of}
use Rattle.step_core.proofs.openings.push_rows.Given as goal

-- the rows of the buckets before are written
abbrev pub invariant-loop-bucket : goal.invariant-loop-bucket
invariant-loop-bucket l = record {
  start : IsBucketStart l.exponent l.keys l.bucket l.first;
  words : l.words.items ≡ l.fn.words.items ++ rows_of l.exponent l.keys l.bucket;
}
