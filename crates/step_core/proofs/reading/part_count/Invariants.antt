use Rattle.std.proofs.Common.{◌≡◌, ◌≤◌, length, take}
use Rattle.step_core.specs.Buckets.{class_keys}
use Rattle.step_core.proofs.reading.part_count.Given as goal

-- those of the keys before are counted
abbrev pub invariant-loop-key : goal.invariant-loop-key
invariant-loop-key l = record {
  count : l.count ≡ length (class_keys l.exponent l.class (take l.key-index l.row));
  few : l.count ≤ l.key-index;
}
