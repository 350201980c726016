use Rattle.std.proofs.Common.{◌≡◌, ◌++◌, take}
use Rattle.step_core.specs.Buckets.{class_keys}
use Rattle.step_core.proofs.reading.push_part.Given as goal

-- those of the keys before are added
abbrev pub invariant-loop-key : goal.invariant-loop-key
invariant-loop-key l = l.keys.items ≡ l.fn.keys.items ++ class_keys l.exponent l.class (take l.key-index l.row)
