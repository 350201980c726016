use Rattle.std.proofs.Common.{◌≡◌, length}
use Rattle.step_core.specs.Plain.{keys_before}
use Rattle.step_core.proofs.reading.key_count.Given as goal

-- the keys of the classes before are counted
abbrev pub invariant-loop-class : goal.invariant-loop-class
invariant-loop-class l = l.count ≡ length (keys_before l.words l.class)
