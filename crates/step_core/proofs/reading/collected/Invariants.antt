use Rattle.std.proofs.Common.{◌≡◌}
use Rattle.step_core.specs.Plain.{keys_before}
use Rattle.step_core.proofs.reading.collected.Given as goal

-- the keys of the classes before are collected
abbrev pub invariant-loop-class : goal.invariant-loop-class
invariant-loop-class l = l.keys.items ≡ keys_before l.words l.class
