use Rattle.hash_set.specs.Tests.{Keeps}
use Rattle.hash_set.proofs.tests.resizing.crews.change_own_keys.Given as goal

-- the pass is idle, and that of the number
abbrev pub invariant-loop-change : goal.invariant-loop-change
invariant-loop-change l = Keeps l.round l.fn.pass l.pass
