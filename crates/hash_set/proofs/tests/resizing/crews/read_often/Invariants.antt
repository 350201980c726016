use Rattle.hash_set.specs.Tests.{Keeps}
use Rattle.hash_set.proofs.tests.resizing.crews.read_often.Given as goal

-- the pass is idle, and that of the number
abbrev pub invariant-loop-k : goal.invariant-loop-k
invariant-loop-k l = Keeps l.round l.fn.pass l.pass
