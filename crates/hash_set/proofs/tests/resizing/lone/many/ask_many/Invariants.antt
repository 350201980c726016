use Rattle.hash_set.specs.Tests.{Keeps}
use Rattle.hash_set.proofs.tests.resizing.lone.many.ask_many.Given as goal

-- the pass is idle, and that of the number
abbrev pub invariant-loop-call : goal.invariant-loop-call
invariant-loop-call l = Keeps l.round l.fn.pass l.pass
