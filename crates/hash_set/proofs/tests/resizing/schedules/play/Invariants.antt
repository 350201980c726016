use Rattle.hash_set.specs.Tests.{KeepEach}
use Rattle.hash_set.proofs.tests.resizing.schedules.play.Given as goal

-- each pass is idle, and that of its number
abbrev pub invariant-loop-act : goal.invariant-loop-act
invariant-loop-act l = KeepEach l.round l.fn.passes l.passes
