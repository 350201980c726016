use Rattle.cells.specs.Tokens.{IsSamePass}
use Rattle.buckets.proofs.tests.threads.resize_often.Given as goal

-- the pass is the same
abbrev pub invariant-loop-call : goal.invariant-loop-call
invariant-loop-call l = IsSamePass l.fn.pass l.pass
