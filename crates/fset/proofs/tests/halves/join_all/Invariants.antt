use Rattle.cells.specs.Tokens.{IsSamePass}
use Rattle.fset.proofs.tests.halves.join_all.Given as goal

abbrev pub invariant-loop-bucket : goal.invariant-loop-bucket
invariant-loop-bucket l = IsSamePass l.fn.pass l.pass
