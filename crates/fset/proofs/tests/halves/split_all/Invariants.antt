use Rattle.cells.specs.Tokens.{IsSamePass}
use Rattle.fset.proofs.tests.halves.split_all.Given as goal

abbrev pub invariant-loop-half : goal.invariant-loop-half
invariant-loop-half l = IsSamePass l.fn.pass l.pass
