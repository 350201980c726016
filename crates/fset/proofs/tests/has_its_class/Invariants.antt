use Rattle.cells.specs.Tokens.{IsSamePass}
use Rattle.fset.proofs.tests.has_its_class.Given as goal

abbrev pub invariant-loop-key : goal.invariant-loop-key
invariant-loop-key l = IsSamePass l.fn.pass l.pass
