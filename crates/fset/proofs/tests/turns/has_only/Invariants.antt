use Rattle.std.proofs.Common.{◌≡◌}
use Rattle.cells.specs.Tokens.{IsSamePass}
use Rattle.fset.proofs.tests.turns.has_only.Given as goal

abbrev pub invariant-loop-key : goal.invariant-loop-key
invariant-loop-key l = record {
  same : IsSamePass l.fn.pass l.pass;
  idle : l.pass.view.flight ≡ l.fn.pass.view.flight;
}
