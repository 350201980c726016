use Rattle.std.proofs.Common.{◌≡◌, None}
use Rattle.cells.specs.Tokens.{IsPassOf}
use Rattle.hash_set.proofs.tests.resizing.limits.resizes.Given as goal

-- the pass is idle, and that of the number
abbrev pub invariant-loop-made : goal.invariant-loop-made
invariant-loop-made l = record {
  pass : IsPassOf l.round l.pass;
  number : l.pass.view.number ≡ l.fn.pass.view.number;
  idle : l.pass.view.flight ≡ None;
}
