use Rattle.std.proofs.Common.{◌≡◌, None}
use Rattle.cells.specs.Tokens.{IsPassOf}
use Rattle.fset.proofs.tests.turns.a_turn_changes_the_set_once.Given as goal

abbrev pub invariant-loop-insert : goal.invariant-loop-insert
invariant-loop-insert g l = record {
  pass : IsPassOf l.round l.pass;
  idle : l.pass.view.flight ≡ None;
}
