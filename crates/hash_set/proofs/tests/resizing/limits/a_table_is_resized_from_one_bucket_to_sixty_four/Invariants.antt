use Rattle.std.proofs.Common.{◌≡◌, None}
use Rattle.cells.specs.Tokens.{IsPassOf}
use Rattle.hash_set.proofs.tests.resizing.limits.a_table_is_resized_from_one_bucket_to_sixty_four.Given as goal

-- the pass is the round's, and idle
abbrev pub invariant-loop-key : goal.invariant-loop-key
invariant-loop-key g l = record {
  pass : IsPassOf l.round l.pass;
  number : l.pass.view.number ≡ 0;
  idle : l.pass.view.flight ≡ None;
}
