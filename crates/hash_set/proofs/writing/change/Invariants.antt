use Rattle.std.proofs.Common.{◌≡◌}
use Rattle.cells.specs.Tokens.{IsSamePass}
use Rattle.hash_set.proofs.laws.Trying.{LosesTurns}
use Rattle.hash_set.proofs.writing.change.Given as goal

-- all turns so far were lost, so the only pass has made none
abbrev pub invariant-loop-losses : goal.invariant-loop-losses
invariant-loop-losses l = record {
  same : IsSamePass l.fn.pass l.pass;
  lost : LosesTurns l.call l.key l.losses l.fn.pass.view l.pass.view;
  first : l.fn.pass.view.facts.seats ≡ 1 → l.pass.view ≡ l.fn.pass.view;
}
