use Rattle.cells.specs.Tokens.{IsPassOf}
use Rattle.fset.proofs.tests.each_of_a_thousand_keys_is_found_in_one_row.Given as goal

abbrev pub invariant-loop-bucket : goal.invariant-loop-bucket
invariant-loop-bucket g l = IsPassOf l.round l.pass
