use Rattle.claims.specs.Tokens.{IsSeatOf}
use Rattle.claims.proofs.tests.the_most_places_in_the_largest_chunks.Given as goal

abbrev pub invariant-loop-part : goal.invariant-loop-part
invariant-loop-part g l = IsSeatOf l.claims l.seat
