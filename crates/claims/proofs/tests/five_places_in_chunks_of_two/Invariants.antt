use Rattle.claims.specs.Tokens.{IsSeatOf}
use Rattle.claims.proofs.tests.five_places_in_chunks_of_two.Given as goal

abbrev pub invariant-loop-want : goal.invariant-loop-want
invariant-loop-want g l = IsSeatOf l.claims l.seat
