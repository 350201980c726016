use Rattle.cells.proofs.laws.Fresh.{fresh_all-is}
use Rattle.cells.proofs.tests.ends.begin_and_end.Goals as goal

-- the passes are those that the round began with
pub ended-requires : goal.ended-requires
ended-requires c = fresh_all-is c.in_ok-round.round c.in_ok-round.passes.items c.in_ok-round.ensures.passes
