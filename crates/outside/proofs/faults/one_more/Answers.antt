use Rattle.std.proofs.Common.{arith}
use Rattle.std.proofs.lemmas.Bool.Decides.{nat_tests}
use Rattle.outside.specs.Faults.{one_more}
use Rattle.outside.proofs.faults.one_more.Goals as goal

pub returns : goal.returns
unfolding one_more
returns c = grind (arith, nat_tests, c.saturating_add.ensures)
