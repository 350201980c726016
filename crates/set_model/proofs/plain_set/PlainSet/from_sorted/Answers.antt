use Rattle.std.specs.FinSet as set
use Rattle.set_model.proofs.plain_set.PlainSet.from_sorted.Goals as goal

pub returns-clause-test : goal.returns-clause-test
returns-clause-test c = set.contains-from_list_nat c.args.keys.items
