use Rattle.set_model.proofs.LawKeys.{present}
use Rattle.set_model.proofs.sorted.find.Goals as goal

pub returns-clause-present : goal.returns-clause-present
returns-clause-present c =
    (present c.args.keys.now c.args.key c.binary_search.result c.requires c.binary_search.ensures.position).0

pub returns-clause-absent : goal.returns-clause-absent
returns-clause-absent c =
    (present c.args.keys.now c.args.key c.binary_search.result c.requires c.binary_search.ensures.position).1
