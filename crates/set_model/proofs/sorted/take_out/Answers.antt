use Rattle.std.proofs.Common.{ap, ◌∙◌, arith}
use Rattle.set_model.specs.Keys.{keys_set}
use Rattle.set_model.proofs.LawKeys.{keys_set-remove}
use Rattle.set_model.proofs.sorted.take_out.Goals as goal

pub returns-clause-after : goal.returns-clause-after
returns-clause-after c =
    ap keys_set c.remove.ensures.items
    ∙ keys_set-remove c.args.keys.now.items c.args.place c.requires.rising (omega (arith, c.requires.place, c.args.keys.now.ok.0))
