use Rattle.std.proofs.Common.{sym, ap, ◌∙◌, ◌∷◌}
use Rattle.std.proofs.lemmas.List.Sorted.{IsPermutation-insert}
use Rattle.std.specs.List.{insert}
use Rattle.set_model.specs.Keys.{keys_set}
use Rattle.set_model.proofs.LawKeys.{keys_set-IsPermutation}
use Rattle.set_model.proofs.sorted.put.Goals as goal

pub returns-clause-ok : goal.returns-clause-ok
returns-clause-ok c =
    let keys = c.args.keys.now.items in
    ap keys_set c.in_ok-insert.ensures.items
    ∙ sym (keys_set-IsPermutation (c.args.key ∷ keys) (insert keys c.args.place c.args.key)
    (IsPermutation-insert keys c.args.place c.args.key))
