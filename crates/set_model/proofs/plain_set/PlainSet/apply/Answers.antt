use Rattle.std.proofs.Common.{◌≡◌, true, false, sym}
use Rattle.std.specs.FinSet as set
use Rattle.set_model.proofs.LawKeys.{insert-present, remove-absent}
use Rattle.set_model.proofs.plain_set.PlainSet.apply.Goals as goal

-- the key was there
pub returns-in-Ok-clause-after : goal.returns-in-Ok-clause-after
returns-in-Ok-clause-after c =
    let here : set.contains c.args.self.now c.args.key ≡ true = cc (c.in-Ok.ensures.present) in
    rw c.in-Insert.is (sym (insert-present c.args.self.now c.args.key here))

-- the key was absent
pub returns-in-Err-find-clause-after : goal.returns-in-Err-find-clause-after
returns-in-Err-find-clause-after c =
    let gone : set.contains c.args.self.now c.args.key ≡ false = cc (c.in-Err-find.ensures.present) in
    rw c.in-Remove.is (sym (remove-absent c.args.self.now c.args.key gone))
