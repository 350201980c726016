use Rattle.std.proofs.Common.{nat_eq}
use Rattle.std.specs.HashSet.{contains}
use Rattle.certify.proofs.LawMembers.{after_insert, after_remove, after_contains}
use Rattle.certify.proofs.members.apply.Goals as goal

pub returns-in_ok-insert-in-Insert-clause-after : goal.returns-in_ok-insert-in-Insert-clause-after
returns-in_ok-insert-in-Insert-clause-after c = λ other.
    rw c.in-Insert.is (after_insert (contains nat_eq c.args.members.now) (contains nat_eq c.insert.new.self) c.args.key
    c.in_ok-insert-in-Insert.ensures.updates.0 other)

pub returns-in-Remove-clause-after : goal.returns-in-Remove-clause-after
returns-in-Remove-clause-after c = λ other.
    rw c.in-Remove.is (after_remove (contains nat_eq c.args.members.now) (contains nat_eq c.remove.new.self) c.args.key
    c.remove.ensures.updates.0 other)

pub returns-in-Contains-clause-after : goal.returns-in-Contains-clause-after
returns-in-Contains-clause-after c = λ other.
    rw c.in-Contains.is (after_contains (contains nat_eq c.args.members.now) c.args.key other)
