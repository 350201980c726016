use Rattle.std.proofs.Common.{sym, ◌∙◌}
use Rattle.set_model.proofs.LawMembers.{members_after_call-Insert, members_after_call-Remove, members_after_call-Contains, members_after_call-other}
use Rattle.set_model.proofs.entry.Entry.leaves.Goals as goal

pub returns-then-key-self : goal.returns-then-key-self
returns-then-key-self c members before =
    let entry = c.args.self.now in
    sym before ∙ sym (members_after_call-other entry.call entry.key members c.args.key c.if-key-self.true)

pub returns-in-Insert : goal.returns-in-Insert
returns-in-Insert c members before =
    rw (c.in-Insert.is, c.if-key-self.false) (sym (members_after_call-Insert c.args.self.now.key members))

pub returns-in-Remove : goal.returns-in-Remove
returns-in-Remove c members before =
    rw (c.in-Remove.is, c.if-key-self.false) (sym (members_after_call-Remove c.args.self.now.key members))

pub returns-in-Contains : goal.returns-in-Contains
returns-in-Contains c members before =
    rw c.in-Contains.is (sym before ∙ sym (members_after_call-Contains c.args.self.now.key members c.args.key))
