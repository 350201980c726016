use Rattle.std.proofs.Common.{sym, ◌∙◌}
use Rattle.set_model.proofs.LawRising.{rising_list_is_one}
use Rattle.set_model.proofs.plain_set.PlainSet.into_keys.Goals as goal

pub returns-clause-only : goal.returns-clause-only
returns-clause-only c keys rising same =
    rising_list_is_one c.self.inside.keys.items keys c.self.invariant rising (c.self.view_is ∙ sym same)
