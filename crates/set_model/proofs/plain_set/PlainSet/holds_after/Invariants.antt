use Rattle.std.proofs.Common.{◌≡◌, take}
use Rattle.std.specs.FinSet as set
use Rattle.set_model.specs.History.{members_after}
use Rattle.set_model.proofs.plain_set.PlainSet.holds_after.Given as goal

abbrev pub invariant-loop-entry : goal.invariant-loop-entry
invariant-loop-entry l = l.present ≡ members_after (set.contains l.self) (take l.entry-index l.history) l.key
