use Rattle.std.proofs.Common.{◌≡◌, take}
use Rattle.set_model.specs.History.{set_after}
use Rattle.set_model.proofs.plain_set.PlainSet.replay.Given as goal

abbrev pub invariant-loop-entry : goal.invariant-loop-entry
invariant-loop-entry l = l.self ≡ set_after l.fn.self (take l.entry-index l.history)
