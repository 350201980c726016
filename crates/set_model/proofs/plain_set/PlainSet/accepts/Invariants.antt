use Rattle.std.proofs.Common.{take}
use Rattle.std.specs.FinSet as set
use Rattle.set_model.specs.History.{IsLegal}
use Rattle.set_model.proofs.plain_set.PlainSet.accepts.Given as goal

abbrev pub invariant-loop-place : goal.invariant-loop-place
invariant-loop-place l = IsLegal (set.contains l.self) (take l.place l.history)
