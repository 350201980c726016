use Rattle.std.proofs.Common.{◌≡◌, flat_map, take}
use Rattle.dedup.specs.declared.worker.Hand.{Hand}
use Rattle.dedup.proofs.one_round.changed_by.Given as goal

-- those of the hands so far
abbrev pub invariant-loop-hand : goal.invariant-loop-hand
invariant-loop-hand l = l.changed.items ≡ flat_map (λ (hand : Hand). hand.changed.items) (take l.hand-index l.hands)
