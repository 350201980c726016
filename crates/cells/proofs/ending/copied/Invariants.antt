use Rattle.std.proofs.Common.{◌≡◌, ◌≤◌, take, vec_capacity}
use Rattle.std.specs.Mem.Slots.{slots_items}
use Rattle.cells.proofs.ending.copied.Given as goal

-- the words before the place are there, and there is room for all
abbrev pub invariant-loop-at : goal.invariant-loop-at
invariant-loop-at l =
    (l.space.items ≡ take l.at (slots_items l.closed.words)) × (l.count ≤ vec_capacity l.space)
