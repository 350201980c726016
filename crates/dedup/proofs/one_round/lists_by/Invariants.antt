use Rattle.std.proofs.Common.{◌≡◌, drop, length, take}
use Rattle.dedup.specs.Rounds.{lists_in}
use Rattle.dedup.specs.Settling.{lists_of}
use Rattle.dedup.proofs.one_round.lists_by.Given as goal

-- the lists of the hands so far were taken, and the others are left
abbrev pub invariant-loop-place : goal.invariant-loop-place
invariant-loop-place l = record {
  count : l.count ≡ length l.fn.hands.items;
  left : l.hands.items ≡ drop l.place l.fn.hands.items;
  taken : lists_in l.lists ≡ lists_of (take l.place l.fn.hands.items);
}
