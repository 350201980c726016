use Rattle.std.proofs.Common.{◌≡◌, drop, length, map, take}
use Rattle.dedup.specs.declared.worker.Worker.{Worker}
use Rattle.dedup.proofs.crew.hand_in.Given as goal

-- the workers so far were taken apart, and the others are left
abbrev pub invariant-loop-place : goal.invariant-loop-place
invariant-loop-place l = record {
  count : l.count ≡ length l.fn.workers.items;
  left : l.workers.items ≡ drop l.place l.fn.workers.items;
  passes : l.passes.items ≡ map (λ (worker : Worker). worker.pass) (take l.place l.fn.workers.items);
  hands : l.hands.items ≡ map (λ (worker : Worker). worker.hand) (take l.place l.fn.workers.items);
}
