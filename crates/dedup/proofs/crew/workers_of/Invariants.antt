use Rattle.std.proofs.Common.{◌≡◌, ℕ, ◌<◌, drop, length, slice_index_or}
use Rattle.dedup.specs.Crews.{IsCut}
use Rattle.dedup.specs.declared.worker.Worker.{Worker}
use Rattle.dedup.proofs.crew.workers_of.Given as goal

-- the passes so far have their workers, and the others are left
abbrev pub invariant-loop-place : goal.invariant-loop-place
invariant-loop-place l = record {
  count : l.count ≡ length l.fn.passes.items;
  left : l.passes.items ≡ drop l.place l.fn.passes.items;
  made : length l.workers.items ≡ l.place;
  each : (k : ℕ) (d : Worker) → k < l.place → IsCut l.fn.passes.items l.len k (slice_index_or l.workers.items k d);
}
