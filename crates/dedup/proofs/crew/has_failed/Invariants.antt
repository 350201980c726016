use Rattle.std.proofs.Common.{ℕ, ◌<◌, slice_index_or}
use Rattle.dedup.specs.Crews.{HasMemory}
use Rattle.dedup.specs.declared.worker.Worker.{Worker}
use Rattle.dedup.proofs.crew.has_failed.Given as goal

-- the workers so far found memory
abbrev pub invariant-loop-worker : goal.invariant-loop-worker
invariant-loop-worker l = (k : ℕ) (d : Worker) → k < l.worker-index → HasMemory (slice_index_or l.workers k d)
