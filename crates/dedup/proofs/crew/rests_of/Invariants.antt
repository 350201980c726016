use Rattle.std.proofs.Common.{◌≡◌, flat_map, take}
use Rattle.dedup.specs.Crews.{rest_of}
use Rattle.dedup.proofs.crew.rests_of.Given as goal

-- the rests of the workers so far
abbrev pub invariant-loop-worker : goal.invariant-loop-worker
invariant-loop-worker l = l.rests.items ≡ flat_map (rest_of l.left) (take l.worker-index l.workers)
