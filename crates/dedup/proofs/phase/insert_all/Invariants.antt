use Rattle.std.proofs.Common.{vec_len, All}
use Rattle.dedup.specs.Rounds.{HasInserted, HasWorkers}
use Rattle.dedup.proofs.phase.insert_all.Given as goal

-- the rounds so far are a chain and have as many workers as are planned, and the records left are still to come
abbrev pub invariant-rounds : goal.invariant-rounds
invariant-rounds g l = record {
  inserted : HasInserted l.phase.records.now l.phase.plan l.so_far l.keys.items l.left.items l.changed.items;
  workers : All (HasWorkers l.phase.plan.seats) l.so_far;
}

abbrev pub decreases-rounds : goal.decreases-rounds
decreases-rounds g l = vec_len l.left
