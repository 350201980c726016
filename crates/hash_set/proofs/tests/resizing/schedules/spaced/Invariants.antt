use Rattle.std.proofs.Common.{◌≡◌, ℕ, ◌+◌, ◌*◌, ◌<◌, length, slice_index}
use Rattle.hash_set.proofs.tests.resizing.schedules.spaced.Given as goal

-- the keys so far are so far from each other
abbrev pub invariant-loop-place : goal.invariant-loop-place
invariant-loop-place l = record {
  count : length l.keys.items ≡ l.place;
  each : (k : ℕ) → k < l.place → slice_index l.keys.items k ≡ l.first + k * l.step;
}
