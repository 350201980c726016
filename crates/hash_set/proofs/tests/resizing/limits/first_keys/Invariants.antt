use Rattle.std.proofs.Common.{◌≡◌, ℕ, ◌<◌, length, slice_index}
use Rattle.hash_set.proofs.tests.resizing.limits.first_keys.Given as goal

-- the keys so far are their own numbers
abbrev pub invariant-loop-key : goal.invariant-loop-key
invariant-loop-key l = record {
  count : length l.keys.items ≡ l.key;
  each : (k : ℕ) → k < l.key → slice_index l.keys.items k ≡ k;
}
