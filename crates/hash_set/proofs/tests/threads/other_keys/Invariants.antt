use Rattle.std.proofs.Common.{◌≡◌, ℕ, ◌+◌, ◌<◌, length, slice_index}
use Rattle.hash_set.proofs.tests.threads.other_keys.Given as goal

-- the keys so far are 10,001 and more
abbrev pub invariant-loop-key : goal.invariant-loop-key
invariant-loop-key l = record {
  count : length l.keys.items ≡ l.key;
  each : (k : ℕ) → k < l.key → slice_index l.keys.items k ≡ 10001 + k;
}
