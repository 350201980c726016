use Rattle.std.proofs.Common.{◌≡◌, length}
use Rattle.buckets.proofs.tests.threads.zeros.Given as goal

-- so many are made
abbrev pub invariant-loop-made : goal.invariant-loop-made
invariant-loop-made l = length l.zeros.items ≡ l.made
