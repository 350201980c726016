use Rattle.std.proofs.Common.{ℕ, ◌*◌, ◌<◌, ◌^◌}
use Rattle.step_core.proofs.exponents.exponent_for.Given as goal

-- the exponents before are too small
abbrev pub invariant-loop-exponent : goal.invariant-loop-exponent
invariant-loop-exponent l = (less : ℕ) → less < l.exponent → 4 * 2 ^ less < l.count
