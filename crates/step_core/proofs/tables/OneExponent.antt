-- There is one exponent for each number of keys.
use Rattle.std.proofs.Common.{◌≡◌, ℕ, zero, suc, ◌+◌, ◌*◌, ◌^◌, ◌<◌, ◌≤◌, true, false, cond, nat_le, subst, sym, arith, add-zero, zero-add, inl, inr}
use Rattle.std.proofs.lemmas.Bool.{cases_lt}
use Rattle.std.proofs.lemmas.Bool.Decides.{nat_tests}
use Rattle.std.proofs.Math.Nat.{two-pow-succ}
use Rattle.step_core.specs.Openings.{IsExponentFor, exponent_from, exponent_for}

-- a number is below its power of two
below_power : (n : ℕ) → n < 2 ^ n
below_power zero = omega arith
below_power (suc n) = omega (arith, below_power n, two-pow-succ n)

-- the search finds the exponent that it is to find
exponent_from-least : (count first more : ℕ) → ((less : ℕ) → less < first → 4 * 2 ^ less < count) → count ≤ 4 * 2 ^ (first + more)
    → IsExponentFor count (exponent_from count first more)
unfolding exponent_from
exponent_from-least count first zero less enough =
    record { enough = subst (λ (e : ℕ). count ≤ 4 * 2 ^ e) (add-zero first) enough; least = less }
exponent_from-least count first (suc more) less enough =
    elim (cases_lt (4 * 2 ^ first) count) [
      | inl few ↦
          let goes_on : nat_le count (4 * 2 ^ first) ≡ false = grind (arith, nat_tests) in
          let longer : (first + 1) + more ≡ first + suc more = omega arith in
          subst (λ (e : ℕ). IsExponentFor count e)
          (λ i. cond (sym goes_on i) first (exponent_from count (first + 1) more))
          (exponent_from-least count (first + 1) more
          (λ k lt. elim (cases_lt k first) [
            | inl below ↦ less k below
            | inr here ↦ let same : first ≡ k = omega arith in subst (λ (e : ℕ). 4 * 2 ^ e < count) same few
          ])
          (subst (λ (e : ℕ). count ≤ 4 * 2 ^ e) (sym longer) enough))
      | inr many ↦
          let stops : nat_le count (4 * 2 ^ first) ≡ true = grind (arith, nat_tests) in
          subst (λ (e : ℕ). IsExponentFor count e)
          (λ i. cond (sym stops i) first (exponent_from count (first + 1) more))
          (record { enough = many; least = less })
    ]

-- `exponent_for` is that of the relation
pub exponent_for-least : (count : ℕ) → IsExponentFor count (exponent_for count)
exponent_for-least count =
    exponent_from-least count 0 count (λ less lt. absurd (omega arith)) (subst (λ (e : ℕ). count ≤ 4 * 2 ^ e) (sym (zero-add count))
    (omega (arith, below_power count)))

-- and there is no other
pub exponent_for-only : (count exponent : ℕ) → IsExponentFor count exponent → exponent ≡ exponent_for count
exponent_for-only count exponent is =
    let other = exponent_for-least count in
    elim (cases_lt exponent (exponent_for count)) [
      | inl below ↦ absurd (omega (arith, other.least exponent below, is.enough))
      | inr at_least ↦ elim (cases_lt (exponent_for count) exponent) [
        | inl above ↦ absurd (omega (arith, is.least (exponent_for count) above, other.enough))
        | inr same ↦ omega arith
      ]
    ]

-- so many keys as a round may open with have an exponent of at most 22
pub exponent_for-small : (count exponent : ℕ) → IsExponentFor count exponent → count ≤ 2 ^ 24 → exponent ≤ 22
exponent_for-small count exponent is few =
    elim (cases_lt 22 exponent) [ inl above ↦ absurd (omega (arith, is.least 22 above)) | inr small ↦ small ]

-- the buckets' words, four for each, are at most twice as many as the keys, and four
pub exponent_for-bound : (count exponent : ℕ) → IsExponentFor count exponent → 4 * 2 ^ exponent ≤ 4 + 2 * count
exponent_for-bound count zero is = omega arith
exponent_for-bound count (suc less) is = omega (arith, is.least less (omega arith), two-pow-succ less)
