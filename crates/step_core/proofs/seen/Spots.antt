-- Powers of two that are no greater than that of the greatest exponent, and masks of them.
use Rattle.std.proofs.Common.{◌≡◌, ℕ, ◌+◌, ◌-◌, ◌/◌, ◌%◌, ◌^◌, ◌<◌, ◌≤◌, ap, ◌∙◌, arith}
use Rattle.std.proofs.Math.Pow.{pow_mono}
use Rattle.std.proofs.lemmas.Nat.{and_mask, mod-pow-add, mod_below, mod_low, one_shl, pow_pos}

-- 2 ^ e as a shift of 1, and its bounds
pub ruleset sizes = (one_shl, pow_mono, pow_pos)

-- the rest by 2 ^ e as a mask
pub ruleset masks = (and_mask, pow_pos)

-- the rest by fewer bits is that of the rest by more
pub fewer_bits : (fewer more n : ℕ) → fewer ≤ more → n % 2 ^ more % 2 ^ fewer ≡ n % 2 ^ fewer
fewer_bits fewer more n le =
    let bits : more ≡ (more - fewer) + fewer = omega arith in
    ap (λ (e : ℕ). n % 2 ^ e % 2 ^ fewer) bits
    ∙ ap (λ (rest : ℕ). rest % 2 ^ fewer) (mod-pow-add n (more - fewer) fewer)
    ∙ mod_low (n / 2 ^ fewer % 2 ^ (more - fewer)) fewer (n % 2 ^ fewer) (mod_below n (2 ^ fewer) (pow_pos fewer))
