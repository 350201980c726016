-- A frozen bucket word is odd, names the row that it did, and fits where the mutable one does.
use Rattle.std.proofs.Common.{◌≡◌, ℕ, ◌/◌, ◌%◌, ◌^◌, ◌<◌, ◌≤◌, bit_or, arith}
use Rattle.std.proofs.lemmas.Nat.{or_lt, or_mod, or_shr, le_or_r, mod_below}
use Rattle.std.specs.Int.Bits.{or_zero_r}
use Rattle.step_core.specs.Format.{IsFrozen, IsNil, frozen_word, row_address}

-- it fits 64 bits
pub frozen_below : (word : ℕ) → word < 2 ^ 64 → frozen_word word < 2 ^ 64
frozen_below word fits = or_lt 64 word 1 fits (omega arith)

-- it is odd
pub frozen_odd : (word : ℕ) → IsFrozen (frozen_word word)
frozen_odd word =
    let low : bit_or word 1 % 2 ^ 1 ≡ bit_or (word % 2 ^ 1) (1 % 2 ^ 1) = or_mod word 1 1 in
    let small : bit_or (word % 2 ^ 1) (1 % 2 ^ 1) < 2 ^ 1 = or_lt 1 (word % 2 ^ 1) (1 % 2 ^ 1) (mod_below word (2 ^ 1) (omega arith)) (omega arith) in
    let some : 1 % 2 ^ 1 ≤ bit_or (word % 2 ^ 1) (1 % 2 ^ 1) = le_or_r (word % 2 ^ 1) (1 % 2 ^ 1) in
    omega (arith, low, small, some)

-- it names the row
pub frozen_names : (word : ℕ) → row_address (frozen_word word) ≡ row_address word
frozen_names word =
    let halves : bit_or word 1 / 2 ^ 1 ≡ bit_or (word / 2 ^ 1) (1 / 2 ^ 1) = or_shr word 1 1 in
    let same : bit_or (word / 2 ^ 1) (1 / 2 ^ 1) ≡ word / 2 ^ 1 = or_zero_r (word / 2 ^ 1) in
    omega (arith, halves, same)

-- it isn't nil
pub frozen_filled : (word : ℕ) → ¬ IsNil (frozen_word word)
frozen_filled word nil = let odd = frozen_odd word in absurd (omega (arith, odd, nil))

-- one that is odd already is as it was
pub frozen_same : (word : ℕ) → IsFrozen word → frozen_word word ≡ word
frozen_same word odd =
    let names = frozen_names word in
    let still_odd = frozen_odd word in
    omega (arith, names, still_odd, odd)
