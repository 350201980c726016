-- Rising lists by their first key: what rises above a number, and what such a list lacks.
use Rattle.std.proofs.Common.{◌≡◌, ℕ, zero, suc, ◌+◌, ◌<◌, ◌≤◌, Bool, true, false, ◌||◌, nat_eq, List, [], ◌∷◌, slice_index, refl, ap, ◌∙◌, subst, arith, inl, inr}
use Rattle.std.specs.List.Sorted.{IsStrictlyIncreasing}
use Rattle.std.proofs.lemmas.Bool.{cases_lt}
use Rattle.std.proofs.lemmas.Bool.Decides.{nat_tests}
use Rattle.set_model.specs.Keys.{is_in}

-- each key of the list is above the one before, and the first above `low`
abbrev pub RisesAbove : ℕ → List ℕ → Type 0
RisesAbove low [] = Unit {0}
RisesAbove low (x ∷ keys) = (low < x) × RisesAbove x keys

-- a rising list: its first key has none below
abbrev pub Rises : List ℕ → Type 0
Rises [] = Unit {0}
Rises (x ∷ keys) = RisesAbove x keys

-- the keys behind the first
pub rises_above : (low : ℕ) (keys : List ℕ) → IsStrictlyIncreasing (low ∷ keys) → RisesAbove low keys
rises_above low [] rising = tt
rises_above low (x ∷ keys) rising =
    let rest : IsStrictlyIncreasing (x ∷ keys) = λ k lt.
    let same : suc k + 1 ≡ suc (k + 1) = omega arith in
    subst (λ (n : ℕ). slice_index (x ∷ keys) k < slice_index (low ∷ x ∷ keys) n) same (rising (suc k) (omega arith)) in
    (rising 0 (omega arith), rises_above x keys rest)

-- from std's word for it
pub rises : (keys : List ℕ) → IsStrictlyIncreasing keys → Rises keys
rises [] rising = tt
rises (x ∷ keys) rising = rises_above x keys rising

-- the other way round, with the number in front
pub increasing_above : (low : ℕ) (keys : List ℕ) → RisesAbove low keys → IsStrictlyIncreasing (low ∷ keys)
increasing_above low [] rising k lt = absurd (omega arith)
increasing_above low (x ∷ keys) rising zero lt = rising.0
increasing_above low (x ∷ keys) rising (suc k) lt =
    let same : suc (k + 1) ≡ suc k + 1 = omega arith in
    subst (λ (n : ℕ). slice_index (x ∷ keys) k < slice_index (low ∷ x ∷ keys) n) same (increasing_above x keys rising.1 k (omega arith))

-- and std's word from it
pub increasing : (keys : List ℕ) → Rises keys → IsStrictlyIncreasing keys
increasing [] rising k lt = absurd (omega arith)
increasing (x ∷ keys) rising k lt = increasing_above x keys rising k lt

-- a list that rises above a number rises above a lower one
pub lower : (low high : ℕ) (keys : List ℕ) → low ≤ high → RisesAbove high keys → RisesAbove low keys
lower low high [] le rising = tt
lower low high (x ∷ keys) le rising = (omega (arith, rising.0), rising.1)

-- a list that rises above a number hasn't one that is no higher
pub above_lacks : (low key : ℕ) (keys : List ℕ) → RisesAbove low keys → key ≤ low → is_in keys key ≡ false
above_lacks low key [] rising le = refl
above_lacks low key (x ∷ keys) rising le =
    let first = rising.0 in
    let other : nat_eq x key ≡ false = grind (arith, nat_tests) in
    ap (λ (b : Bool). b || is_in keys key) other ∙ above_lacks x key keys rising.1 (omega arith)

-- one of its keys is above it
pub above_has : (low key : ℕ) (keys : List ℕ) → RisesAbove low keys → is_in keys key ≡ true → low < key
above_has low key keys rising here =
    elim (cases_lt low key) [
      | inl above ↦ above
      | inr le ↦ let gone = above_lacks low key keys rising le in absurd (cc (gone, here))
    ]

-- a rising list behind its first key rises
pub rises_tail : (x : ℕ) (keys : List ℕ) → RisesAbove x keys → Rises keys
rises_tail x [] rising = tt
rises_tail x (y ∷ keys) rising = rising.1

-- a rising list hasn't a key below its first
pub rises_lacks : (x key : ℕ) (keys : List ℕ) → RisesAbove x keys → key < x → is_in (x ∷ keys) key ≡ false
rises_lacks x key keys rising lt =
    let other : nat_eq x key ≡ false = grind (arith, nat_tests) in
    ap (λ (b : Bool). b || is_in keys key) other ∙ above_lacks x key keys rising (omega arith)
