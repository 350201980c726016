-- What words the block in hand at a place has, once one was drawn, written or given up.
use Rattle.std.proofs.Common.{◌≡◌, ◌≢◌, ℕ, ◌+◌, ◌-◌, cond, leb, List, [], ◌∷◌, replicate, set, refl, sym, ap, subst, ◌∙◌, arith}
use Rattle.std.proofs.lemmas.Bool.Decides.{nat_tests}
use native.Mathlib.Decide.{ℕ_discrete}
use Rattle.arena.specs.declared.held.Held.{Held}
use Rattle.arena.specs.Hands.{words_at, drawn_block, written, without, IsFront, KeepsFronts}

-- a write to a place of the arena, in the words of the block that begins at `at`
pub words_at-written : (hands : List Held) (place value at : ℕ)
    → words_at (written place value hands) at ≡ cond (leb at place) (set (words_at hands at) (place - at) value) (words_at hands at)
words_at-written [] place value at = grind (arith, nat_tests)
words_at-written (held ∷ hands) place value at =
    let behind = words_at-written hands place value at in grind (arith, nat_tests)

-- a write to word k of the block itself
pub words_at-written_here : (hands : List Held) (at k value : ℕ)
    → words_at (written (at + k) value hands) at ≡ set (words_at hands at) k value
words_at-written_here hands at k value =
    let here = words_at-written hands (at + k) value at in
    let offset : at + k - at ≡ k = omega arith in
    here ∙ ap (λ i. cond (leb at (at + k)) (set (words_at hands at) i value) (words_at hands at)) offset
    ∙ grind (arith, nat_tests)

-- a block fresh from a draw is all zeros,
pub words_at-drawn_same : (hands : List Held) (at count : ℕ) → words_at (drawn_block at count ∷ hands) at ≡ replicate count 0
words_at-drawn_same hands at count = grind (arith, nat_tests)

-- and the others are as they were
pub words_at-drawn_other : (hands : List Held) (at count other : ℕ) → other ≢ at
    → words_at (drawn_block at count ∷ hands) other ≡ words_at hands other
words_at-drawn_other hands at count other apart = grind (arith, nat_tests)

-- nothing of the block that was given up is left,
pub words_at-without_same : (hands : List Held) (at : ℕ) → words_at (without at hands) at ≡ []
words_at-without_same [] at = refl
words_at-without_same (held ∷ hands) at = let behind = words_at-without_same hands at in grind (arith, nat_tests)

-- and the others are as they were
pub words_at-without_other : (hands : List Held) (at other : ℕ) → other ≢ at
    → words_at (without at hands) other ≡ words_at hands other
words_at-without_other [] at other apart = refl
words_at-without_other (held ∷ hands) at other apart =
    let behind = words_at-without_other hands at other apart in grind (arith, nat_tests)

-- a list is a front of itself
pub IsFront-refl : (list : List ℕ) → IsFront list list
IsFront-refl list = record { short = omega arith; same = λ k lt. refl }

-- blocks that stay are fronts of themselves
pub KeepsFronts-refl : (hands : List Held) → KeepsFronts hands hands
KeepsFronts-refl hands = record { fronts = λ at. IsFront-refl (words_at hands at) }

-- a block may be given up
pub KeepsFronts-without : (hands : List Held) (at : ℕ) → KeepsFronts hands (without at hands)
KeepsFronts-without hands at = record {
  fronts = λ from. elim (ℕ_discrete from at) [
    | yes same ↦ subst (λ list. IsFront list (words_at hands from))
        (sym (ap (words_at (without at hands)) same ∙ words_at-without_same hands at))
        (record { short = omega arith; same = λ k lt. absurd (omega arith) })
    | no apart ↦ subst (λ list. IsFront list (words_at hands from)) (sym (words_at-without_other hands at from apart))
        (IsFront-refl (words_at hands from))
  ];
}
