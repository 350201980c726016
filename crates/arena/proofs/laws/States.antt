-- An update changes one value of a function alone, and a cell that is set no other cell.
use Rattle.std.proofs.Common.{◌≡◌, ◌≢◌, ℕ, ◌⊎◌, inl, inr, Option, Some, None, sym, ap, ◌∙◌, arith}
use Rattle.std.proofs.lemmas.Bool.Decides.{nat_tests}
use native.Mathlib.Decide.{ℕ_discrete}
use Rattle.arena.specs.States.{updated, cells_with}

module _ {X : Type 0} (f : ℕ → X) (place : ℕ) (value : X) where
  -- the place itself has the new value
  pub updated-same : updated f place value place ≡ value
  unfolding updated
  updated-same = grind (arith, nat_tests)

  -- all others keep theirs
  pub updated-other : (k : ℕ) → k ≢ place → updated f place value k ≡ f k
  unfolding updated
  updated-other k other = grind (arith, nat_tests)

  -- one of the two holds of each place
  pub updated-cases : (k : ℕ)
      → ((k ≡ place) × (updated f place value k ≡ value)) ⊎ ((k ≢ place) × (updated f place value k ≡ f k))
  updated-cases k = elim (ℕ_discrete k place) [
    | yes same ↦ inl (same, ap (updated f place value) same ∙ updated-same)
    | no apart ↦ inr (apart, updated-other k apart)
  ]

-- what was published stays, where a block is published that wasn't
pub published_stays : {B : Type 0} (blocks : ℕ → Option B) (at : ℕ) (block : B) → blocks at ≡ None
    → (from : ℕ) (found : B) → blocks from ≡ Some found → updated blocks at (Some block) from ≡ Some found
published_stays blocks at block absent from found is_block =
    updated-other blocks at (Some block) from (λ same. let e = ap blocks same in cc) ∙ is_block

module _ (cells : ℕ → ℕ → ℕ) (at k value : ℕ) where
  -- the cell itself has the new value
  pub cells_with-same : cells_with cells at k value at k ≡ value
  cells_with-same =
      ap (λ shown. shown k) (updated-same cells at (updated (cells at) k value)) ∙ updated-same (cells at) k value

  -- all others keep theirs
  pub cells_with-other : (from j : ℕ) → (from ≡ at → j ≢ k) → cells_with cells at k value from j ≡ cells from j
  cells_with-other from j other = elim (ℕ_discrete from at) [
    | yes same ↦ ap (λ a. cells_with cells at k value a j) same
        ∙ ap (λ shown. shown j) (updated-same cells at (updated (cells at) k value))
        ∙ updated-other (cells at) k value j (other same)
        ∙ ap (λ a. cells a j) (sym same)
    | no apart ↦ ap (λ shown. shown j) (updated-other cells at (updated (cells at) k value) from apart)
  ]

  -- one of the two holds of each cell
  pub cells_with-cases : (from j : ℕ)
      → ((from ≡ at) × (j ≡ k) × (cells_with cells at k value from j ≡ value)) ⊎ (cells_with cells at k value from j ≡ cells from j)
  cells_with-cases from j = elim (ℕ_discrete from at) [
    | yes at_same ↦ elim (ℕ_discrete j k) [
      | yes k_same ↦ inl (
        at_same,
        k_same,
        ap (λ a. cells_with cells at k value a j) at_same ∙ ap (cells_with cells at k value at) k_same ∙ cells_with-same,
      )
      | no apart ↦ inr (cells_with-other from j (λ _. apart))
    ]
    | no apart ↦ inr (cells_with-other from j (λ same. absurd (apart same)))
  ]
