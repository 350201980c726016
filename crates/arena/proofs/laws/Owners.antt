-- A claim changes the owners of its range alone.
use Rattle.std.proofs.Common.{◌≡◌, ◌≢◌, ℕ, ◌+◌, ◌-◌, ◌<◌, ◌≤◌, arith}
use Rattle.std.proofs.lemmas.Bool.Decides.{nat_tests}
use Rattle.arena.specs.Owners.{Owner, sealed, cell, claimed, block_owner}

module _ (owners : ℕ → Owner) (at count : ℕ) (owner : ℕ → Owner) where
  -- word k of the range has its new owner
  pub claimed-in : (k : ℕ) → k < count → claimed owners at count owner (at + k) ≡ owner k
  unfolding claimed
  claimed-in k lt = grind (arith, nat_tests)

  claimed-out : (a : ℕ) → (at ≤ a → a < at + count → ⊥) → claimed owners at count owner a ≡ owners a
  unfolding claimed
  claimed-out a out = grind (arith, nat_tests)

  -- behind the range each word keeps its owner
  pub claimed-above : (a : ℕ) → at + count ≤ a → claimed owners at count owner a ≡ owners a
  claimed-above a above = claimed-out a (λ from to. omega arith)

  -- where the range had one owner, a word of another keeps its owner
  pub claimed-else : (old : Owner) → ((k : ℕ) → k < count → owners (at + k) ≡ old)
      → (a : ℕ) → owners a ≢ old → claimed owners at count owner a ≡ owners a
  claimed-else old range a other = claimed-out a (λ from to. other (grind (arith, range (a - at))))

-- a published block's first words are sealed,
pub block_owner-sealed : (at count k : ℕ) → k < count → block_owner at count k ≡ sealed at
unfolding block_owner
block_owner-sealed at count k lt = grind (arith, nat_tests)

-- and those behind them are its cells
pub block_owner-cell : (at count k : ℕ) → block_owner at count (count + k) ≡ cell at k
unfolding block_owner
block_owner-cell at count k = grind (arith, nat_tests)
