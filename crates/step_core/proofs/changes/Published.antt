-- A block is published where none was: what was published is so still, and nothing else is new.
use Rattle.std.proofs.Common.{◌≡◌, ◌≢◌, ◌⊎◌, inl, inr, ⊎_elim, ℕ, zero, suc, Option, Some, None, refl, sym, ap, ◌∙◌}
use Rattle.arena.specs.States.{updated}
use Rattle.arena.proofs.laws.States.{updated-cases, updated-same, published_stays}
use Rattle.step_core.specs.Fits.{IsAtHome, HasOp, predecessor_of, generation_before}
use Rattle.step_core.specs.States.{IsGeneration, IsRow, IsOp}
use Rattle.step_core.specs.declared.published.Published.{Published}
use Rattle.step_core.specs.declared.published.Published.TheVariants.{Generation, Row, Op}
use Rattle.step_core.specs.declared.published.GenerationBlock.{GenerationBlock}
use Rattle.step_core.specs.declared.published.RowBlock.{RowBlock}
use Rattle.step_core.specs.declared.published.OpBlock.{OpBlock}

-- nothing is published at the address yet, where the block is to be
pub record Publishes (blocks : ℕ → Option Published) (at : ℕ) (block : Published) : Type 0 where
  pub unpublished : blocks at ≡ None

module _ {blocks : ℕ → Option Published} {at : ℕ} {block : Published} (p : Publishes blocks at block) where
  -- the blocks with it
  abbrev pub with_block : ℕ → Option Published
  with_block = updated blocks at (Some block)

  -- what was published is so still
  pub block_stays : (from : ℕ) (found : Published) → blocks from ≡ Some found → with_block from ≡ Some found
  block_stays = published_stays blocks at block p.unpublished

  -- what is published was so, or is the new block
  pub block_was : (from : ℕ) (found : Published) → with_block from ≡ Some found
      → ((from ≡ at) × (block ≡ found)) ⊎ (blocks from ≡ Some found)
  block_was from found here = ⊎_elim
      (λ (same : (from ≡ at) × (with_block from ≡ Some block)).
      let both : Some block ≡ Some found = sym same.1 ∙ here in inl (same.0, cc))
      (λ (other : (from ≢ at) × (with_block from ≡ blocks from)). inr (sym other.1 ∙ here))
      (updated-cases blocks at (Some block) from)

  -- it stands at its place
  pub block_there : with_block at ≡ Some block
  block_there = updated-same blocks at (Some block)

  -- where nothing stood
  pub place_apart : (from : ℕ) (found : Published) → blocks from ≡ Some found → from ≢ at
  place_apart from found here same = let e : None ≡ Some found = sym p.unpublished ∙ ap blocks (sym same) ∙ here in cc

  -- a row that was at home is so,
  pub home_stays : (from : ℕ) (generation : GenerationBlock) (spot : ℕ) → IsAtHome blocks from generation spot
      → IsAtHome with_block from generation spot
  home_stays from generation spot home = record {
    row = home.row;
    here = block_stays from (Row home.row) home.here;
    exponent = home.exponent;
    bucket = home.bucket;
  }

  -- and has its operation
  pub has_op_stays : (row : RowBlock) → HasOp blocks row → HasOp with_block row
  has_op_stays row has = record { op = has.op; there = block_stays row.op (Op has.op) has.there; class = has.class }

module _ {blocks : ℕ → Option Published} {at : ℕ} {row : RowBlock} (p : Publishes blocks at (Row row)) where
  -- with a row, a generation was published before,
  pub generation_before_row : (from : ℕ) (found : GenerationBlock) → IsGeneration (with_block p) from found
      → IsGeneration blocks from found
  generation_before_row from found here = ⊎_elim
      (λ (same : (from ≡ at) × (Row row ≡ Generation found)). absurd (let e = same.1 in cc))
      (λ (old : blocks from ≡ Some (Generation found)). old) (block_was p from (Generation found) here)

  -- so was an operation,
  pub op_before_row : (from : ℕ) (found : OpBlock) → IsOp (with_block p) from found → IsOp blocks from found
  op_before_row from found here = ⊎_elim
      (λ (same : (from ≡ at) × (Row row ≡ Op found)). absurd (let e = same.1 in cc))
      (λ (old : blocks from ≡ Some (Op found)). old) (block_was p from (Op found) here)

  -- and so was a row, or it is this one
  pub row_before_row : (from : ℕ) (found : RowBlock) → IsRow (with_block p) from found
      → ((from ≡ at) × (row ≡ found)) ⊎ IsRow blocks from found
  row_before_row from found here = ⊎_elim
      (λ (same : (from ≡ at) × (Row row ≡ Row found)). inl (same.0, let e = same.1 in cc))
      (λ (old : blocks from ≡ Some (Row found)). inr old) (block_was p from (Row found) here)

  -- a block names the predecessor that it did,
  pub predecessor_same : (from : ℕ) → predecessor_of (with_block p from) ≡ predecessor_of (blocks from)
  predecessor_same from = ⊎_elim
      (λ (same : (from ≡ at) × (with_block p from ≡ Some (Row row))).
      ap predecessor_of same.1 ∙ sym (ap predecessor_of (ap blocks same.0 ∙ p.unpublished)))
      (λ (other : (from ≢ at) × (with_block p from ≡ blocks from)). ap predecessor_of other.1)
      (updated-cases blocks at (Some (Row row)) from)

  -- so the same generations stand before each other
  pub before_same : (from count : ℕ)
      → generation_before (with_block p) from count ≡ generation_before blocks from count
  unfolding generation_before
  before_same from zero = refl
  before_same from (suc count) =
      predecessor_same (generation_before (with_block p) from count)
      ∙ ap (λ (a : ℕ). predecessor_of (blocks a)) (before_same from count)

module _ {blocks : ℕ → Option Published} {at : ℕ} {generation : GenerationBlock} (p : Publishes blocks at (Generation generation)) where
  -- with a generation, a row was published before,
  pub row_before_generation : (from : ℕ) (found : RowBlock) → IsRow (with_block p) from found
      → IsRow blocks from found
  row_before_generation from found here = ⊎_elim
      (λ (same : (from ≡ at) × (Generation generation ≡ Row found)). absurd (let e = same.1 in cc))
      (λ (old : blocks from ≡ Some (Row found)). old) (block_was p from (Row found) here)

  -- so was an operation,
  pub op_before_generation : (from : ℕ) (found : OpBlock) → IsOp (with_block p) from found
      → IsOp blocks from found
  op_before_generation from found here = ⊎_elim
      (λ (same : (from ≡ at) × (Generation generation ≡ Op found)). absurd (let e = same.1 in cc))
      (λ (old : blocks from ≡ Some (Op found)). old) (block_was p from (Op found) here)

  -- and so was a generation, or it is this one
  pub generation_before_generation : (from : ℕ) (found : GenerationBlock)
      → IsGeneration (with_block p) from found
      → ((from ≡ at) × (generation ≡ found)) ⊎ IsGeneration blocks from found
  generation_before_generation from found here = ⊎_elim
      (λ (same : (from ≡ at) × (Generation generation ≡ Generation found)). inl (same.0, let e = same.1 in cc))
      (λ (old : blocks from ≡ Some (Generation found)). inr old)
      (block_was p from (Generation found) here)
