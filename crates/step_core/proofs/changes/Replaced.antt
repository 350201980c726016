-- A row is published and a mutable bucket, of the head or of the predecessor, names it in place of another: the generations are a
-- chain still.
use Rattle.std.proofs.Common.{◌≡◌, ℕ, ◌<◌, Option, None, sym, subst}
use Rattle.step_core.specs.Content.{bucket_of}
use Rattle.step_core.specs.Fits.{IsChain, HoldsClass}
use Rattle.step_core.specs.Format.{IsNil, IsMutable}
use Rattle.step_core.specs.States.{IsGeneration}
use Rattle.step_core.specs.declared.published.Published.{Published}
use Rattle.step_core.specs.declared.published.GenerationBlock.{GenerationBlock}
use Rattle.step_core.specs.declared.published.RowBlock.{RowBlock}
use Rattle.step_core.proofs.changes.Named.{Names, HasSources, with_row, with_name, chain_named}

-- the row isn't published yet, and may take the place of the one that a mutable bucket of a generation names
pub record Replaces (blocks : ℕ → Option Published) (cells : ℕ → ℕ → ℕ) (g bucket : ℕ) (generation : GenerationBlock) (at : ℕ)
    (row : RowBlock) : Type 0 where
  pub unpublished : blocks at ≡ None
  pub some_place : 0 < at
  pub here : IsGeneration blocks g generation
  pub spot : bucket_of generation.exponent bucket ≡ bucket
  pub filled : ¬ IsNil (cells g bucket)
  pub mutable : IsMutable (cells g bucket)
  pub exponent : row.exponent ≡ generation.exponent
  pub number : row.bucket ≡ bucket
  pub plain : row.op ≡ 0
  pub holds : HoldsClass row

module _ {blocks : ℕ → Option Published} {cells : ℕ → ℕ → ℕ} {g bucket : ℕ} {generation : GenerationBlock} {at : ℕ} {row : RowBlock}
    (r : Replaces blocks cells g bucket generation at row) where
  -- the bucket names it
  pub replacing : Names blocks cells g bucket generation at row
  replacing = record {
    unpublished = r.unpublished;
    some_place = r.some_place;
    here = r.here;
    spot = r.spot;
    mutable = r.mutable;
    exponent = r.exponent;
    number = r.number;
    holds = r.holds;
    op = λ some_op. absurd (some_op r.plain);
  }

  module _ {head : ℕ} (chain : IsChain head blocks cells) where
    -- the bucket was filled, so its sources were closed
    sources : g ≡ head → HasSources blocks cells generation bucket
    sources same other spot there in_bucket =
        chain.sources generation other spot (subst (λ (a : ℕ). IsGeneration blocks a generation) same r.here) there
        (subst (λ (word : ℕ). ¬ IsNil word) (λ i. cells (same i) (sym in_bucket i)) r.filled)

    -- The generations are a chain still.
    pub chain_replaced : IsChain head (with_row replacing) (with_name replacing)
    chain_replaced = chain_named replacing chain sources
