-- A nil bucket of the head is filled with a row that has what its frozen sources have of its class: the generations are a chain
-- still, and the members stay as they were.
use Rattle.std.proofs.Common.{◌≡◌, ℕ, ◌<◌, inl, inr, List, Option, None, sym, ap, ◌∙◌, arith}
use native.Mathlib.Decide.{ℕ_discrete}
use Rattle.set_model.specs.Keys.{is_in}
use Rattle.set_model.specs.declared.entry.Entry.{Entry}
use Rattle.step_core.specs.Buckets.{key_bucket}
use Rattle.step_core.specs.Content.{bucket_of, spot_of, InClass}
use Rattle.step_core.specs.Fits.{FollowsAnother, IsChain, HoldsClass, predecessor_of}
use Rattle.step_core.specs.Format.{IsNil, row_address}
use Rattle.step_core.specs.Members.{bucket_cell, live_cell, row_content, is_held, HoldsMembers}
use Rattle.step_core.specs.States.{IsGeneration, IsRow}
use Rattle.step_core.specs.declared.published.Published.{Published}
use Rattle.step_core.specs.declared.published.GenerationBlock.{GenerationBlock}
use Rattle.step_core.specs.declared.published.RowBlock.{RowBlock}
use Rattle.step_core.proofs.changes.Held.{held_apart, held_here}
use Rattle.step_core.proofs.changes.Named.{Names, HasSources, with_row, with_name, chain_named}
use Rattle.step_core.proofs.seen.Held.{bucket_cell-there, live_cell-predecessor, is_held-row, row_content-plain}

-- the row has what the predecessor's rows have of the class of the bucket
abbrev pub HasContent : (ℕ → Option Published) → (ℕ → ℕ → ℕ) → GenerationBlock → ℕ → RowBlock → Type 0
HasContent blocks cells generation bucket row = (other : GenerationBlock) (source : RowBlock) (key : ℕ)
    → IsGeneration blocks generation.predecessor other → InClass generation.exponent bucket key
    → IsRow blocks (row_address (cells generation.predecessor (bucket_of other.exponent (spot_of key)))) source
    → is_in row.keys key ≡ row_content blocks cells source key

-- the row isn't published yet, and may fill the bucket of the head
pub record Fills (head : ℕ) (blocks : ℕ → Option Published) (cells : ℕ → ℕ → ℕ) (bucket : ℕ) (generation : GenerationBlock)
    (at : ℕ) (row : RowBlock) : Type 0 where
  pub unpublished : blocks at ≡ None
  pub some_place : 0 < at
  pub here : IsGeneration blocks head generation
  pub spot : bucket_of generation.exponent bucket ≡ bucket
  pub nil : IsNil (cells head bucket)
  pub exponent : row.exponent ≡ generation.exponent
  pub number : row.bucket ≡ bucket
  pub plain : row.op ≡ 0
  pub holds : HoldsClass row
  pub sources : HasSources blocks cells generation bucket
  pub content : HasContent blocks cells generation bucket row

module _ {head : ℕ} {blocks : ℕ → Option Published} {cells : ℕ → ℕ → ℕ} {bucket : ℕ} {generation : GenerationBlock} {at : ℕ}
    {row : RowBlock} (f : Fills head blocks cells bucket generation at row) where
  -- the bucket names it
  pub filling : Names blocks cells head bucket generation at row
  filling = record {
    unpublished = f.unpublished;
    some_place = f.some_place;
    here = f.here;
    spot = f.spot;
    mutable = let nil = f.nil in omega (arith, nil);
    exponent = f.exponent;
    number = f.number;
    holds = f.holds;
    op = λ some_op. absurd (some_op f.plain);
  }

  module _ (chain : IsChain head blocks cells) where
    -- The generations are a chain still.
    pub chain_filled : IsChain head (with_row filling) (with_name filling)
    chain_filled = chain_named filling chain (λ same. f.sources)

    -- the generation has a predecessor, since one of its buckets is nil
    before : FollowsAnother head blocks generation
    before = chain.follows head generation f.here
        (λ none. chain.filled head generation bucket f.here (inr none) (ap (cells head) f.spot ∙ f.nil))

    module _ (key : ℕ) (class : InClass generation.exponent bucket key) where
      -- the bucket of the predecessor for the key
      abbrev source_cell : ℕ
      source_cell = cells generation.predecessor (bucket_of before.other.exponent (spot_of key))

      -- it is live, since the head's is nil
      live_source : live_cell head blocks cells (spot_of key) ≡ source_cell
      live_source =
          let cell : bucket_cell blocks cells head (spot_of key) ≡ cells head (bucket_of generation.exponent (spot_of key)) =
          bucket_cell-there head blocks cells head (spot_of key) generation f.here in
          live_cell-predecessor head blocks cells (spot_of key) (cell ∙ ap (cells head) class ∙ f.nil)
          ∙ ap (λ (from : ℕ). bucket_cell blocks cells from (spot_of key)) (ap predecessor_of f.here)
          ∙ bucket_cell-there head blocks cells generation.predecessor (spot_of key) before.other before.there

      -- so a key of the class was held where the new row has it
      held_source : is_held head blocks cells key ≡ is_in row.keys key
      held_source =
          let home = chain.names generation.predecessor before.other (spot_of key) before.there
          (chain.filled generation.predecessor before.other (spot_of key) before.there (inl before.not_head)) in
          is_held-row head blocks cells key source_cell home.row live_source home.here
          ∙ sym (f.content before.other home.row key before.there class home.here)

    -- each key is held where it was
    pub held_filled : (key : ℕ) → is_held head (with_row filling) (with_name filling) key ≡ is_held head blocks cells key
    held_filled key = elim (ℕ_discrete (key_bucket generation.exponent key) bucket) [
      | yes class ↦
          held_here filling chain key class chain_filled
          ∙ row_content-plain head (with_row filling) (with_name filling) row key f.plain
          ∙ sym (held_source key class)
      | no other ↦ held_apart filling chain key other
    ]

    -- The members stay as they were.
    pub members_filled : (keys : List ℕ) (history : List Entry) → HoldsMembers keys head blocks cells history
        → HoldsMembers keys head (with_row filling) (with_name filling) history
    members_filled keys history holds key = held_filled key ∙ holds key
