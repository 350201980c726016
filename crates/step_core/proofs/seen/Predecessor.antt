-- Well-formed words show the generation where a key is looked for, the head or its predecessor, and the row that it has there.
use Rattle.std.proofs.Common.{◌≡◌, ◌≢◌, ℕ, ◌+◌, ◌<◌, ◌≤◌, ◌^◌, max, ◌==◌, Bool, true, false, cond, if◌then◌else◌, List, length, slice_index, sym, ap, ◌∙◌, subst, arith, add-zero, eq-eqb, ne_eqb, inl, inr}
use native.Mathlib.Decide.{ℕ_discrete}
use Rattle.std.proofs.lemmas.Nat.{mod_below, pow_pos}
use Rattle.step_core.specs.Content.{bucket_of, bucket_word, exponent_of, live_generation, live_word}
use Rattle.step_core.specs.Fits.{FollowsAnother, HoldsBlocks, IsAtHome, IsWellFormed, predecessor_of}
use Rattle.step_core.specs.Format.{IsNil, head_of, row_address}
use Rattle.step_core.specs.Limits.{max_exponent}
use Rattle.step_core.specs.Members.{bucket_cell, live_cell}
use Rattle.step_core.specs.Plain.{finest_exponent}
use Rattle.step_core.specs.States.{RoundState, IsGeneration}
use Rattle.step_core.specs.declared.format.TheConstants.{FIRST_BUCKET}
use Rattle.step_core.specs.declared.published.Published.TheVariants.{Generation}
use Rattle.step_core.specs.declared.published.GenerationBlock.{GenerationBlock}
use Rattle.step_core.proofs.seen.Held.{bucket_cell-there, live_cell-head, live_cell-predecessor}
use Rattle.step_core.proofs.seen.Shown.{block_shown, bucket_word-cell}

-- a generation lies at the address: its exponent and its buckets
pub record HasBuckets (words : List ℕ) (at : ℕ) : Type 0 where
  pub small : slice_index words at ≤ max_exponent
  pub within : at + FIRST_BUCKET + 2 ^ slice_index words at ≤ length words

module _ {seats : ℕ} {words : List ℕ} {state : RoundState} (holds : HoldsBlocks seats words state) where
  -- a published generation shows its exponent,
  pub exponent_shown : (at : ℕ) (generation : GenerationBlock) → IsGeneration state.blocks at generation
      → slice_index words at ≡ generation.exponent
  exponent_shown at generation here =
      ap (slice_index words) (sym (add-zero at)) ∙ (block_shown holds at (Generation generation) here).sealed 0 (omega arith)

  -- and lies in the words
  pub buckets_shown : (at : ℕ) (generation : GenerationBlock) → IsGeneration state.blocks at generation → HasBuckets words at
  buckets_shown at generation here =
      let exponent = exponent_shown at generation here in
      let size : 2 ^ slice_index words at ≡ 2 ^ generation.exponent = ap (λ (e : ℕ). 2 ^ e) exponent in
      record {
        small = omega (arith, exponent, holds.chain.small at generation here);
        within = omega (arith, size, (block_shown holds at (Generation generation) here).within);
      }

  -- a published generation's bucket word is its cell
  pub cell_same : (at spot : ℕ) (generation : GenerationBlock) → IsGeneration state.blocks at generation
      → bucket_word words at spot ≡ bucket_cell state.blocks state.cells at spot
  cell_same at spot generation here =
      bucket_word-cell holds at generation spot here
      ∙ sym (bucket_cell-there state.head state.blocks state.cells at spot generation here)

  -- the head, by words and as it is published
  pub head_same : head_of words ≡ state.head
  head_same = holds.laid.fixed_words.head_shown

  abbrev pub first : GenerationBlock
  first = holds.chain.head_there.0

  pub first_there : IsGeneration state.blocks state.head first
  first_there = holds.chain.head_there.1

  -- its exponent
  first_exponent : exponent_of words ≡ first.exponent
  first_exponent = ap (slice_index words) head_same ∙ exponent_shown state.head first first_there

  -- its predecessor
  first_predecessor : slice_index words (head_of words + 1) ≡ first.predecessor
  first_predecessor =
      ap (λ (at : ℕ). slice_index words (at + 1)) head_same
      ∙ (block_shown holds state.head (Generation first) first_there).sealed 1 (omega arith)

  -- the predecessor is published, if there is one
  predecessor_there : slice_index words (head_of words + 1) ≢ 0 → FollowsAnother state.head state.blocks first
  predecessor_there some_before = holds.chain.follows state.head first first_there (λ none. some_before (first_predecessor ∙ none))

  -- it lies in the words, too
  pub predecessor_buckets : slice_index words (head_of words + 1) ≢ 0 → HasBuckets words (slice_index words (head_of words + 1))
  predecessor_buckets some_before =
      let follows = predecessor_there some_before in
      subst (HasBuckets words) (sym first_predecessor) (buckets_shown first.predecessor follows.other follows.there)

  -- without a predecessor the finest exponent is the head's,
  finest_alone : slice_index words (head_of words + 1) ≡ 0 → finest_exponent words ≡ exponent_of words
  finest_alone none =
      ap (λ (b : Bool). cond b (exponent_of words) (max (exponent_of words) (slice_index words (slice_index words (head_of words + 1)))))
      (eq-eqb (slice_index words (head_of words + 1)) 0 none)

  -- and with one the greater
  finest_both : slice_index words (head_of words + 1) ≢ 0
      → finest_exponent words ≡ max (exponent_of words) (slice_index words (slice_index words (head_of words + 1)))
  finest_both some_before =
      ap (λ (b : Bool). cond b (exponent_of words) (max (exponent_of words) (slice_index words (slice_index words (head_of words + 1)))))
      (ne_eqb (slice_index words (head_of words + 1)) 0 some_before)

  -- neither is above it
  pub head_finest : exponent_of words ≤ finest_exponent words
  head_finest = elim (ℕ_discrete (slice_index words (head_of words + 1)) 0) [
    | yes none ↦ omega (arith, finest_alone none)
    | no some_before ↦ omega (arith, finest_both some_before)
  ]

  pub predecessor_finest : slice_index words (head_of words + 1) ≢ 0
      → slice_index words (slice_index words (head_of words + 1)) ≤ finest_exponent words
  predecessor_finest some_before = omega (arith, finest_both some_before)

  -- it is at most the greatest exponent
  pub finest_small : finest_exponent words ≤ max_exponent
  finest_small =
      let head = buckets_shown state.head first first_there in
      let first_small : exponent_of words ≤ max_exponent = subst (λ (at : ℕ). slice_index words at ≤ max_exponent) (sym head_same) head.small in
      elim (ℕ_discrete (slice_index words (head_of words + 1)) 0) [
        | yes none ↦ omega (arith, finest_alone none, first_small)
        | no some_before ↦ omega (arith, finest_both some_before, first_small, (predecessor_buckets some_before).small)
      ]

  -- a key of the spot is looked for in this generation, and in this row of it
  pub record IsLive (spot : ℕ) : Type 0 where
    pub at : ℕ
    pub generation : GenerationBlock
    pub there : IsGeneration state.blocks at generation
    pub generation_is : live_generation words spot ≡ at
    pub finest : generation.exponent ≤ finest_exponent words
    pub same : live_word words spot ≡ live_cell state.head state.blocks state.cells spot
    pub home : IsAtHome state.blocks (row_address (live_cell state.head state.blocks state.cells spot)) generation spot

  module _ (spot : ℕ) where
    head_word : bucket_word words (head_of words) spot ≡ bucket_cell state.blocks state.cells state.head spot
    head_word = ap (λ (at : ℕ). bucket_word words at spot) head_same ∙ cell_same state.head spot first first_there

    -- where the head's bucket isn't nil it is the head,
    in_head : ¬ IsNil (bucket_cell state.blocks state.cells state.head spot) → IsLive spot
    in_head filled =
        let live = live_cell-head state.head state.blocks state.cells spot filled in
        let cell = bucket_cell-there state.head state.blocks state.cells state.head spot first first_there in
        let test : (bucket_word words (head_of words) spot == 0) ≡ false =
        ne_eqb (bucket_word words (head_of words) spot) 0 (λ nil. filled (sym head_word ∙ nil)) in
        let found : live_generation words spot ≡ head_of words =
        ap (λ (b : Bool). if b then slice_index words (head_of words + 1) else head_of words) test in
        record {
          at = state.head;
          generation = first;
          there = first_there;
          generation_is = found ∙ head_same;
          finest = omega (arith, first_exponent, head_finest);
          same = ap (λ (at : ℕ). bucket_word words at spot) found ∙ head_word ∙ sym live;
          home = subst (λ (w : ℕ). IsAtHome state.blocks (row_address w) first spot) (sym (live ∙ cell))
              (holds.chain.names state.head first spot first_there (subst (λ (w : ℕ). ¬ IsNil w) cell filled));
        }

    -- and else its predecessor
    in_predecessor : IsNil (bucket_cell state.blocks state.cells state.head spot) → IsLive spot
    in_predecessor nil =
        let live = live_cell-predecessor state.head state.blocks state.cells spot nil in
        let cell = bucket_cell-there state.head state.blocks state.cells state.head spot first first_there in
        let before : first.predecessor ≢ 0 = λ none. holds.chain.filled state.head first spot first_there (inr none) (sym cell ∙ nil) in
        let some_before : slice_index words (head_of words + 1) ≢ 0 = λ none. before (sym first_predecessor ∙ none) in
        let other = predecessor_there some_before in
        let other_cell = bucket_cell-there state.head state.blocks state.cells first.predecessor spot other.other other.there in
        let test : (bucket_word words (head_of words) spot == 0) ≡ true = ap (λ (w : ℕ). w == 0) (head_word ∙ nil) in
        let found : live_generation words spot ≡ first.predecessor =
        ap (λ (b : Bool). if b then slice_index words (head_of words + 1) else head_of words) test ∙ first_predecessor in
        let live_there : live_cell state.head state.blocks state.cells spot ≡ bucket_cell state.blocks state.cells first.predecessor spot =
        live ∙ ap (λ (at : ℕ). bucket_cell state.blocks state.cells at spot) (ap predecessor_of first_there) in
        let exponent : slice_index words (slice_index words (head_of words + 1)) ≡ other.other.exponent =
        ap (slice_index words) first_predecessor ∙ exponent_shown first.predecessor other.other other.there in
        record {
          at = first.predecessor;
          generation = other.other;
          there = other.there;
          generation_is = found;
          finest = omega (arith, exponent, predecessor_finest some_before);
          same = ap (λ (at : ℕ). bucket_word words at spot) found
              ∙ cell_same first.predecessor spot other.other other.there
              ∙ sym live_there;
          home = subst (λ (w : ℕ). IsAtHome state.blocks (row_address w) other.other spot) (sym (live_there ∙ other_cell))
              (holds.chain.names first.predecessor other.other spot other.there
              (holds.chain.filled first.predecessor other.other spot other.there (inl other.not_head)));
        }

    pub is_live : IsLive spot
    is_live = elim (ℕ_discrete (bucket_cell state.blocks state.cells state.head spot) 0) [
      | yes nil ↦ in_predecessor nil
      | no filled ↦ in_head filled
    ]

-- well-formed words show the predecessor's buckets, if there is a predecessor
pub predecessor_shown : (words : List ℕ) → IsWellFormed words → slice_index words (head_of words + 1) ≢ 0
    → HasBuckets words (slice_index words (head_of words + 1))
predecessor_shown words well = predecessor_buckets well.2

-- a spot's bucket lies among those of its generation
pub bucket_within : (words : List ℕ) (at spot : ℕ) → at + FIRST_BUCKET + 2 ^ slice_index words at ≤ length words
    → at + FIRST_BUCKET + bucket_of (slice_index words at) spot < length words
bucket_within words at spot within =
    let low = mod_below spot (2 ^ slice_index words at) (pow_pos (slice_index words at)) in
    omega (arith, low, within)
