-- What the words show of the published blocks that they fit, in terms of the words alone.
use Rattle.std.proofs.Common.{◌≡◌, ℕ, ◌+◌, ◌-◌, ◌%◌, ◌^◌, ◌<◌, ◌≤◌, List, length, slice_index, sym, ap, ◌∙◌, subst, arith, add-zero, inr, Option, Some}
use Rattle.std.proofs.lemmas.Nat.{mod_below, pow_pos}
use Rattle.arena.specs.Laws.{IsDrawn}
use Rattle.arena.proofs.laws.Apart.{blocks_lie_inside}
use Rattle.step_core.specs.Format.{head_of, next_of, base_of, sealed_words, open_words, block_len, Stands, IsNil, row_address}
use Rattle.step_core.specs.Content.{bucket_of, bucket_word}
use Rattle.step_core.specs.Fits.{Fits, HoldsBlocks, IsWellFormed, IsAtHome, KeepsHome}
use Rattle.step_core.specs.States.{RoundState, IsGeneration, IsRow, hands_of}
use Rattle.step_core.specs.Limits.{max_exponent}
use Rattle.step_core.specs.declared.format.TheConstants.{FIRST_BUCKET}
use Rattle.step_core.specs.declared.published.Published.{Published}
use Rattle.step_core.specs.declared.published.Published.TheVariants.{Generation, Row, Op}
use Rattle.step_core.specs.declared.published.GenerationBlock.{GenerationBlock}
use Rattle.step_core.specs.declared.published.RowBlock.{RowBlock}
use Rattle.step_core.specs.declared.views.RoundFacts.{RoundFacts}

-- the block lies in the drawn part of the arena, and its sealed words stand there
pub record IsShown (seats : ℕ) (words : List ℕ) (at : ℕ) (block : Published) : Type 0 where
  pub first : base_of seats ≤ at
  pub drawn : at + block_len block ≤ next_of words
  pub within : at + block_len block ≤ length words
  pub sealed : Stands words at (sealed_words block)

-- the words of a round with so many passes show these published blocks
pub record ShowsBlocks (seats : ℕ) (words : List ℕ) (blocks : ℕ → Option Published) : Type 0 where
  pub shown : (at : ℕ) (block : Published) → blocks at ≡ Some block → IsShown seats words at block
  pub head : (generation : GenerationBlock) × IsGeneration blocks (head_of words) generation
  pub small : (at : ℕ) (generation : GenerationBlock) → IsGeneration blocks at generation → generation.exponent ≤ max_exponent
  pub filled : (at : ℕ) (generation : GenerationBlock) (spot : ℕ) → IsGeneration blocks at generation
      → generation.predecessor ≡ 0 → ¬ IsNil (bucket_word words at spot)
  pub names : (at : ℕ) (generation : GenerationBlock) (spot : ℕ) → IsGeneration blocks at generation
      → ¬ IsNil (bucket_word words at spot) → IsAtHome blocks (row_address (bucket_word words at spot)) generation spot
  pub homes : (at : ℕ) (row : RowBlock) → IsRow blocks at row → KeepsHome blocks row

-- each kind of block has a word
pub some_word : (block : Published) → 0 < block_len block
some_word (Generation block) = omega arith
some_word (Row block) = omega arith
some_word (Op block) = omega arith

module _ {seats : ℕ} {words : List ℕ} {state : RoundState} (holds : HoldsBlocks seats words state) where
  inside : (at place : ℕ) (block : Published) → state.blocks at ≡ Some block → at ≤ place → place < at + block_len block
      → IsDrawn (length words) seats state.next place
  inside at place block here begun within =
      blocks_lie_inside sealed_words open_words hands_of holds.laid at place
      (record { block = block; is_block = here; begun = begun; within = within })

  pub block_shown : (at : ℕ) (block : Published) → state.blocks at ≡ Some block → IsShown seats words at block
  block_shown at block here =
      let some = some_word block in
      let last = inside at (at + block_len block - 1) block here (omega arith) (omega arith) in
      let next : next_of words ≡ state.next = holds.laid.fixed_words.next_shown in
      record {
        first = (inside at at block here (omega arith) (omega arith)).behind_base;
        drawn = omega (arith, last.below_next);
        within = omega (arith, last.within);
        sealed = (holds.laid.blocks at block here).sealed_part.shown;
      }

  -- a bucket word is the generation's cell
  pub bucket_word-cell : (at : ℕ) (generation : GenerationBlock) (spot : ℕ) → IsGeneration state.blocks at generation
      → bucket_word words at spot ≡ state.cells at (bucket_of generation.exponent spot)
  bucket_word-cell at generation spot here =
      let shown = block_shown at (Generation generation) here in
      let exponent : slice_index words at ≡ generation.exponent = ap (slice_index words) (sym (add-zero at))
      ∙ shown.sealed 0 (omega arith) in
      let low = mod_below spot (2 ^ generation.exponent) (pow_pos generation.exponent) in
      ap (λ (e : ℕ). slice_index words (at + FIRST_BUCKET + spot % 2 ^ e)) exponent
      ∙ (holds.laid.blocks at (Generation generation) here).cell_part.shown (bucket_of generation.exponent spot) low

  head_is : head_of words ≡ state.head
  head_is = holds.laid.fixed_words.head_shown

  head_there : (generation : GenerationBlock) × IsGeneration state.blocks (head_of words) generation
  head_there = (
    holds.chain.head_there.0,
    ap state.blocks head_is ∙ holds.chain.head_there.1,
  )

  -- what they show
  pub shows_blocks : ShowsBlocks seats words state.blocks
  shows_blocks = record {
    shown = block_shown;
    head = head_there;
    small = holds.chain.small;
    filled = λ at generation spot here first. subst (λ (word : ℕ). ¬ IsNil word) (sym (bucket_word-cell at generation spot here))
        (holds.chain.filled at generation spot here (inr first));
    names = λ at generation spot here filled. subst (λ (word : ℕ). IsAtHome state.blocks (row_address word) generation spot)
        (sym (bucket_word-cell at generation spot here))
        (holds.chain.names at generation spot here (subst (λ (word : ℕ). ¬ IsNil word) (bucket_word-cell at generation spot here) filled));
    homes = holds.homes;
  }

-- well-formed words show some blocks
pub shown_by : (words : List ℕ) → IsWellFormed words → (seats : ℕ) × (blocks : ℕ → Option Published) × ShowsBlocks seats words blocks
shown_by words well = (well.0, well.1.blocks, shows_blocks well.2)

-- words that fit a state and views are well formed
pub well_formed_from_fits : (facts : RoundFacts) (words : List ℕ) (state : RoundState) → Fits facts words state → IsWellFormed words
well_formed_from_fits facts words state fits = (facts.seats, state, fits.holds)
