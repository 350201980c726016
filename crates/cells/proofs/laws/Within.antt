-- Where known blocks and blocks in hand lie: behind the fixed words, below the end, and so below 2 ^ 28.
use Rattle.std.proofs.Common.{◌≡◌, ℕ, ◌+◌, ◌<◌, ◌≤◌, ◌^◌, length, subst, arith}
use Rattle.arena.specs.Hands.{words_at}
use Rattle.step_core.specs.Format.{base_of, block_len}
use Rattle.step_core.specs.Limits.{max_exponent}
use Rattle.step_core.specs.declared.format.TheConstants.{FIRST_BUCKET, FIRST_KEY}
use Rattle.step_core.specs.declared.published.Published.{Published}
use Rattle.step_core.specs.declared.published.Published.TheVariants.{Generation, Row}
use Rattle.step_core.specs.declared.published.GenerationBlock.{GenerationBlock}
use Rattle.step_core.specs.declared.published.RowBlock.{RowBlock}
use Rattle.step_core.specs.declared.views.PassView.{PassView}
use Rattle.cells.specs.Known.{KnowsBlock, KnowsRow, KnowsGeneration, KnowsSealed, KnowsBucket}
use Rattle.cells.specs.Sound.{IsSound}

-- the place is a word of the arena: the fixed words lie before it, and it is below the end and below 2 ^ 28
pub record IsPlace (view : PassView) (place : ℕ) : Type 0 where
  pub behind_base : base_of view.facts.seats ≤ place
  pub within : place < view.facts.cap
  pub small : place < 2 ^ 28

-- so many words from the address on lie in the arena, so the end of them is at most 2 ^ 28
pub record IsRoom (view : PassView) (at count : ℕ) : Type 0 where
  pub behind_base : base_of view.facts.seats ≤ at
  pub within : at + count ≤ view.facts.cap
  pub small : at + count ≤ 2 ^ 28

module _ (view : PassView) (sound : IsSound view) where
  -- The arena has at most 2 ^ 28 words.
  pub cap_small : view.facts.cap ≤ 2 ^ 28
  cap_small = omega (arith, sound.facts.few_words)

  -- The first of the fixed words lies before the end.
  pub fixed_within : 0 < view.facts.cap
  fixed_within = omega (arith, sound.facts.fixed_words)

  -- A known block lies in the arena.
  pub block_within : (at : ℕ) (block : Published) → KnowsBlock view at block → IsRoom view at (block_len block)
  block_within at block known =
      let inside = sound.blocks at block known in
      let small = cap_small in
      record { behind_base = inside.behind_base; within = inside.within; small = omega (arith, inside.within, small) }

  -- A known row's words, its keys among them, lie in the arena.
  pub row_within : (at : ℕ) (row : RowBlock) → KnowsRow view at row → IsRoom view at (FIRST_KEY + length row.keys)
  row_within at row known =
      let inside = block_within at (Row row) known in
      let size : block_len (Row row) ≡ FIRST_KEY + length row.keys = omega arith in
      subst (IsRoom view at) size inside

  -- So do a known generation's words, its buckets among them, and its exponent is at most 24.
  pub generation_within : (at : ℕ) (generation : GenerationBlock) → KnowsGeneration view at generation
      → IsRoom view at (FIRST_BUCKET + 2 ^ generation.exponent) × (generation.exponent ≤ max_exponent)
  generation_within at generation known =
      let inside = block_within at (Generation generation) known in
      let size : block_len (Generation generation) ≡ FIRST_BUCKET + 2 ^ generation.exponent = omega arith in
      (subst (IsRoom view at) size inside, sound.generations at generation known)

  -- a word of a known block lies in the arena
  word_within : (at : ℕ) (block : Published) (k place : ℕ) → KnowsBlock view at block → k < block_len block → place ≡ at + k
      → IsPlace view place
  word_within at block k place known lt here =
      let inside = block_within at block known in
      record {
        behind_base = omega (arith, inside.behind_base);
        within = omega (arith, inside.within);
        small = omega (arith, inside.small);
      }

  -- A sealed word of a known block lies in the arena.
  pub sealed_within : (place : ℕ) → KnowsSealed view place → IsPlace view place
  sealed_within place (at, k, block, word) = word_within at block k place word.known (omega (arith, word.sealed)) word.here

  -- A bucket word of a known generation does.
  pub bucket_within : (place : ℕ) → KnowsBucket view place → IsPlace view place
  bucket_within place (at, bucket, generation, word) =
      word_within at (Generation generation) (FIRST_BUCKET + bucket) place word.known (omega (arith, word.within))
      (omega (arith, word.here))

  -- A word of a block in hand does.
  pub hand_within : (at offset : ℕ) → offset < length (words_at view.hands at) → IsPlace view (at + offset)
  hand_within at offset within =
      let inside = sound.hands at (at + offset) (record { begun = omega arith; within = omega arith }) in
      let small = cap_small in
      record {
        behind_base = inside.behind_base;
        within = omega (arith, inside.within);
        small = omega (arith, inside.within, small);
      }
