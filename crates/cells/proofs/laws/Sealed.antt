-- What a loaded word of a known block is: its descriptor's word at that place.
use Rattle.std.proofs.Common.{◌≡◌, ℕ, suc, ◌+◌, ◌<◌, ◌^◌, length, slice_index, refl, arith}
use Rattle.step_core.specs.Format.{sealed_words}
use Rattle.step_core.specs.declared.format.TheConstants.{FIRST_BUCKET, FIRST_KEY}
use Rattle.step_core.specs.declared.published.Published.{Published}
use Rattle.step_core.specs.declared.published.Published.TheVariants.{Generation, Row}
use Rattle.step_core.specs.declared.published.GenerationBlock.{GenerationBlock}
use Rattle.step_core.specs.declared.published.RowBlock.{RowBlock}
use Rattle.step_core.specs.declared.views.PassView.{PassView}
use Rattle.cells.specs.Known.{KnowsBlock, KnowsRow, KnowsGeneration, IsSealedWord, KnowsSealed, KnowsBucket}
use Rattle.cells.specs.Steps.{ReadsSealed}

module _ (view : PassView) (at : ℕ) where
  -- word k of a known block is a sealed word
  is_sealed : (block : Published) (k place : ℕ) → KnowsBlock view at block → k < length (sealed_words block) → place ≡ at + k
      → IsSealedWord view place at k block
  is_sealed block k place known within here = record { known = known; sealed = within; here = here }

  -- Word k of a known block never changes.
  pub knows_sealed : (block : Published) (k : ℕ) → KnowsBlock view at block → k < length (sealed_words block)
      → KnowsSealed view (at + k)
  knows_sealed block k known within = (at, k, block, is_sealed block k (at + k) known within refl)

  -- What is read there is that word of the block.
  pub sealed_word : (block : Published) (k word : ℕ) → KnowsBlock view at block → k < length (sealed_words block)
      → ReadsSealed view (at + k) word → word ≡ slice_index (sealed_words block) k
  sealed_word block k word known within reads = reads at k block (is_sealed block k (at + k) known within refl)

  module _ (row : RowBlock) (known : KnowsRow view at row) where
    -- Each word of a known row never changes.
    pub knows_row_word : (k : ℕ) → k < FIRST_KEY + length row.keys → KnowsSealed view (at + k)
    knows_row_word k within = knows_sealed (Row row) k known (omega arith)

    -- A known row's first word may be loaded,
    pub knows_count : KnowsSealed view at
    knows_count = (at, 0, Row row, is_sealed (Row row) 0 at known (omega arith) (omega arith))

    -- the word of its operation,
    pub knows_op : KnowsSealed view (at + 1)
    knows_op = knows_sealed (Row row) 1 known (omega arith)

    -- the word of its answer,
    pub knows_answer : KnowsSealed view (at + 2)
    knows_answer = knows_sealed (Row row) 2 known (omega arith)

    -- and the word of each of its keys.
    pub knows_key : (index : ℕ) → index < length row.keys → KnowsSealed view (at + FIRST_KEY + index)
    knows_key index within =
        (at, FIRST_KEY + index, Row row, is_sealed (Row row) (FIRST_KEY + index) (at + FIRST_KEY + index) known (omega arith) (omega arith))

    -- A known row's first word is the number of its keys.
    pub row_count : (word : ℕ) → ReadsSealed view at word → word ≡ length row.keys
    row_count word reads = reads at 0 (Row row) (is_sealed (Row row) 0 at known (omega arith) (omega arith))

    -- The second is the address of its operation.
    pub row_op : (word : ℕ) → ReadsSealed view (at + 1) word → word ≡ row.op
    row_op word reads = sealed_word (Row row) 1 word known (omega arith) reads

    -- The third is the answer that the row was published with.
    pub row_answer : (word : ℕ) → ReadsSealed view (at + 2) word → word ≡ row.ans
    row_answer word reads = sealed_word (Row row) 2 word known (omega arith) reads

    -- Behind them are its keys.
    pub sealed_key : (index word : ℕ) → index < length row.keys → ReadsSealed view (at + FIRST_KEY + index) word
        → word ≡ slice_index row.keys index
    sealed_key index word within reads =
        reads at (suc (suc (suc index))) (Row row)
        (is_sealed (Row row) (suc (suc (suc index))) (at + FIRST_KEY + index) known (omega arith) (omega arith))

  module _ (generation : GenerationBlock) (known : KnowsGeneration view at generation) where
    -- A known generation's first word may be loaded,
    pub knows_exponent : KnowsSealed view at
    knows_exponent = (at, 0, Generation generation, is_sealed (Generation generation) 0 at known (omega arith) (omega arith))

    -- and so may its second,
    pub knows_predecessor : KnowsSealed view (at + 1)
    knows_predecessor = knows_sealed (Generation generation) 1 known (omega arith)

    -- and the word of each of its buckets.
    pub knows_bucket : (bucket : ℕ) → bucket < 2 ^ generation.exponent → KnowsBucket view (at + FIRST_BUCKET + bucket)
    knows_bucket bucket within = (at, bucket, generation, record { known = known; within = within; here = refl })

    -- A known generation's first word is its exponent.
    pub exponent_word : (word : ℕ) → ReadsSealed view at word → word ≡ generation.exponent
    exponent_word word reads =
        reads at 0 (Generation generation) (is_sealed (Generation generation) 0 at known (omega arith) (omega arith))

    -- The second is the address of its predecessor.
    pub predecessor_word : (word : ℕ) → ReadsSealed view (at + 1) word → word ≡ generation.predecessor
    predecessor_word word reads = sealed_word (Generation generation) 1 word known (omega arith) reads
