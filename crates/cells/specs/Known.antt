-- What a pass knows of published blocks, and lookups in it.
use Rattle.std.specs.Prelude.{◌≡◌, ℕ, ◌+◌, ◌-◌, ◌<◌, ◌^◌, ◌&&◌, Bool, false, nat_eq, nat_lt, nat_le, if◌then◌else◌, List, [], ◌∷◌, length, Contains, Option, Some, None}
use Rattle.step_core.specs.Format.{sealed_words}
use Rattle.step_core.specs.declared.format.TheConstants.{FIRST_BUCKET}
use Rattle.step_core.specs.declared.published.Published.{Published}
use Rattle.step_core.specs.declared.published.Published.TheVariants.{Generation, Row, Op}
use Rattle.step_core.specs.declared.published.GenerationBlock.{GenerationBlock}
use Rattle.step_core.specs.declared.published.RowBlock.{RowBlock}
use Rattle.step_core.specs.declared.views.Known.{Known}
use Rattle.step_core.specs.declared.views.PassView.{PassView}

-- a block and where it begins
abbrev pub known_block : ℕ → Published → Known
known_block at block = record { at = at; block = block }

-- the pass knows that this block is published at the address
abbrev pub KnowsBlock : PassView → ℕ → Published → Type 0
KnowsBlock view at block = Contains view.known (known_block at block)

-- it knows that this row is
abbrev pub KnowsRow : PassView → ℕ → RowBlock → Type 0
KnowsRow view at row = KnowsBlock view at (Row row)

-- it knows that this generation is
abbrev pub KnowsGeneration : PassView → ℕ → GenerationBlock → Type 0
KnowsGeneration view at generation = KnowsBlock view at (Generation generation)

-- a row without keys, which stands for a row that nobody knows
abbrev pub no_row : RowBlock
no_row = record { exponent = 0; bucket = 0; op = 0; ans = 0; keys = [] }

-- the row that a block is
abbrev pub row_of : Published → RowBlock
row_of (Generation generation) = no_row
row_of (Row row) = row
row_of (Op op) = no_row

-- what a block names in its second word, or 0: a generation's predecessor, a row's operation
abbrev pub link_of : Published → ℕ
link_of (Generation generation) = generation.predecessor
link_of (Row row) = row.op
link_of (Op op) = 0

-- the block that is known at the address, if one is
abbrev pub block_at : List Known → ℕ → Option Published
block_at [] at = None
block_at (known ∷ others) at =
    if nat_eq known.at at then Some known.block else block_at others at

-- the row that is known at the address
abbrev pub row_at : List Known → ℕ → RowBlock
row_at [] at = no_row
row_at (known ∷ others) at = if nat_eq known.at at then row_of known.block else row_at others at

-- the keys that are known at the address
abbrev pub keys_at : PassView → ℕ → List ℕ
keys_at view at = (row_at view.known at).keys

-- the place is a bucket word of the block, if it stands at the address
abbrev pub has_bucket_at : ℕ → ℕ → Published → Bool
has_bucket_at place at (Generation generation) =
    nat_le (at + FIRST_BUCKET) place && nat_lt place (at + FIRST_BUCKET + 2 ^ generation.exponent)
has_bucket_at place at (Row row) = false
has_bucket_at place at (Op op) = false

-- the address of the known generation of which the place is a bucket word
abbrev pub generation_at : List Known → ℕ → ℕ
generation_at [] place = 0
generation_at (known ∷ others) place =
    if has_bucket_at place known.at known.block then known.at else generation_at others place

-- the bucket of that generation
abbrev pub bucket_at : List Known → ℕ → ℕ
bucket_at known place = place - (generation_at known place + FIRST_BUCKET)

-- the place is word `k` of a known block, one that never changes
pub record IsSealedWord (view : PassView) (place at k : ℕ) (block : Published) : Type 0 where
  pub known : KnowsBlock view at block
  pub sealed : k < length (sealed_words block)
  pub here : place ≡ at + k

-- the place is a word of a known block that never changes
abbrev pub KnowsSealed : PassView → ℕ → Type 0
KnowsSealed view place = (at k : ℕ) × (block : Published) × IsSealedWord view place at k block

-- the place is the word of this bucket of a known generation
pub record IsBucketWord (view : PassView) (place at bucket : ℕ) (generation : GenerationBlock)
    : Type 0 where
  pub known : KnowsGeneration view at generation
  pub within : bucket < 2 ^ generation.exponent
  pub here : place ≡ at + FIRST_BUCKET + bucket

-- the place is a bucket word of a known generation
abbrev pub KnowsBucket : PassView → ℕ → Type 0
KnowsBucket view place =
    (at bucket : ℕ) × (generation : GenerationBlock) × IsBucketWord view place at bucket generation
