-- The fixed words of a round, and its blocks by their words.
use Rattle.std.specs.Prelude.{◌≡◌, ℕ, ◌+◌, ◌*◌, ◌/◌, ◌%◌, ◌^◌, ◌<◌, Bool, if◌then◌else◌, List, [], ◌∷◌, length, slice_index, bit_or}
use Rattle.step_core.specs.declared.format.TheConstants.{HEAD, NEXT, FIRST_ANNOUNCED}
use Rattle.step_core.specs.declared.published.Published.{Published}
use Rattle.step_core.specs.declared.published.Published.TheVariants.{Generation, Row, Op}

-- the address of the head generation
abbrev pub head_of : List ℕ → ℕ
head_of words = slice_index words HEAD

-- the first word never drawn
abbrev pub next_of : List ℕ → ℕ
next_of words = slice_index words NEXT

-- the first word of the arena
abbrev pub base_of : ℕ → ℕ
base_of seats = FIRST_ANNOUNCED + seats

-- the kind of an operation as its word has it: 1 inserts, 2 removes
abbrev pub kind_of : Bool → ℕ
kind_of insert = if insert then 1 else 2

-- the words of a block that don't change once it is published
abbrev pub sealed_words : Published → List ℕ
sealed_words (Generation block) = block.exponent ∷ block.predecessor ∷ []
sealed_words (Row block) = length block.keys ∷ block.op ∷ block.ans ∷ block.keys
sealed_words (Op block) = block.ticket ∷ kind_of block.insert ∷ block.key ∷ block.who ∷ []

-- how many words behind them may change: a generation's buckets, and an operation's result
abbrev pub open_words : Published → ℕ
open_words (Generation block) = 2 ^ block.exponent
open_words (Row block) = 0
open_words (Op block) = 1

-- the number of a block's words
abbrev pub block_len : Published → ℕ
block_len block = length (sealed_words block) + open_words block

-- the list stands in the words from the place on
abbrev pub Stands : List ℕ → ℕ → List ℕ → Type 0
Stands words at part = (k : ℕ) → k < length part → slice_index words (at + k) ≡ slice_index part k

-- a bucket word of 0 is nil, an even one names a mutable row, an odd one a frozen row
abbrev pub IsNil : ℕ → Type 0
IsNil word = word ≡ 0

-- the bucket's row may still be replaced
abbrev pub IsMutable : ℕ → Type 0
IsMutable word = word % 2 ≡ 0

-- the bucket's row is there for good
abbrev pub IsFrozen : ℕ → Type 0
IsFrozen word = word % 2 ≡ 1

-- the address of the row that a bucket word names
abbrev pub row_address : ℕ → ℕ
row_address word = word / 2

-- the bucket word of a mutable row
abbrev pub mutable_word : ℕ → ℕ
mutable_word row = 2 * row

-- the bucket word once it is frozen: it names the same row
abbrev pub frozen_word : ℕ → ℕ
frozen_word word = bit_or word 1

-- the words of a row of these keys without an operation
abbrev pub row_words : List ℕ → List ℕ
row_words keys = length keys ∷ 0 ∷ 0 ∷ keys
