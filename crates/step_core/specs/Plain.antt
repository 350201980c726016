-- Words whose live rows have no operations, and what their keys are; one generation of such rows.
use Rattle.std.specs.Prelude.{◌≡◌, ℕ, zero, suc, ◌+◌, ◌^◌, ◌<◌, ◌≤◌, max, ◌==◌, if◌then◌else◌, List, [], ◌∷◌, ◌++◌, length, slice_index, All}
use Rattle.std.specs.List.Sorted.{IsStrictlyIncreasing}
use Rattle.step_core.specs.Format.{head_of, next_of, base_of, Stands, mutable_word, row_address, row_words}
use Rattle.step_core.specs.Buckets.{class_keys}
use Rattle.step_core.specs.Content.{exponent_of, live_word, row_keys, InClass}
use Rattle.step_core.specs.Limits.{max_exponent}
use Rattle.step_core.specs.declared.format.TheConstants.{FIRST_BUCKET, FIRST_KEY}

-- no live row has an operation
abbrev pub HasPlainRows : List ℕ → Type 0
HasPlainRows words = (spot : ℕ) → slice_index words (row_address (live_word words spot) + 1) ≡ 0

-- the greater exponent of the head and its predecessor, if it has one: the buckets of both are unions
-- of its classes
abbrev pub finest_exponent : List ℕ → ℕ
finest_exponent words =
    let predecessor = slice_index words (head_of words + 1) in
    if predecessor == 0 then exponent_of words
    else max (exponent_of words) (slice_index words predecessor)

-- the keys of one of these classes in its live row
abbrev pub live_class_keys : List ℕ → ℕ → List ℕ
live_class_keys words class =
    class_keys (finest_exponent words) class
    (row_keys words (row_address (live_word words class)))

-- the keys of the first classes, one class behind the other
unfoldable pub keys_before : List ℕ → ℕ → List ℕ
keys_before words zero = []
keys_before words (suc class) = keys_before words class ++ live_class_keys words class

-- the keys of all live rows
abbrev pub all_live_keys : List ℕ → List ℕ
all_live_keys words = keys_before words (2 ^ finest_exponent words)

-- one generation, and for each of its buckets a row of keys without an operation
pub record PlainTable : Type 0 where
  -- where the generation stands
  pub head : ℕ
  pub exponent : ℕ
  -- where the rows begin, by bucket; at the number of buckets, where the last one ends
  pub starts : ℕ → ℕ
  -- their keys, by bucket
  pub keys : ℕ → List ℕ

-- the words of a round with so many passes are this table: the generation, and behind it the rows
-- in the order of the buckets
pub record IsPlainTable (seats : ℕ) (words : List ℕ) (table : PlainTable) : Type 0 where
  pub first : base_of seats ≤ table.head
  pub small : table.exponent ≤ max_exponent
  pub here : head_of words ≡ table.head
  pub sealed : Stands words table.head (table.exponent ∷ 0 ∷ [])
  pub named : (bucket : ℕ) → bucket < 2 ^ table.exponent
      → slice_index words (table.head + FIRST_BUCKET + bucket) ≡ mutable_word (table.starts bucket)
  pub behind : table.head + FIRST_BUCKET + 2 ^ table.exponent ≤ table.starts 0
  pub apart : (bucket : ℕ) → bucket < 2 ^ table.exponent
      → table.starts bucket + FIRST_KEY + length (table.keys bucket) ≤ table.starts (bucket + 1)
  pub drawn : table.starts (2 ^ table.exponent) ≤ next_of words
  pub within : table.starts (2 ^ table.exponent) ≤ length words
  pub rows : (bucket : ℕ) → bucket < 2 ^ table.exponent
      → Stands words (table.starts bucket) (row_words (table.keys bucket))
  pub rising : (bucket : ℕ) → bucket < 2 ^ table.exponent → IsStrictlyIncreasing (table.keys bucket)
  pub class : (bucket : ℕ) → bucket < 2 ^ table.exponent
      → All (InClass table.exponent bucket) (table.keys bucket)
  pub empty : (at : ℕ) → next_of words ≤ at → slice_index words at ≡ 0
