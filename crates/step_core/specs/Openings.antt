-- The words that a round begins with, for any rising keys.
use Rattle.std.specs.Prelude.{ℕ, zero, suc, ◌+◌, ◌-◌, ◌*◌, ◌^◌, ◌<◌, ◌≤◌, nat_le, if◌then◌else◌, List, [], ◌∷◌, ◌++◌, length, map, replicate}
use Rattle.std.specs.List.{range_with_len}
use Rattle.step_core.specs.Buckets.{class_keys}
use Rattle.step_core.specs.Format.{base_of, mutable_word, row_words}
use Rattle.step_core.specs.declared.format.TheConstants.{FIRST_BUCKET, FIRST_KEY}
use Rattle.step_core.specs.declared.views.RoundFacts.{RoundFacts}

-- the exponent of an opening with so many keys: the least that has at most four keys for each
-- bucket
pub record IsExponentFor (count exponent : ℕ) : Type 0 where
  pub enough : count ≤ 4 * 2 ^ exponent
  pub least : (less : ℕ) → less < exponent → 4 * 2 ^ less < count

-- it, if it is from `first` on and at most `more` further
unfoldable pub exponent_from : ℕ → ℕ → ℕ → ℕ
exponent_from count first zero = first
exponent_from count first (suc more) =
    if nat_le count (4 * 2 ^ first) then first else exponent_from count (first + 1) more

-- this exponent as a function of the number of keys
abbrev pub exponent_for : ℕ → ℕ
exponent_for count = exponent_from count 0 count

-- how many words an opening has: the fixed words, the generation's two, for each bucket its word
-- and three of its row, and the keys
abbrev pub opening_words : ℕ → List ℕ → ℕ
opening_words seats keys =
    base_of seats + FIRST_BUCKET + (1 + FIRST_KEY) * 2 ^ exponent_for (length keys) + length keys

-- the rows of the first buckets, one behind the other, each with its class's keys
unfoldable pub rows_of : ℕ → List ℕ → ℕ → List ℕ
rows_of exponent keys zero = []
rows_of exponent keys (suc bucket) =
    rows_of exponent keys bucket ++ row_words (class_keys exponent bucket keys)

-- the address of a bucket's row: behind the generation at `base` and the rows of the buckets before
-- it
abbrev pub row_start : ℕ → ℕ → List ℕ → ℕ → ℕ
row_start base exponent keys bucket =
    base + FIRST_BUCKET + 2 ^ exponent + length (rows_of exponent keys bucket)

-- the generation at `base`: its exponent, no predecessor, and the bucket words, which name these
-- rows
abbrev pub generation_words : ℕ → ℕ → List ℕ → List ℕ
generation_words base exponent keys =
    exponent ∷ 0
    ∷ map (λ bucket. mutable_word (row_start base exponent keys bucket))
    (range_with_len 0 (2 ^ exponent))

-- HEAD, NEXT, TICKET and the announce words
abbrev pub fixed_words : ℕ → List ℕ → List ℕ
fixed_words seats keys = (base_of seats ∷ opening_words seats keys ∷ 0 ∷ []) ++ replicate seats 0

-- the opening: the fixed words, the generation, its rows, and zeros up to the end
abbrev pub opening_of : ℕ → ℕ → List ℕ → List ℕ
opening_of seats cap keys =
    let exponent = exponent_for (length keys) in
    fixed_words seats keys ++ generation_words (base_of seats) exponent keys
    ++ rows_of exponent keys (2 ^ exponent)
    ++ replicate (cap - opening_words seats keys) 0

-- what never changes in a round that begins with these keys
abbrev pub opening_facts : ℕ → ℕ → List ℕ → RoundFacts
opening_facts seats cap keys =
    record { seats = seats; cap = cap; opened = opening_words seats keys; keys = keys }
