-- The rows of an opening: how long they are, where each begins, and that the order of the buckets' keys among
-- one another doesn't matter.
use Rattle.std.proofs.Common.{◌≡◌, ℕ, zero, suc, ◌+◌, ◌*◌, ◌^◌, List, [], ◌∷◌, ◌++◌, length, map, refl, sym, ap, ◌∙◌, arith, add-one, append_assoc, length-append}
use Rattle.std.specs.List.{range_with_len}
use Rattle.std.proofs.lemmas.List.{append-nil}
use Rattle.std.proofs.lemmas.List.FromFn.{map-range_with_len_more}
use Rattle.step_core.specs.Buckets.{key_bucket, class_keys, IsBucketStart}
use Rattle.step_core.specs.Format.{mutable_word, row_words}
use Rattle.step_core.specs.Openings.{rows_of, row_start, generation_words}
use Rattle.step_core.specs.declared.format.TheConstants.{FIRST_BUCKET, FIRST_KEY}
use Rattle.step_core.proofs.tables.Buckets.{lower_keys, length-lower_keys, lower_keys-none, lower_keys-all, lower_keys-start}

-- one row more
pub rows_of-more : (exponent : ℕ) (keys : List ℕ) (bucket : ℕ)
    → rows_of exponent keys (bucket + 1) ≡ rows_of exponent keys bucket ++ row_words (class_keys exponent bucket keys)
unfolding rows_of
rows_of-more exponent keys bucket = ap (rows_of exponent keys) (add-one bucket)

-- so many words and the keys of lower buckets
pub length-rows_of : (exponent : ℕ) (keys : List ℕ) (bucket : ℕ)
    → length (rows_of exponent keys bucket) ≡ FIRST_KEY * bucket + length (lower_keys (key_bucket exponent) bucket keys)
unfolding rows_of
length-rows_of exponent keys zero = omega (arith, lower_keys-none (key_bucket exponent) keys)
length-rows_of exponent keys (suc bucket) =
    let class = class_keys exponent bucket keys in
    let same : length (lower_keys (key_bucket exponent) (suc bucket) keys) ≡ length (lower_keys (key_bucket exponent) (bucket + 1) keys) =
    ap (λ (n : ℕ). length (lower_keys (key_bucket exponent) n keys)) (sym (add-one bucket)) in
    length-append (rows_of exponent keys bucket) (row_words class)
    ∙ omega (arith, length-rows_of exponent keys bucket, same, length-lower_keys (key_bucket exponent) bucket keys)

-- all rows have three words each and the keys
pub length-rows_of-all : (exponent : ℕ) (keys : List ℕ)
    → length (rows_of exponent keys (2 ^ exponent)) ≡ FIRST_KEY * 2 ^ exponent + length keys
length-rows_of-all exponent keys =
    omega (arith, length-rows_of exponent keys (2 ^ exponent), ap length (lower_keys-all exponent keys))

-- a bucket's row begins behind the rows before it and the keys that stand before the bucket's start
pub row_start-place : (base exponent : ℕ) (keys : List ℕ) (bucket place : ℕ) → IsBucketStart exponent keys bucket place
    → row_start base exponent keys bucket ≡ base + FIRST_BUCKET + 2 ^ exponent + (FIRST_KEY * bucket + place)
row_start-place base exponent keys bucket place start =
    omega (arith, length-rows_of exponent keys bucket, lower_keys-start exponent bucket keys place start)

-- keys of the same classes have the same rows
pub rows_of-same : (exponent : ℕ) (xs ys : List ℕ) → ((bucket : ℕ) → class_keys exponent bucket xs ≡ class_keys exponent bucket ys)
    → (bucket : ℕ) → rows_of exponent xs bucket ≡ rows_of exponent ys bucket
unfolding rows_of
rows_of-same exponent xs ys classes zero = refl
rows_of-same exponent xs ys classes (suc bucket) =
    λ i. rows_of-same exponent xs ys classes bucket i ++ row_words (classes bucket i)

-- and the same generation
pub generation_words-same : (base exponent : ℕ) (xs ys : List ℕ) → ((bucket : ℕ)
    → class_keys exponent bucket xs ≡ class_keys exponent bucket ys)
    → generation_words base exponent xs ≡ generation_words base exponent ys
generation_words-same base exponent xs ys classes =
    λ i. exponent ∷ 0
    ∷ map (λ bucket. mutable_word (base + FIRST_BUCKET + 2 ^ exponent + length (rows_of-same exponent xs ys classes bucket i)))
    (range_with_len 0 (2 ^ exponent))

-- the generation with the words of the first buckets alone
abbrev pub generation_front : ℕ → ℕ → List ℕ → ℕ → List ℕ
generation_front base exponent keys count =
    exponent ∷ 0 ∷ map (λ bucket. mutable_word (row_start base exponent keys bucket)) (range_with_len 0 count)

-- one bucket word more
pub generation_front-more : (old words : List ℕ) (base exponent : ℕ) (keys : List ℕ) (bucket word : ℕ)
    → words ≡ old ++ generation_front base exponent keys bucket → word ≡ mutable_word (row_start base exponent keys bucket)
    → words ++ word ∷ [] ≡ old ++ generation_front base exponent keys (bucket + 1)
generation_front-more old words base exponent keys bucket word begun next =
    let named : ℕ → ℕ = λ b. mutable_word (row_start base exponent keys b) in
    (λ i. begun i ++ next i ∷ [])
    ∙ append_assoc old (generation_front base exponent keys bucket) (named bucket ∷ [])
    ∙ ap (λ (tail : List ℕ). old ++ (exponent ∷ 0 ∷ tail)) (sym (map-range_with_len_more named 0 bucket bucket (omega arith)))

-- one row more
pub rows_of-written : (old words : List ℕ) (exponent : ℕ) (keys : List ℕ) (bucket : ℕ) (class : List ℕ)
    → words ≡ old ++ rows_of exponent keys bucket → class ≡ class_keys exponent bucket keys
    → words ++ row_words class ≡ old ++ rows_of exponent keys (bucket + 1)
rows_of-written old words exponent keys bucket class begun next =
    (λ i. begun i ++ row_words (next i))
    ∙ append_assoc old (rows_of exponent keys bucket) (row_words (class_keys exponent bucket keys))
    ∙ ap (λ (tail : List ℕ). old ++ tail) (sym (rows_of-more exponent keys bucket))

-- no row yet
pub rows_of-none : (words : List ℕ) (exponent : ℕ) (keys : List ℕ) → words ≡ words ++ rows_of exponent keys 0
unfolding rows_of
rows_of-none words exponent keys = sym (append-nil words)

-- the first bucket's keys begin at 0
pub bucket_start-first : (exponent : ℕ) (keys : List ℕ) → IsBucketStart exponent keys 0 0
bucket_start-first exponent keys =
    record { within = omega arith; before = λ k lt. absurd (omega arith); behind = λ k from lt. omega arith }
