-- The words of an opening, as they are written and as they lie.
use Rattle.std.proofs.Common.{◌≡◌, ℕ, ◌+◌, ◌-◌, ◌^◌, ◌≤◌, List, ◌++◌, length, take, replicate, ap, ◌∙◌, arith, length-append}
use Rattle.std.proofs.lemmas.List.{length-replicate, take_all}
use Rattle.std.proofs.lemmas.List.FromFn.{length-map-range_with_len}
use Rattle.step_core.specs.Buckets.{class_keys}
use Rattle.step_core.specs.Format.{base_of, mutable_word}
use Rattle.step_core.specs.Openings.{opening_words, opening_of, exponent_for, fixed_words, generation_words, rows_of, row_start}
use Rattle.step_core.specs.declared.format.TheConstants.{FIRST_BUCKET}
use Rattle.step_core.proofs.tables.Rows.{length-rows_of-all, rows_of-same, generation_words-same}

-- the fixed words end where the arena begins
pub length-fixed_words : (seats : ℕ) (keys : List ℕ) → length (fixed_words seats keys) ≡ base_of seats
length-fixed_words seats keys = omega (arith, length-replicate {A = ℕ} seats 0)

-- a generation has two words and its buckets
pub length-generation_words : (base exponent : ℕ) (keys : List ℕ)
    → length (generation_words base exponent keys) ≡ FIRST_BUCKET + 2 ^ exponent
length-generation_words base exponent keys =
    omega (arith, length-map-range_with_len (λ bucket. mutable_word (row_start base exponent keys bucket)) 0 (2 ^ exponent))

-- the words before the room
abbrev pub opening_front : ℕ → ℕ → List ℕ → List ℕ
opening_front seats exponent keys =
    fixed_words seats keys ++ generation_words (base_of seats) exponent keys ++ rows_of exponent keys (2 ^ exponent)

-- they are as many as the opening has
pub length-opening_front : (seats : ℕ) (keys : List ℕ)
    → length (opening_front seats (exponent_for (length keys)) keys) ≡ opening_words seats keys
length-opening_front seats keys =
    let exponent = exponent_for (length keys) in
    let fixed = fixed_words seats keys in
    let generation = generation_words (base_of seats) exponent keys in
    length-append (fixed ++ generation) (rows_of exponent keys (2 ^ exponent))
    ∙ omega (
      arith,
      length-append fixed generation,
      length-fixed_words seats keys,
      length-generation_words (base_of seats) exponent keys,
      length-rows_of-all exponent keys,
    )

-- an opening is as long as the round's words
pub length-opening_of : (seats cap : ℕ) (keys : List ℕ) → opening_words seats keys ≤ cap → length (opening_of seats cap keys) ≡ cap
length-opening_of seats cap keys fits =
    length-append (opening_front seats (exponent_for (length keys)) keys) (replicate (cap - opening_words seats keys) 0)
    ∙ omega (arith, length-opening_front seats keys, length-replicate {A = ℕ} (cap - opening_words seats keys) 0)

-- what the steps of the writing leave
pub record IsWritten (seats cap exponent : ℕ) (keys ordered one two three four : List ℕ) : Type 0 where
  pub exponent_is : exponent ≡ exponent_for (length keys)
  pub classes : (bucket : ℕ) → class_keys exponent bucket ordered ≡ class_keys exponent bucket keys
  pub fixed : one ≡ fixed_words seats keys
  pub generation : two ≡ one ++ generation_words (length one) exponent ordered
  pub rows : three ≡ two ++ rows_of exponent ordered (2 ^ exponent)
  pub room : four ≡ take cap three ++ replicate (cap - length three) 0

-- is the opening
pub opening_of-written : {seats cap exponent : ℕ} {keys ordered one two three four : List ℕ} → opening_words seats keys ≤ cap
    → IsWritten seats cap exponent keys ordered one two three four → four ≡ opening_of seats cap keys
opening_of-written {seats} {cap} {exponent} {keys} {ordered} {one} {two} {three} {four} fits is =
    let base : length one ≡ base_of seats = ap length is.fixed ∙ length-fixed_words seats keys in
    let second : two ≡ fixed_words seats keys ++ generation_words (base_of seats) exponent keys =
    is.generation
    ∙ (λ i. is.fixed i ++ generation_words (base i) exponent ordered)
    ∙ ap (λ (tail : List ℕ). fixed_words seats keys ++ tail) (generation_words-same (base_of seats) exponent ordered keys is.classes) in
    let third : three ≡ opening_front seats (exponent_for (length keys)) keys =
    is.rows
    ∙ (λ i. second i ++ rows_of-same exponent ordered keys is.classes (2 ^ exponent) i)
    ∙ ap (λ (e : ℕ). opening_front seats e keys) is.exponent_is in
    let long : length three ≡ opening_words seats keys = ap length third ∙ length-opening_front seats keys in
    is.room ∙ (λ i. (take_all cap three (omega (arith, long)) ∙ third) i ++ replicate (cap - long i) 0)
