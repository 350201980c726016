-- An opening is a table of plain rows, and its members are its keys.
use Rattle.std.proofs.Common.{◌≡◌, ℕ, zero, suc, ◌+◌, ◌-◌, ◌^◌, ◌<◌, ◌≤◌, nat_eq, Bool, true, false, cond, ◌||◌, List, [], ◌∷◌, ◌++◌, length, slice_index, replicate, refl, sym, ap, ◌∙◌, subst, arith, add-one, append_assoc, length-append, Result, Ok, Err, IfOk, inl, inr}
use Rattle.std.specs.List.{list_any}
use Rattle.std.specs.List.Sorted.{IsStrictlyIncreasing}
use Rattle.std.specs.FinSet as set
use Rattle.std.proofs.lemmas.Bool.{cases_Bool, cases_lt}
use Rattle.std.proofs.lemmas.Bool.Decides.{nat_tests, Decides-eqb}
use Rattle.std.proofs.lemmas.List.{append-nil, get_or-append-add, get_or_append_left}
use Rattle.std.proofs.lemmas.List.FromFn.{get_or-map-range_with_len}
use Rattle.std.proofs.lemmas.List.Kept.{IsStrictlyIncreasing-filter}
use Rattle.set_model.specs.Keys.{keys_set}
use Rattle.step_core.specs.Buckets.{key_bucket, class_keys}
use Rattle.step_core.specs.Content.{HasMembers}
use Rattle.step_core.specs.Format.{base_of, Stands, mutable_word, row_words}
use Rattle.step_core.specs.Openings.{opening_words, opening_of, exponent_for, fixed_words, generation_words, rows_of, row_start}
use Rattle.step_core.specs.Plain.{PlainTable, IsPlainTable}
use Rattle.step_core.specs.declared.format.TheConstants.{FIRST_ANNOUNCED, FIRST_BUCKET, FIRST_KEY}
use Rattle.step_core.proofs.tables.Buckets.{class_keys-class}
use Rattle.step_core.proofs.tables.OneExponent.{exponent_for-least, exponent_for-small}
use Rattle.step_core.proofs.tables.Rows.{rows_of-more, length-rows_of-all}
use Rattle.step_core.proofs.tables.Written.{length-fixed_words, length-generation_words, opening_front, length-opening_front, length-opening_of}
use Rattle.step_core.proofs.tables.Members.{table_member}

-- a list of zeros has zeros everywhere
pub zeros-at : (n at : ℕ) → slice_index (replicate n 0) at ≡ 0
zeros-at zero at = refl
zeros-at (suc n) zero = refl
zeros-at (suc n) (suc at) = zeros-at n at

-- a bucket's row stands behind those before it
rows_of-split : (exponent : ℕ) (keys : List ℕ) (bucket count : ℕ) → bucket < count
    → (rest : List ℕ) × (rows_of exponent keys count ≡ rows_of exponent keys bucket ++ (row_words
    (class_keys exponent bucket keys) ++ rest))
rows_of-split exponent keys bucket zero lt = absurd (omega arith)
rows_of-split exponent keys bucket (suc count) lt =
    let last = row_words (class_keys exponent count keys) in
    let more : rows_of exponent keys (suc count) ≡ rows_of exponent keys count ++ last =
    ap (rows_of exponent keys) (sym (add-one count)) ∙ rows_of-more exponent keys count in
    elim (cases_lt bucket count) [
      | inl below ↦
          let split = rows_of-split exponent keys bucket count below in
          let row = row_words (class_keys exponent bucket keys) in (
            split.0 ++ last,
            more
                ∙ ap (λ (rows : List ℕ). rows ++ last) split.1
                ∙ append_assoc (rows_of exponent keys bucket) (row ++ split.0) last
                ∙ ap (λ (tail : List ℕ). rows_of exponent keys bucket ++ tail) (append_assoc row split.0 last),
          )
      | inr here ↦
          let same : count ≡ bucket = omega arith in
          subst (λ (b : ℕ). (rest : List ℕ) × (rows_of exponent keys (suc count) ≡ rows_of exponent keys b ++ (row_words
          (class_keys exponent b keys) ++ rest))) same
          ([], more ∙ ap (λ (tail : List ℕ). rows_of exponent keys count ++ tail) (sym (append-nil last)))
    ]

or_same : (a b c : Bool) → b ≡ c → (a || b) ≡ (a || c)
or_same a b c e = ap (λ (x : Bool). a || x) e

-- a key is in the list where it is in its own class
list_any-class : (exponent key : ℕ) (keys : List ℕ)
    → list_any (λ y. nat_eq y key) (class_keys exponent (key_bucket exponent key) keys) ≡ list_any (λ y. nat_eq y key) keys
list_any-class exponent key [] = refl
list_any-class exponent key (x ∷ keys) =
    let is : ℕ → Bool = λ y. nat_eq y key in
    let kept = class_keys exponent (key_bucket exponent key) keys in
    let rest = list_any-class exponent key keys in
    elim (cases_Bool (nat_eq (key_bucket exponent x) (key_bucket exponent key))) [
      | inl same ↦ ap (λ (b : Bool). list_any is (cond b (x ∷ kept) kept)) same ∙ or_same (is x) (list_any is kept) (list_any is keys) rest
      | inr other ↦
          let differs : is x ≡ false = elim (cases_Bool (is x)) [
            | inl equal ↦
                let buckets = ap (key_bucket exponent) ((Decides-eqb x key).0 equal) in
                let both : nat_eq (key_bucket exponent x) (key_bucket exponent key) ≡ true = grind (arith, nat_tests) in
                absurd (cc (sym both ∙ other))
            | inr differs ↦ differs
          ] in
          ap (λ (b : Bool). list_any is (cond b (x ∷ kept) kept)) other ∙ rest ∙ ap (λ (b : Bool). b || list_any is keys) (sym differs)
    ]

-- the table of an opening
abbrev pub opening_table : ℕ → List ℕ → PlainTable
opening_table seats keys =
    let exponent = exponent_for (length keys) in
    record {
      head = base_of seats;
      exponent = exponent;
      starts = row_start (base_of seats) exponent keys;
      keys = λ bucket. class_keys exponent bucket keys;
    }

module _ (seats cap : ℕ) (keys : List ℕ) (rising : IsStrictlyIncreasing keys) (few : length keys ≤ 2 ^ 24)
    (fits : opening_words seats keys ≤ cap) where
  abbrev exponent : ℕ
  exponent = exponent_for (length keys)

  abbrev words : List ℕ
  words = opening_of seats cap keys

  abbrev generation : List ℕ
  generation = generation_words (base_of seats) exponent keys

  abbrev rows : List ℕ
  rows = rows_of exponent keys (2 ^ exponent)

  abbrev zeros : List ℕ
  zeros = replicate (cap - opening_words seats keys) 0

  words-parts : words ≡ fixed_words seats keys ++ (generation ++ (rows ++ zeros))
  words-parts = simp append_assoc

  -- behind the fixed words
  word-behind : (k : ℕ) → slice_index words (base_of seats + k) ≡ slice_index (generation ++ (rows ++ zeros)) k
  word-behind k =
      ap (λ (list : List ℕ). slice_index list (base_of seats + k)) words-parts
      ∙ ap (λ (n : ℕ). slice_index (fixed_words seats keys ++ (generation ++ (rows ++ zeros))) (n + k)) (sym
      (length-fixed_words seats keys))
      ∙ get_or-append-add (fixed_words seats keys) (generation ++ (rows ++ zeros)) k 0

  generation-word : (k : ℕ) → k < FIRST_BUCKET + 2 ^ exponent → slice_index words (base_of seats + k) ≡ slice_index generation k
  generation-word k lt =
      word-behind k ∙ get_or_append_left generation (rows ++ zeros) 0 k (omega (
        arith,
        length-generation_words
            (base_of seats) exponent keys,
      ))

  row-word : (k : ℕ) → slice_index words (base_of seats + FIRST_BUCKET + 2 ^ exponent + k) ≡ slice_index (rows ++ zeros) k
  row-word k =
      ap (slice_index words) (let same : base_of seats + FIRST_BUCKET + 2 ^ exponent + k ≡ base_of seats + (length generation + k) =
      omega (arith, length-generation_words (base_of seats) exponent keys) in same)
      ∙ word-behind (length generation + k)
      ∙ get_or-append-add generation (rows ++ zeros) k 0

  opening_sealed : Stands words (base_of seats) (exponent ∷ 0 ∷ [])
  opening_sealed zero lt = generation-word 0 (omega arith)
  opening_sealed (suc zero) lt = generation-word 1 (omega arith)
  opening_sealed (suc (suc k)) lt = absurd (omega arith)

  opening_named : (bucket : ℕ) → bucket < 2 ^ exponent
      → slice_index words (base_of seats + FIRST_BUCKET + bucket) ≡ mutable_word (row_start (base_of seats) exponent keys bucket)
  opening_named bucket low =
      ap (slice_index words) (let same : base_of seats + FIRST_BUCKET + bucket ≡ base_of seats + suc (suc bucket) = omega arith in same)
      ∙ generation-word (suc (suc bucket)) (omega arith)
      ∙ get_or-map-range_with_len (λ b. mutable_word (row_start (base_of seats) exponent keys b)) 0 (2 ^ exponent) bucket bucket 0 low
      (omega arith)

  opening_row : (bucket : ℕ) → bucket < 2 ^ exponent
      → Stands words (row_start (base_of seats) exponent keys bucket) (row_words (class_keys exponent bucket keys))
  opening_row bucket low k lt =
      let before = rows_of exponent keys bucket in
      let row = row_words (class_keys exponent bucket keys) in
      let split = rows_of-split exponent keys bucket (2 ^ exponent) low in
      let parts : rows ++ zeros ≡ before ++ (row ++ (split.0 ++ zeros)) =
      ap (λ (list : List ℕ). list ++ zeros) split.1
      ∙ append_assoc before (row ++ split.0) zeros
      ∙ ap (λ (tail : List ℕ). before ++ tail) (append_assoc row split.0 zeros) in
      ap (slice_index words) (let same : row_start
      (base_of seats) exponent keys bucket + k ≡ base_of seats + FIRST_BUCKET + 2 ^ exponent + (length before + k) = omega arith in
      same)
      ∙ row-word (length before + k)
      ∙ ap (λ (list : List ℕ). slice_index list (length before + k)) parts
      ∙ get_or-append-add before (row ++ (split.0 ++ zeros)) k 0
      ∙ get_or_append_left row (split.0 ++ zeros) 0 k lt

  opening_empty : (at : ℕ) → opening_words seats keys ≤ at → slice_index words at ≡ 0
  opening_empty at past =
      let front = opening_front seats exponent keys in
      let more = at - opening_words seats keys in
      ap (slice_index words) (let same : at ≡ length front + more = omega (arith, length-opening_front seats keys) in same)
      ∙ get_or-append-add front zeros more 0
      ∙ zeros-at (cap - opening_words seats keys) more

  opening_apart : (bucket : ℕ) → row_start (base_of seats) exponent keys bucket + FIRST_KEY + length (class_keys exponent bucket keys)
      ≤ row_start (base_of seats) exponent keys (bucket + 1)
  opening_apart bucket =
      omega (
        arith,
        ap length (rows_of-more exponent keys bucket),
        length-append (rows_of exponent keys bucket) (row_words
            (class_keys exponent bucket keys)),
      )

  -- no operation is announced
  pub opening_announced : (pass : ℕ) → pass < seats → slice_index words (FIRST_ANNOUNCED + pass) ≡ 0
  opening_announced pass lt =
      let fixed = base_of seats ∷ opening_words seats keys ∷ 0 ∷ [] in
      ap (λ (list : List ℕ). slice_index list (FIRST_ANNOUNCED + pass)) words-parts
      ∙ get_or_append_left (fixed_words seats keys) (generation ++ (rows ++ zeros)) 0 (FIRST_ANNOUNCED + pass)
      (omega (arith, length-fixed_words seats keys))
      ∙ get_or-append-add fixed (replicate seats 0) pass 0
      ∙ zeros-at seats pass

  -- an opening is its table
  pub opening_is_table : IsPlainTable seats words (opening_table seats keys)
  opening_is_table =
      let end : row_start (base_of seats) exponent keys (2 ^ exponent) ≡ opening_words seats keys =
      omega (arith, length-rows_of-all exponent keys) in
      record {
        first = omega arith;
        small = omega (arith, exponent_for-small (length keys) exponent (exponent_for-least (length keys)) few);
        here = refl;
        sealed = opening_sealed;
        named = opening_named;
        behind = omega arith;
        apart = λ bucket low. opening_apart bucket;
        drawn = omega (arith, end);
        within = omega (arith, end, length-opening_of seats cap keys fits);
        rows = opening_row;
        rising = λ bucket low. IsStrictlyIncreasing-filter (λ key. nat_eq (key_bucket exponent key) bucket) keys rising;
        class = λ bucket low. class_keys-class exponent bucket keys;
        empty = opening_empty;
      }

  -- its members are its keys
  pub opening_members : HasMembers words (keys_set keys)
  opening_members key =
      set.contains-from_list_nat keys key
      ∙ sym (table_member opening_is_table key ∙ list_any-class exponent key keys)

-- what holds of the only words that a call may give holds of those that it gave
pub IfOk-only : {E : Type 0} (P : List ℕ → Type 0) (only : List ℕ) (r : Result (List ℕ) E)
    → IfOk r (λ given. given ≡ only) → P only → IfOk r P
IfOk-only P only (Ok given) same holds = subst P (sym same) holds
IfOk-only P only (Err cause) same holds = tt
