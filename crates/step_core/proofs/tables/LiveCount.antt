-- The keys in the rows of well-formed words are no more than the words.
use Rattle.std.proofs.Common.{◌≡◌, ℕ, zero, suc, ◌+◌, ◌≤◌, nat_eq, Bool, true, cond, ◌||◌, List, [], ◌∷◌, length, take, drop, slice_index, sym, ap, ◌∙◌, inl, inr}
use Rattle.std.specs.List.{filter, list_any}
use Rattle.std.proofs.lemmas.Bool.{cases_Bool, or_cases, or_left, or_right}
use Rattle.std.proofs.lemmas.Cmp.{nat_eq_equiv}
use Rattle.std.proofs.lemmas.List.{take-append-drop, length-append}
use Rattle.std.proofs.lemmas.List.Folds.{list_any-append}
use Rattle.std.proofs.lemmas.Map.Made.{length-le_from_is_member}
use Rattle.step_core.specs.Buckets.{key_bucket}
use Rattle.step_core.specs.Content.{live_word, row_keys}
use Rattle.step_core.specs.Fits.{IsWellFormed}
use Rattle.step_core.specs.Format.{row_address}
use Rattle.step_core.specs.Plain.{finest_exponent, live_class_keys, keys_before}
use Rattle.step_core.specs.declared.format.TheConstants.{FIRST_KEY}
use Rattle.step_core.proofs.tables.Live.{keys_before-more, collected_distinct}

-- what a part of a list has, the list has
part_here : (p : ℕ → Bool) (xs : List ℕ) (first count : ℕ) → list_any p (take count (drop first xs)) ≡ true → list_any p xs ≡ true
part_here p xs first count found =
    let rest = drop first xs in
    let behind : list_any p rest ≡ true = ap (list_any p) (sym (take-append-drop count rest))
    ∙ list_any-append p (take count rest) (drop count rest)
    ∙ or_left (list_any p (take count rest)) (list_any p (drop count rest)) found in
    ap (list_any p) (sym (take-append-drop first xs))
    ∙ list_any-append p (take first xs) rest
    ∙ or_right (list_any p (take first xs)) (list_any p rest) behind

-- and so what some of them that pass a test have
filtered_here : (p q : ℕ → Bool) (xs : List ℕ) → list_any p (filter q xs) ≡ true → list_any p xs ≡ true
filtered_here p q [] found = found
filtered_here p q (x ∷ xs) found = elim (cases_Bool (q x)) [
  | inl kept ↦
      let split : (p x || list_any p (filter q xs)) ≡ true =
      ap (λ (b : Bool). list_any p (cond b (x ∷ filter q xs) (filter q xs))) (sym kept) ∙ found in
      elim (or_cases (p x) (list_any p (filter q xs)) split) [
        | inl here ↦ or_left (p x) (list_any p xs) here
        | inr rest ↦ or_right (p x) (list_any p xs) (filtered_here p q xs rest)
      ]
  | inr gone ↦
      or_right (p x) (list_any p xs)
      (filtered_here p q xs (ap (λ (b : Bool). list_any p (cond b (x ∷ filter q xs) (filter q xs))) (sym gone) ∙ found))
]

-- one class more
pub length-keys_before-more : (words : List ℕ) (class : ℕ)
    → length (keys_before words (class + 1)) ≡ length (keys_before words class) + length (live_class_keys words class)
length-keys_before-more words class =
    ap length (keys_before-more words class)
    ∙ length-append (keys_before words class) (live_class_keys words class)

-- they all stand in the words
collected_here : (words : List ℕ) (key count : ℕ) → list_any (nat_eq key) (keys_before words count) ≡ true
    → list_any (nat_eq key) words ≡ true
unfolding keys_before
collected_here words key zero found = cc
collected_here words key (suc count) found =
    let row : ℕ = row_address (live_word words count) in
    let last = live_class_keys words count in
    elim (or_cases (list_any (nat_eq key) (keys_before words count)) (list_any (nat_eq key) last)
    (sym (list_any-append (nat_eq key) (keys_before words count) last) ∙ found)) [
      | inl before ↦ collected_here words key count before
      | inr in_last ↦
          part_here (nat_eq key) words (row + FIRST_KEY) (slice_index words row)
          (filtered_here (nat_eq key) (λ k. nat_eq (key_bucket (finest_exponent words) k) count) (row_keys words row) in_last)
    ]

-- so they are no more than the words
pub collected_few : (words : List ℕ) → IsWellFormed words → (count : ℕ) → length (keys_before words count) ≤ length words
collected_few words well count =
    length-le_from_is_member nat_eq_equiv (keys_before words count) words (collected_distinct words well count)
    (λ key found. collected_here words key count found)
