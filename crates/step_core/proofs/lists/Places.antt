-- The place of a key in a rising list: a look through the list from the front finds it, and the lists with and
-- without the key are parts put together there.
use Rattle.std.proofs.Common.{◌≡◌, ℕ, zero, suc, ◌+◌, ◌<◌, ◌≤◌, Bool, true, false, ◌||◌, nat_eq, nat_lt, List, [], ◌∷◌, length, drop, slice_index, get_or, sym, ap, ◌∙◌, subst, arith, inl, inr}
use Rattle.std.specs.List.{insert, remove}
use Rattle.std.specs.List.Sorted.{IsStrictlyIncreasing}
use Rattle.std.proofs.lemmas.Bool.{cases_order, or_parts}
use Rattle.std.proofs.lemmas.Bool.Decides.{nat_tests}
use Rattle.std.proofs.lemmas.List.Edits.{length-insert, length-remove}
use Rattle.std.proofs.lemmas.List.Folds.{list_any_at}
use Rattle.std.proofs.lemmas.List.Sums.{prefix_len-le-length, prefix_len_passes, prefix_len_stops}
use Rattle.std.proofs.lemmas.Map.Keys.{sorted_from_strictly_increasing, non_decreasing_from_sorted}
use Rattle.set_model.specs.Keys.{is_in, IsPlaceFor}
use Rattle.step_core.specs.Rising.{place_in, with_key, without_key}
use Rattle.step_core.proofs.lists.Above.{Rises, rises, rises_tail, rises_lacks}
use Rattle.step_core.proofs.lists.Rising.{with_key-none, without_key-none, with_key-less, with_key-same, with_key-more, without_key-less, without_key-same, without_key-more, place_in-less, place_in-not_less}

-- the first key is another
pub not_first : (x key : ℕ) (keys : List ℕ) → ¬ (x ≡ key) → is_in (x ∷ keys) key ≡ true → is_in keys key ≡ true
not_first x key keys differs here =
    let other : nat_eq x key ≡ false = grind (arith, nat_tests) in
    sym (ap (λ (b : Bool). b || is_in keys key) other) ∙ here

-- the first key is the one
pub is_first : (x key : ℕ) (keys : List ℕ) → x ≡ key → is_in (x ∷ keys) key ≡ true
is_first x key keys same =
    let test : nat_eq x key ≡ true = grind (arith, nat_tests) in
    ap (λ (b : Bool). b || is_in keys key) test

here_at : (keys : List ℕ) (key : ℕ) → Rises keys → is_in keys key ≡ true
    → (place_in keys key < length keys) × (slice_index keys (place_in keys key) ≡ key)
here_at [] key rising here = cc
here_at (x ∷ keys) key rising here =
    let At : ℕ → Type 0 = λ place. (place < length (x ∷ keys)) × (slice_index (x ∷ keys) place ≡ key) in
    elim (cases_order x key) [
      | inl same ↦ subst At (sym (place_in-not_less x key keys (omega arith))) (omega arith, same)
      | inr (inl less) ↦
          let rest = here_at keys key (rises_tail x keys rising) (not_first x key keys (λ e. absurd (omega arith)) here) in
          subst At (sym (place_in-less x key keys less)) (omega (arith, rest.0), rest.1)
      | inr (inr more) ↦ let gone = rises_lacks x key keys rising more in absurd (cc (gone, here))
    ]

-- a key of the list stands at its place
pub place_in-here : (keys : List ℕ) (key : ℕ) → IsStrictlyIncreasing keys → is_in keys key ≡ true
    → (place_in keys key < length keys) × (slice_index keys (place_in keys key) ≡ key)
place_in-here keys key rising here = here_at keys key (rises keys rising) here

-- another key has its place where it would stand
pub place_in-free : (keys : List ℕ) (key : ℕ) → IsStrictlyIncreasing keys → is_in keys key ≡ false → IsPlaceFor key keys (place_in keys key)
place_in-free keys key rising absent =
    let below : ℕ → Bool = λ y. nat_lt y key in
    record {
      within = prefix_len-le-length below keys;
      before = λ k lt. let passes : nat_lt (get_or keys k 0) key ≡ true = prefix_len_passes below keys k 0 lt in grind (arith, nat_tests);
      behind = λ k from lt.
          let stops : nat_lt (get_or keys (place_in keys key) 0) key ≡ false = prefix_len_stops below keys 0 (omega arith) in
          let rises_on = non_decreasing_from_sorted keys (sorted_from_strictly_increasing keys rising) (place_in keys key) k 0 from lt in
          elim (cases_order (get_or keys k 0) key) [
            | inl same ↦
                let test : nat_eq (get_or keys k 0) key ≡ true = grind (arith, nat_tests) in
                let here = list_any_at (λ y. nat_eq y key) keys k 0 lt test in
                absurd (cc (here, absent))
            | inr (inl less) ↦ absurd (grind (arith, nat_tests))
            | inr (inr more) ↦ more
          ];
    }

-- a look from the front: while all keys so far are below the key, its place is further on
pub place_in-drop : (keys : List ℕ) (key i : ℕ) → i ≤ length keys → ((k : ℕ) → k < i → slice_index keys k < key)
    → place_in keys key ≡ i + place_in (drop i keys) key
place_in-drop keys key zero le before = omega arith
place_in-drop [] key (suc i) le before = absurd (omega arith)
place_in-drop (x ∷ keys) key (suc i) le before =
    place_in-less x key keys (before 0 (omega arith))
    ∙ omega (arith, place_in-drop keys key i (omega arith) (λ k lt. before (suc k) (omega arith)))

-- where the list lacks the key, the list with it is its two parts with the key between
pub with_key-parts : (key : ℕ) (keys : List ℕ) → is_in keys key ≡ false → with_key key keys ≡ insert keys (place_in keys key) key
with_key-parts key [] absent = with_key-none key
with_key-parts key (x ∷ keys) absent =
    elim (cases_order x key) [
      | inl same ↦ let here = is_first x key keys same in absurd (cc (here, absent))
      | inr (inl less) ↦
          with_key-less x key keys less
          ∙ ap (λ (list : List ℕ). x ∷ list) (with_key-parts key keys (or_parts (nat_eq x key) (is_in keys key) absent).1)
          ∙ sym (ap (λ (place : ℕ). insert (x ∷ keys) place key) (place_in-less x key keys less))
      | inr (inr more) ↦ with_key-more x key keys more
          ∙ sym (ap (λ (place : ℕ). insert (x ∷ keys) place key) (place_in-not_less x key keys (omega arith)))
    ]

without_parts : (key : ℕ) (keys : List ℕ) → Rises keys → is_in keys key ≡ true → without_key key keys ≡ remove keys (place_in keys key)
without_parts key [] rising here = cc
without_parts key (x ∷ keys) rising here =
    elim (cases_order x key) [
      | inl same ↦ without_key-same x key keys same ∙ sym (ap (remove (x ∷ keys)) (place_in-not_less x key keys (omega arith)))
      | inr (inl less) ↦
          without_key-less x key keys less
          ∙ ap (λ (list : List ℕ). x ∷ list) (without_parts key keys (rises_tail x keys rising) (not_first x key keys (λ e. absurd
          (omega arith)) here))
          ∙ sym (ap (remove (x ∷ keys)) (place_in-less x key keys less))
      | inr (inr more) ↦ let gone = rises_lacks x key keys rising more in absurd (cc (gone, here))
    ]

-- where it has the key, the list without it is its parts before and behind
pub without_key-parts : (key : ℕ) (keys : List ℕ) → IsStrictlyIncreasing keys → is_in keys key ≡ true
    → without_key key keys ≡ remove keys (place_in keys key)
without_key-parts key keys rising here = without_parts key keys (rises keys rising) here

-- with one key more
pub length-with_key : (key : ℕ) (keys : List ℕ) → is_in keys key ≡ false → length (with_key key keys) ≡ length keys + 1
length-with_key key keys absent =
    ap length (with_key-parts key keys absent)
    ∙ length-insert keys (place_in keys key) key (prefix_len-le-length (λ y. nat_lt y key) keys)

-- with one less
pub length-without_key : (key : ℕ) (keys : List ℕ) → IsStrictlyIncreasing keys → is_in keys key ≡ true
    → length (without_key key keys) + 1 ≡ length keys
length-without_key key keys rising here =
    ap (λ (list : List ℕ). length list + 1) (without_key-parts key keys rising here)
    ∙ length-remove keys (place_in keys key) (place_in-here keys key rising here).0

with_present : (key : ℕ) (keys : List ℕ) → Rises keys → is_in keys key ≡ true → with_key key keys ≡ keys
with_present key [] rising here = cc
with_present key (x ∷ keys) rising here =
    elim (cases_order x key) [
      | inl same ↦ with_key-same x key keys same
      | inr (inl less) ↦
          with_key-less x key keys less
          ∙ ap (λ (list : List ℕ). x ∷ list) (with_present key keys (rises_tail x keys rising) (not_first x key keys (λ e. absurd
          (omega arith)) here))
      | inr (inr more) ↦ let gone = rises_lacks x key keys rising more in absurd (cc (gone, here))
    ]

-- a key that the list has changes nothing
pub with_key-present : (key : ℕ) (keys : List ℕ) → IsStrictlyIncreasing keys → is_in keys key ≡ true → with_key key keys ≡ keys
with_key-present key keys rising here = with_present key keys (rises keys rising) here

-- nor does one taken away that it lacks
pub without_key-absent : (key : ℕ) (keys : List ℕ) → is_in keys key ≡ false → without_key key keys ≡ keys
without_key-absent key [] absent = without_key-none key
without_key-absent key (x ∷ keys) absent =
    elim (cases_order x key) [
      | inl same ↦ let here = is_first x key keys same in absurd (cc (here, absent))
      | inr (inl less) ↦
          without_key-less x key keys less
          ∙ ap (λ (list : List ℕ). x ∷ list) (without_key-absent key keys (or_parts (nat_eq x key) (is_in keys key) absent).1)
      | inr (inr more) ↦ without_key-more x key keys more
    ]
