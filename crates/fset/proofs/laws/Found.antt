-- Where all keys of a rising list so far are below the key sought, a look at the next one tells whether it is there.
use Rattle.std.proofs.Common.{◌≡◌, ℕ, ◌+◌, ◌<◌, ◌≤◌, true, false, nat_eq, nat_lt, List, length, drop, slice_index, sym, ap, ◌∙◌, subst, inl, inr, arith}
use Rattle.std.specs.List.Sorted.{IsStrictlyIncreasing}
use Rattle.std.proofs.lemmas.Bool.{cases_Bool}
use Rattle.std.proofs.lemmas.Bool.Decides.{nat_tests}
use Rattle.std.proofs.lemmas.List.Folds.{list_any_at}
use Rattle.std.proofs.lemmas.List.Sums.{prefix_len-drop_no}
use Rattle.set_model.specs.Keys.{is_in}
use Rattle.step_core.specs.Rising.{place_in}
use Rattle.step_core.proofs.lists.Places.{place_in-here}

module _ (keys : List ℕ) (key i : ℕ) (rising : IsStrictlyIncreasing keys)
    (below : place_in keys key ≡ i + place_in (drop i keys) key) where
  -- the key is there where it is the one at its place
  at_place : place_in keys key ≡ i → i < length keys → nat_eq (slice_index keys i) key ≡ is_in keys key
  at_place is_place within = elim (cases_Bool (is_in keys key)) [
    | inl here ↦
        let found : slice_index keys i ≡ key =
        subst (λ (k : ℕ). slice_index keys k ≡ key) is_place (place_in-here keys key rising here).1 in
        let test : nat_eq (slice_index keys i) key ≡ true = grind (arith, nat_tests) in
        test ∙ sym here
    | inr absent ↦ elim (cases_Bool (nat_eq (slice_index keys i) key)) [
      | inl found ↦ absurd (let here = list_any_at (λ y. nat_eq y key) keys i 0 within found in cc (here, absent))
      | inr other ↦ other ∙ sym absent
    ]
  ]

  -- The next key isn't below it: it is there where that is the one.
  pub taken_here : (found : ℕ) → found ≡ slice_index keys i → i < length keys → key ≤ found → nat_eq found key ≡ is_in keys key
  taken_here found is_found within above =
      let test : nat_lt (slice_index keys i) key ≡ false = grind (arith, nat_tests) in
      let none = prefix_len-drop_no (λ y. nat_lt y key) keys i 0 within test in
      ap (λ (k : ℕ). nat_eq k key) is_found ∙ at_place (omega (arith, below, none)) within

  -- No key is left: it isn't there.
  pub absent_past_end : length keys ≤ i → is_in keys key ≡ false
  absent_past_end past = elim (cases_Bool (is_in keys key)) [
    | inl here ↦ absurd (let inside = (place_in-here keys key rising here).0 in omega (arith, below))
    | inr absent ↦ absent
  ]
