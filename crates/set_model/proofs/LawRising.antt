-- Two rising lists with one set are one list.
use Rattle.std.proofs.Common.{◌≡◌, ℕ, ◌<◌, true, false, nat_eq, ◌||◌, List, [], ◌∷◌, refl, sym, ap, ap₂, ◌∙◌, arith}
use Rattle.std.specs.List.{AllByRecursion}
use Rattle.std.specs.List.Sorted.{IsStrictlyIncreasing, IsStrictlySortedBy}
use Rattle.std.specs.Ordering.{nat_cmp}
use Rattle.std.specs.declared.cmp.Ordering.TheVariants.{Less}
use Rattle.std.specs.FinSet as set
use Rattle.std.proofs.lemmas.Bool.Decides.{nat_tests}
use Rattle.std.proofs.lemmas.Map.Keys.{sorted_from_strictly_increasing, sorted_tail}
use Rattle.set_model.specs.Keys.{keys_set, is_in}

-- each key of the list is above what all of them are above
above : (low key : ℕ) (keys : List ℕ) → AllByRecursion (λ y. nat_cmp low y ≡ Less) keys → is_in keys key ≡ true → low < key
above low key [] all here = cc
above low key (first ∷ rest) all here =
    let first_above = all.0 in
    let further = above low key rest all.1 in
    grind (arith, nat_tests, first_above, further)

module _ (x y : ℕ) (xs ys : List ℕ) (x_rises : IsStrictlySortedBy nat_cmp (x ∷ xs)) (y_rises : IsStrictlySortedBy nat_cmp (y ∷ ys))
    (same : (key : ℕ) → is_in (x ∷ xs) key ≡ is_in (y ∷ ys) key) where
  first_same : x ≡ y
  unfolding IsStrictlySortedBy
  first_same =
      let at_x : (nat_eq x x || is_in xs x) ≡ (nat_eq y x || is_in ys x) = same x in
      let at_y : (nat_eq x y || is_in xs y) ≡ (nat_eq y y || is_in ys y) = same y in
      grind (arith, nat_tests, at_x, at_y, above x y xs x_rises.0, above y x ys y_rises.0)

  rest_same : (key : ℕ) → is_in xs key ≡ is_in ys key
  unfolding IsStrictlySortedBy
  rest_same key =
      let equal = first_same in
      let at_key : (nat_eq x key || is_in xs key) ≡ (nat_eq y key || is_in ys key) = same key in
      grind (arith, nat_tests, equal, at_key, above x key xs x_rises.0, above y key ys y_rises.0)

same_list : (xs ys : List ℕ) → IsStrictlySortedBy nat_cmp xs → IsStrictlySortedBy nat_cmp ys
    → ((key : ℕ) → is_in xs key ≡ is_in ys key) → xs ≡ ys
same_list [] [] x_rises y_rises same = refl
same_list [] (y ∷ ys) x_rises y_rises same =
    let at_y : false ≡ (nat_eq y y || is_in ys y) = same y in absurd (grind (arith, nat_tests, at_y))
same_list (x ∷ xs) [] x_rises y_rises same =
    let at_x : (nat_eq x x || is_in xs x) ≡ false = same x in absurd (grind (arith, nat_tests, at_x))
same_list (x ∷ xs) (y ∷ ys) x_rises y_rises same =
    ap₂ ◌∷◌ (first_same x y xs ys x_rises y_rises same)
    (same_list xs ys (sorted_tail nat_cmp x xs x_rises) (sorted_tail nat_cmp y ys y_rises) (rest_same x y xs ys x_rises y_rises same))

-- rising lists with one set
pub rising_list_is_one : (xs ys : List ℕ) → IsStrictlyIncreasing xs → IsStrictlyIncreasing ys → keys_set xs ≡ keys_set ys → xs ≡ ys
rising_list_is_one xs ys x_rises y_rises same =
    same_list xs ys (sorted_from_strictly_increasing xs x_rises) (sorted_from_strictly_increasing ys y_rises) (λ key.
    sym (set.contains-from_list_nat xs key) ∙ ap (λ keys. set.contains keys key) same ∙ set.contains-from_list_nat ys key)
