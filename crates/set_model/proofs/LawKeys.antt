-- The finite set of a list's keys under a search, an insert and a remove at a place.
use Rattle.std.proofs.Common.{◌≡◌, ℕ, ◌+◌, ◌<◌, Bool, true, false, not, ◌||◌, ◌&&◌, nat_eq, List, ◌∷◌, length, get_or, refl, sym, ap, ◌∙◌, arith, is_ok, Result, Ok, Err, IfErr}
use Rattle.std.specs.List.{remove}
use Rattle.std.specs.List.Sorted.{IsPermutation, IsStrictlyIncreasing, IsBinarySearchResult}
use Rattle.std.specs.Ordering.{nat_cmp, eq_by_cmp}
use Rattle.std.specs.Cmp.{nat_cmp_total, Equal-is}
use Rattle.std.specs.FinSet as set
use Rattle.std.proofs.lemmas.Bool.Decides.{nat_tests}
use Rattle.std.proofs.lemmas.Grind.{get_or_default_zero}
use Rattle.std.proofs.lemmas.List.Edits.{length-remove, get_or-remove_below, get_or-remove_above}
use Rattle.std.proofs.lemmas.List.Folds.{list_any_none, list_any_at}
use Rattle.std.proofs.lemmas.List.Sorted.{searched, list_any-IsPermutation, IsPermutation-remove}
use Rattle.std.proofs.lemmas.Map.Keys.{sorted_from_strictly_increasing, non_decreasing_from_sorted, below_from_sorted}
use Rattle.set_model.specs.Keys.{keys_set, IsPlaceFor}

-- two sets with the same members are one
same : (one another : set.FinSet nat_cmp) → ((key : ℕ) → set.contains one key ≡ set.contains another key) → one ≡ another
same = set.same_set nat_cmp_total set.nat_cmp-IsAntisymmetric

tied : (keys : set.FinSet nat_cmp) (other key : ℕ) → eq_by_cmp nat_cmp other key ≡ true → set.contains keys key ≡ set.contains keys other
tied keys other key equal = set.contains_tied nat_cmp_total keys other key ((Equal-is (nat_cmp other key)).0 equal)

or_same : (equal here : Bool) → (equal ≡ true → here ≡ true) → (equal || here) ≡ here
or_same true here implies = sym (implies refl)
or_same false here implies = refl

not_and_same : (equal here : Bool) → (equal ≡ true → here ≡ false) → (not equal && here) ≡ here
not_and_same true here implies = sym (implies refl)
not_and_same false here implies = refl

not_and_or_same : (equal here : Bool) → (equal ≡ true → here ≡ false) → (not equal && (equal || here)) ≡ here
not_and_or_same true here implies = sym (implies refl)
not_and_or_same false here implies = refl

-- an insert of a present key changes nothing
pub insert-present : (keys : set.FinSet nat_cmp) (key : ℕ) → set.contains keys key ≡ true → set.insert keys key ≡ keys
insert-present keys key here = same _ _ (λ other.
    set.contains-insert nat_cmp_total keys key other ∙ or_same _ _ (λ equal. sym (tied keys other key equal) ∙ here))

-- a remove of an absent key changes nothing
pub remove-absent : (keys : set.FinSet nat_cmp) (key : ℕ) → set.contains keys key ≡ false → set.remove keys key ≡ keys
remove-absent keys key gone = same _ _ (λ other.
    set.contains-remove nat_cmp_total keys key other ∙ not_and_same _ _ (λ equal. sym (tied keys other key equal) ∙ gone))

-- a key that was absent, put in and taken away again
remove-insert : (keys : set.FinSet nat_cmp) (key : ℕ) → set.contains keys key ≡ false → set.remove (set.insert keys key) key ≡ keys
remove-insert keys key gone = same _ _ (λ other.
    set.contains-remove nat_cmp_total (set.insert keys key) key other
    ∙ ap (λ b. not (eq_by_cmp nat_cmp other key) && b) (set.contains-insert nat_cmp_total keys key other)
    ∙ not_and_or_same _ _ (λ equal. sym (tied keys other key equal) ∙ gone))

-- the order of a list doesn't matter
pub keys_set-IsPermutation : (xs ys : List ℕ) → IsPermutation xs ys → keys_set xs ≡ keys_set ys
keys_set-IsPermutation xs ys moved = same _ _ (λ key.
    set.contains-from_list_nat xs key
    ∙ list_any-IsPermutation (λ y. nat_eq y key) xs ys moved
    ∙ sym (set.contains-from_list_nat ys key))

-- what a binary search says of a rising list's set
pub present : (keys : List ℕ) (key : ℕ) (found_at : Result ℕ ℕ) → IsStrictlyIncreasing keys
    → IsBinarySearchResult (λ y. nat_cmp y key) keys found_at
    → (is_ok found_at ≡ set.contains (keys_set keys) key) × IfErr found_at (IsPlaceFor key keys)
present keys key (Ok place) rising found =
    let up = sorted_from_strictly_increasing keys rising in
    let at = searched keys key (Ok place) found (λ i j. non_decreasing_from_sorted keys up i j 0) in
    let equal : nat_eq (get_or keys place 0) key ≡ true = grind (arith, nat_tests) in
    (sym (set.contains-from_list_nat keys key ∙ list_any_at (λ y. nat_eq y key) keys place 0 at.0 equal), tt)
present keys key (Err place) rising found =
    let up = sorted_from_strictly_increasing keys rising in
    let at = searched keys key (Err place) found (λ i j. non_decreasing_from_sorted keys up i j 0) in (
      sym (set.contains-from_list_nat keys key ∙ list_any_none (λ y. nat_eq y key) keys (λ other default within.
          grind (arith, nat_tests, get_or_default_zero keys other default within, at.1 other, at.2 other))),
      record { within = at.0; before = at.1; behind = at.2 },
    )

-- without the key at one place the list's set lacks it
gone_without : (keys : List ℕ) (place : ℕ) → IsStrictlyIncreasing keys → place < length keys
    → set.contains (keys_set (remove keys place)) (get_or keys place 0) ≡ false
gone_without keys place rising within =
    let up = sorted_from_strictly_increasing keys rising in
    set.contains-from_list_nat (remove keys place) _
    ∙ list_any_none (λ y. nat_eq y (get_or keys place 0)) (remove keys place) (λ other default here.
    let len = length-remove keys place within in
    let at = get_or_default_zero keys place default within in
    let lower = below_from_sorted keys other place default up in
    let upper = below_from_sorted keys place (other + 1) default up in
    grind (arith, nat_tests, get_or-remove_below keys place default other, get_or-remove_above keys place default other, lower, upper))

-- a rising list without the key at one place has the set without this key
pub keys_set-remove : (keys : List ℕ) (place : ℕ) → IsStrictlyIncreasing keys → place < length keys
    → keys_set (remove keys place) ≡ set.remove (keys_set keys) (get_or keys place 0)
keys_set-remove keys place rising within =
    let key = get_or keys place 0 in
    let moved = IsPermutation-remove keys place key within (sym (get_or_default_zero keys place key within)) in
    let whole = keys_set-IsPermutation keys (key ∷ remove keys place) moved in
    sym (ap (λ s. set.remove s key) whole ∙ remove-insert _ key (gone_without keys place rising within))
