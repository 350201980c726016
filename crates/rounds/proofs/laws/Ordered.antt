-- Passes in the order of their numbers are those of the numbers from 0 on.
use Rattle.std.proofs.Common.{◌≡◌, ℕ, ◌+◌, nat_eq, List, sym, ◌∙◌, arith}
use Rattle.std.specs.List.{IsDistinct, range_with_len}
use Rattle.std.specs.List.Sorted.{IsNonDecreasing, IsPermutation, IsStrictlyIncreasing}
use Rattle.std.specs.Cmp.{nat_cmp_total}
use Rattle.std.specs.FinSet as set
use Rattle.std.proofs.lemmas.Bool.Decides.{nat_tests}
use Rattle.std.proofs.lemmas.List.FromFn.{get_or-range_with_len, length-range_with_len}
use Rattle.std.proofs.lemmas.List.Sorted.{IsPermutation-sym, list_any-IsPermutation}
use Rattle.std.proofs.lemmas.Map.Keys.{IsDistinct-IsPermutation, IsDistinct-from_apart, IsStrictlyIncreasing-from_distinct}
use Rattle.set_model.specs.Keys.{keys_set}
use Rattle.set_model.proofs.LawRising.{rising_list_is_one}

-- the numbers below a count differ
range_distinct : (count : ℕ) → IsDistinct nat_eq (range_with_len 0 count)
range_distinct count = IsDistinct-from_apart nat_eq (range_with_len 0 count) (λ i j d less within.
    let long = length-range_with_len 0 count in
    let at_i = get_or-range_with_len 0 count i d (omega (arith, long, less, within)) in
    let at_j = get_or-range_with_len 0 count j d (omega (arith, long, within)) in
    grind (arith, nat_tests, at_i, at_j, less))

-- and rise
range_rises : (count : ℕ) → IsStrictlyIncreasing (range_with_len 0 count)
range_rises count k less =
    let long = length-range_with_len 0 count in
    omega (
      arith,
      get_or-range_with_len 0 count k 0 (omega (arith, long, less)),
      get_or-range_with_len 0 count (k + 1) 0 (omega (arith, long, less)),
    )

-- numbers that don't fall and are those below a count are these, by number
pub numbers_are_range : (numbers : List ℕ) (count : ℕ) → IsNonDecreasing numbers → IsPermutation numbers (range_with_len 0 count)
    → numbers ≡ range_with_len 0 count
numbers_are_range numbers count order same =
    let range = range_with_len 0 count in
    let distinct = IsDistinct-IsPermutation nat_eq (λ x y. grind (arith, nat_tests)) range numbers (IsPermutation-sym numbers range same)
    (range_distinct count) in
    rising_list_is_one numbers range (IsStrictlyIncreasing-from_distinct numbers order distinct) (range_rises count)
    (set.same_set nat_cmp_total set.nat_cmp-IsAntisymmetric (keys_set numbers) (keys_set range) (λ key.
    set.contains-from_list_nat numbers key
    ∙ list_any-IsPermutation (λ (y : ℕ). nat_eq y key) numbers range same
    ∙ sym (set.contains-from_list_nat range key)))
