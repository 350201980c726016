-- A number stands among those that a round's workers began just where a worker began it with some serial.
use Rattle.std.proofs.Common.{◌≡◌, ℕ, zero, suc, ◌<◌, true, nat_eq, List, [], ◌∷◌, ◌++◌, length, slice_index, ◌⊎◌, inl, inr, sym, ap, ◌∙◌, subst, arith}
use Rattle.std.specs.List.{range_with_len}
use Rattle.std.specs.List.Sorted.{IsPermutation}
use Rattle.std.proofs.lemmas.Bool.{eq-eqb, eqb-true, or_cases, or_left, or_right}
use Rattle.std.proofs.lemmas.Grind.{get_or_default_zero}
use Rattle.std.proofs.lemmas.List.{append-nil}
use Rattle.std.proofs.lemmas.List.Folds.{Any-from_list_any, list_any-append, list_any_at}
use Rattle.std.proofs.lemmas.List.FromFn.{get_or-range_with_len, length-range_with_len}
use Rattle.std.proofs.lemmas.List.Sorted.{list_any-IsPermutation}
use Rattle.set_model.specs.Keys.{is_in}
use Rattle.chain.specs.Chain.{HasBegunCall, RoundEnd, begun_in, numbers_by, numbers_in}

-- some worker began the number with some serial
pub record WasBegun (made : List (List ℕ)) (number : ℕ) : Type 0 where
  pub who : ℕ
  pub serial : ℕ
  pub begun : HasBegunCall made who serial
  pub same : slice_index (numbers_by made who) serial ≡ number

-- a number of two lists together is one of either
pub is_in-append_cases : (xs ys : List ℕ) (key : ℕ) → is_in (xs ++ ys) key ≡ true
    → (is_in xs key ≡ true) ⊎ (is_in ys key ≡ true)
is_in-append_cases xs ys key here =
    or_cases (is_in xs key) (is_in ys key) (sym (list_any-append (λ y. nat_eq y key) xs ys) ∙ here)

-- what the first has both have
pub is_in-append_left : (xs ys : List ℕ) (key : ℕ) → is_in xs key ≡ true → is_in (xs ++ ys) key ≡ true
is_in-append_left xs ys key here =
    list_any-append (λ y. nat_eq y key) xs ys ∙ or_left (is_in xs key) (is_in ys key) here

-- and what the second has
pub is_in-append_right : (xs ys : List ℕ) (key : ℕ) → is_in ys key ≡ true → is_in (xs ++ ys) key ≡ true
is_in-append_right xs ys key here =
    list_any-append (λ y. nat_eq y key) xs ys ∙ or_right (is_in xs key) (is_in ys key) here

-- a list has the number at each of its places
pub is_in-place : (xs : List ℕ) (place : ℕ) → place < length xs → is_in xs (slice_index xs place) ≡ true
is_in-place xs place within =
    list_any_at (λ y. nat_eq y (slice_index xs place)) xs place 0 within (eq-eqb _ _ (λ i. slice_index xs place))

-- a number of a list stands at one of its places
pub place_of-is_in : (xs : List ℕ) (key : ℕ) → is_in xs key ≡ true
    → (place : ℕ) × (place < length xs) × (slice_index xs place ≡ key)
place_of-is_in xs key here =
    let any = Any-from_list_any (λ y. nat_eq y key) xs here in
    let at = get_or_default_zero xs any.0 any.1 any.2 in
    (any.0, any.2, sym at ∙ any.3 ∙ eqb-true any.1 key any.4)

-- a number that was begun has its worker and serial
pub WasBegun-is_in : (made : List (List ℕ)) (number : ℕ) → is_in (numbers_in made) number ≡ true → WasBegun made number
WasBegun-is_in [] number here = absurd (cc)
WasBegun-is_in (numbers ∷ made) number here =
    elim (is_in-append_cases numbers (numbers_in made) number here) [
      | inl first ↦
          let place = place_of-is_in numbers number first in
          record {
            who = 0;
            serial = place.0;
            begun = record { worker = omega arith; begun = place.1 };
            same = place.2;
          }
      | inr later ↦
          let rest = WasBegun-is_in made number later in
          record {
            who = suc rest.who;
            serial = rest.serial;
            begun = record { worker = omega (arith, rest.begun.worker); begun = rest.begun.begun };
            same = rest.same;
          }
    ]

-- and the number of a call that was begun is one of them
pub is_in-begun : (made : List (List ℕ)) (who serial : ℕ) → HasBegunCall made who serial
    → is_in (numbers_in made) (slice_index (numbers_by made who) serial) ≡ true
is_in-begun [] who serial begun = absurd (omega (arith, begun.worker))
is_in-begun (numbers ∷ made) zero serial begun =
    is_in-append_left numbers (numbers_in made) (slice_index numbers serial) (is_in-place numbers serial begun.begun)
is_in-begun (numbers ∷ made) (suc who) serial begun =
    is_in-append_right numbers (numbers_in made) (slice_index (numbers_by made who) serial)
    (is_in-begun made who serial (record { worker = omega (arith, begun.worker); begun = begun.begun }))

is_in-range : (count number : ℕ) → number < count → is_in (range_with_len 0 count) number ≡ true
is_in-range count number below =
    let at : slice_index (range_with_len 0 count) number ≡ number =
    omega (arith, get_or-range_with_len 0 count number 0 below) in
    subst (λ n. is_in (range_with_len 0 count) n ≡ true) at
    (is_in-place (range_with_len 0 count) number (omega (arith, below, length-range_with_len 0 count)))

below-range : (count number : ℕ) → is_in (range_with_len 0 count) number ≡ true → number < count
below-range count number here =
    let place = place_of-is_in (range_with_len 0 count) number here in
    let below : place.0 < count = omega (arith, place.1, length-range_with_len 0 count) in
    omega (arith, below, place.2, get_or-range_with_len 0 count place.0 0 below)

module _ (count : ℕ) (rounds : List RoundEnd) (left : List ℕ) (once : IsPermutation (begun_in rounds ++ left) (range_with_len 0 count)) where
  numbers-same : (number : ℕ) → is_in (begun_in rounds ++ left) number ≡ is_in (range_with_len 0 count) number
  numbers-same number = list_any-IsPermutation (λ y. nat_eq y number) (begun_in rounds ++ left) (range_with_len 0 count) once

  -- only numbers of records were begun
  pub below-begun_in : (number : ℕ) → is_in (begun_in rounds) number ≡ true → number < count
  below-begun_in number here =
      below-range count number (sym (numbers-same number) ∙ is_in-append_left (begun_in rounds) left number here)

-- and where no record is still to come, those of all
pub is_in-begun_in : (count : ℕ) (rounds : List RoundEnd) → IsPermutation (begun_in rounds ++ []) (range_with_len 0 count)
    → (number : ℕ) → number < count → is_in (begun_in rounds) number ≡ true
is_in-begun_in count rounds once number below =
    ap (λ numbers. is_in numbers number) (sym (append-nil (begun_in rounds)))
    ∙ numbers-same count rounds [] once number
    ∙ is_in-range count number below
