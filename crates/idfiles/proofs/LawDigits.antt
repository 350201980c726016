-- The number that digits write, with one digit more.
use Rattle.std.proofs.Common.{◌≡◌, ℕ, ◌+◌, ◌-◌, ◌*◌, ◌^◌, ◌<◌, ◌≤◌, true, List, [], ◌∷◌, ◌++◌, length, take, length-take, get_or, refl, sym, ap, ◌∙◌, arith, rules}
use Rattle.std.proofs.Math.Nat.{pow-le-pow_right}
use Rattle.std.proofs.lemmas.Bool.Decides.{nat_tests}
use Rattle.std.proofs.lemmas.Int.Digits.{digits_value-lt, digits_value_more}
use Rattle.std.proofs.lemmas.List.Elements.{All-get_or, All-take}
use Rattle.std.proofs.lemmas.List.Folds.{list_all_more}
use Rattle.std.proofs.lemmas.List.Sums.{AllPass-from_list_all, list_all-from_AllPass}
use Rattle.std.proofs.lemmas.Str.Parse.{IsNumeralModel, numerals_by_value}
use Rattle.std.specs.List.{list_all}
use Rattle.std.specs.Char.{is_ascii_digit, digit_value}
use Rattle.std.specs.Str.Parse.{digits_value, digits_value_after}
use Rattle.idfiles.specs.Limits.{safe_digits}

-- the texts of digits, and what they write
pub numerals : IsNumeralModel (λ ds. list_all is_ascii_digit ds ≡ true) (digits_value 10)
numerals = numerals_by_value _ (search rules)

-- a digit stands for its code less that of 0
pub digit_value-ascii : (b : ℕ) → is_ascii_digit b ≡ true → digit_value b ≡ b - 48
digit_value-ascii b ten = grind (arith, nat_tests)

-- more digits don't make a number smaller
pub value_after-ge : (n : ℕ) (ds : List ℕ) → n ≤ digits_value_after 10 n ds
value_after-ge n [] = omega arith
value_after-ge n (d ∷ ds) = omega (arith, value_after-ge (n * 10 + digit_value d) ds)

-- digits behind digits
pub value_after-append : (n : ℕ) (xs ys : List ℕ)
    → digits_value_after 10 n (xs ++ ys) ≡ digits_value_after 10 (digits_value_after 10 n xs) ys
value_after-append n [] ys = refl
value_after-append n (x ∷ xs) ys = value_after-append (n * 10 + digit_value x) xs ys

-- among as many digits as are safe those before the last leave room for one more
pub digits_value-safe : (bs : List ℕ) (i : ℕ) → length bs ≤ safe_digits → i < length bs → list_all is_ascii_digit (take i bs) ≡ true
    → digits_value 10 (take i bs) * 10 + 9 < 2 ^ 64
digits_value-safe bs i few within digits =
    let front = take i bs in
    let short : length front ≤ 18 = rw length-take (omega arith) in
    let below : digits_value 10 front < 10 ^ length front = digits_value-lt 10 front (numerals.to front digits) in
    let power : 10 ^ length front ≤ 10 ^ 18 = pow-le-pow_right (omega arith) short in
    omega arith

-- a front of digits are digits
pub digits-take : (bs : List ℕ) (i : ℕ) → list_all is_ascii_digit bs ≡ true → list_all is_ascii_digit (take i bs) ≡ true
digits-take bs i digits =
    list_all-from_AllPass is_ascii_digit (take i bs)
    (All-take (λ b. is_ascii_digit b ≡ true) i bs (AllPass-from_list_all is_ascii_digit bs digits))

-- each of some digits is one
pub digits-at : (bs : List ℕ) (i : ℕ) → i < length bs → list_all is_ascii_digit bs ≡ true → is_ascii_digit (get_or bs i 0) ≡ true
digits-at bs i within digits =
    All-get_or (λ b. is_ascii_digit b ≡ true) bs i 0 within (AllPass-from_list_all is_ascii_digit bs digits)

-- the front of some bytes is one digit longer
pub record IsLonger (bs : List ℕ) (i : ℕ) : Type 0 where
  pub digits : list_all is_ascii_digit (take (i + 1) bs) ≡ true
  pub value : digits_value 10 (take i bs) * 10 + (get_or bs i 0 - 48) ≡ digits_value 10 (take (i + 1) bs)

-- a digit behind a front of digits makes it one digit longer
pub longer : (bs : List ℕ) (i : ℕ) → i < length bs → list_all is_ascii_digit (take i bs) ≡ true → is_ascii_digit (get_or bs i 0) ≡ true
    → IsLonger bs i
longer bs i within digits ten = record {
  digits = list_all_more is_ascii_digit bs i 0 within ∙ rw (digits, ten) refl;
  value = sym (digits_value_more 10 bs i within ∙ ap (λ d. digits_value 10 (take i bs) * 10 + d) (digit_value-ascii (get_or bs i 0) ten));
}
