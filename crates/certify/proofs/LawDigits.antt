-- The number that digits write, with one digit more.
use Rattle.std.proofs.Common.{◌≡◌, ℕ, ◌+◌, ◌-◌, ◌*◌, ◌^◌, ◌<◌, ◌≤◌, Bool, true, false, nat_lt, nat_le, List, length, take, length-take, get_or, Option, None, Some, inl, inr, refl, sym, ap, ◌∙◌, arith, rules}
use Rattle.std.proofs.Math.Nat.{pow-le-pow_right}
use Rattle.std.proofs.lemmas.Bool.Decides.{nat_tests}
use Rattle.std.proofs.lemmas.Bool.{cases_lt}
use Rattle.std.proofs.lemmas.Int.Digits.{digits_value-lt, digits_value_more}
use Rattle.std.proofs.lemmas.List.{take_all}
use Rattle.std.proofs.lemmas.List.Folds.{list_all_more, list_all_at, list_all_kept}
use Rattle.std.proofs.lemmas.Str.Parse.{IsNumeralModel, numerals_by_value}
use Rattle.std.specs.List.{list_all}
use Rattle.std.specs.Option.{SomeIff}
use Rattle.std.specs.Char.{is_ascii_digit, digit_value}
use Rattle.std.specs.Str.Parse.{digits_value}
use Rattle.certify.specs.Line.{number_in}

-- the texts of digits, and what they write
numerals : IsNumeralModel (λ ds. list_all is_ascii_digit ds ≡ true) (digits_value 10)
numerals = numerals_by_value _ (search rules)

-- a digit stands for its code less that of 0
digit_value-ascii : (b : ℕ) → is_ascii_digit b ≡ true → digit_value b ≡ b - 48
digit_value-ascii b ten = grind (arith, nat_tests)

-- at most 18 digits leave room for one more
pub digits_value-safe : (text : List ℕ) (i : ℕ) → length text ≤ 19 → i < length text → list_all is_ascii_digit (take i text) ≡ true
    → digits_value 10 (take i text) * 10 + 9 < 2 ^ 64
digits_value-safe text i most within digits =
    let front = take i text in
    let short : length front ≤ 18 = rw length-take (omega arith) in
    let below : digits_value 10 front < 10 ^ length front = digits_value-lt 10 front (numerals.to front digits) in
    let power : 10 ^ length front ≤ 10 ^ 18 = pow-le-pow_right (omega arith) short in
    omega arith

-- a digit behind a front of digits makes it one digit longer
pub digits_more : (text : List ℕ) (i : ℕ) → i < length text → list_all is_ascii_digit (take i text) ≡ true
    → is_ascii_digit (get_or text i 0) ≡ true
    → list_all is_ascii_digit (take (i + 1) text) ≡ true
digits_more text i within digits ten = list_all_more is_ascii_digit text i 0 within ∙ rw (digits, ten) refl

pub value_more : (text : List ℕ) (i : ℕ) → i < length text → is_ascii_digit (get_or text i 0) ≡ true
    → digits_value 10 (take (i + 1) text) ≡ digits_value 10 (take i text) * 10 + (get_or text i 0 - 48)
value_more text i within ten =
    digits_value_more 10 text i within ∙ ap (λ d. digits_value 10 (take i text) * 10 + d) (digit_value-ascii (get_or text i 0) ten)

-- what is shown of the text when its front is digits
module _ (most : ℕ) (text : List ℕ) (some : 0 < length text) where
  abbrev front : List ℕ
  front = take (length text - 1) text

  abbrev last : ℕ
  last = get_or text (length text - 1) 0

  all : take ((length text - 1) + 1) text ≡ text
  all = take_all ((length text - 1) + 1) text (omega arith)

  -- no number has a byte in its front that is no digit
  pub number_none : list_all is_ascii_digit front ≡ false → None ≡ number_in most text
  number_none other =
      let kept : list_all is_ascii_digit text ≡ false =
      ap (λ (t : List ℕ). list_all is_ascii_digit t) (sym all) ∙ list_all_kept is_ascii_digit text (length text - 1) other in
      rw kept refl

  -- the number is that of the front with the last digit
  pub number_some : length text ≤ most → list_all is_ascii_digit front ≡ true → (value : ℕ) → value ≡ digits_value 10 front → (r : Option ℕ)
      → SomeIff r ((is_ascii_digit last ≡ true) × (value * 10 + (last - 48) < 2 ^ 64)) (value * 10 + (last - 48))
      → r ≡ number_in most text
  number_some few digits value is (Some x) made =
      let under : length text - 1 < length text = omega arith in
      let whole : list_all is_ascii_digit text ≡ true =
      ap (λ (t : List ℕ). list_all is_ascii_digit t) (sym all) ∙ digits_more text (length text - 1) under digits made.0.0 in
      let amount : digits_value 10 text ≡ value * 10 + (last - 48) =
      ap (λ (t : List ℕ). digits_value 10 t) (sym all) ∙ value_more text (length text - 1) under made.0.0
      ∙ ap (λ (n : ℕ). n * 10 + (last - 48)) (sym is) in
      let fits : digits_value 10 text < 2 ^ 64 = rw amount made.0.1 in
      let t1 : nat_lt 0 (length text) ≡ true = grind (arith, nat_tests) in
      let t2 : nat_le (length text) most ≡ true = grind (arith, nat_tests) in
      let t3 : nat_lt (digits_value 10 text) (2 ^ 64) ≡ true = grind (arith, nat_tests) in
      rw (whole, t1, t2, t3) (ap Some (made.1 ∙ sym amount))
  number_some few digits value is None refused = go (is_ascii_digit last) refl where
    go : (ten : Bool) → is_ascii_digit last ≡ ten → None ≡ number_in most text
    go false other =
        let under : length text - 1 < length text = omega arith in
        let whole : list_all is_ascii_digit text ≡ false = list_all_at is_ascii_digit text (length text - 1) 0 under other in
        rw whole refl
    go true ten =
        let under : length text - 1 < length text = omega arith in
        let whole : list_all is_ascii_digit text ≡ true =
        ap (λ (t : List ℕ). list_all is_ascii_digit t) (sym all) ∙ digits_more text (length text - 1) under digits ten in
        let amount : digits_value 10 text ≡ value * 10 + (last - 48) =
        ap (λ (t : List ℕ). digits_value 10 t) (sym all) ∙ value_more text (length text - 1) under ten
        ∙ ap (λ (n : ℕ). n * 10 + (last - 48)) (sym is) in
        let past : value * 10 + (last - 48) < 2 ^ 64 → ⊥ = λ fits. refused (ten, fits) in
        let large : 2 ^ 64 ≤ digits_value 10 text = rw amount
        (elim (cases_lt (value * 10 + (last - 48)) (2 ^ 64)) [ inl fits ↦ absurd (past fits) | inr over ↦ over ]) in
        let t1 : nat_lt 0 (length text) ≡ true = grind (arith, nat_tests) in
        let t2 : nat_le (length text) most ≡ true = grind (arith, nat_tests) in
        let t3 : nat_lt (digits_value 10 text) (2 ^ 64) ≡ false = grind (arith, nat_tests) in
        rw (whole, t1, t2, t3) refl
