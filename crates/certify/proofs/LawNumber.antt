-- A number that stands in a text is found, one that is found stands there, and its digits are no blanks.
use Rattle.std.proofs.Common.{◌≡◌, ℕ, ◌-◌, ◌^◌, ◌<◌, ◌==◌, Bool, true, false, ◌&&◌, nat_lt, nat_le, bytes_eq, List, [], ◌∷◌, length, take, get_or, Option, None, Some, refl, sym, ap, ◌∙◌, subst, arith}
use Rattle.std.specs.List.{list_all}
use Rattle.std.specs.Char.{is_ascii_digit}
use Rattle.std.specs.Str.Parse.{digits_value}
use Rattle.std.specs.Option.{option_map, option_and_then}
use Rattle.std.proofs.lemmas.Bool.Decides.{nat_tests}
use Rattle.std.proofs.lemmas.List.Folds.{list_all-append}
use Rattle.certify.specs.Trim.{cr, is_blank}
use Rattle.certify.specs.Line.{is_number, number_in}
use Rattle.certify.specs.Grammar.{WritesNumber}
use Rattle.certify.proofs.LawTrim.{true_first, is_other, with_last}
use Rattle.certify.proofs.LawTight.{IsTight}

-- two lists with equal bytes
pub same_bytes : (xs ys : List ℕ) → bytes_eq xs ys ≡ true → xs ≡ ys
same_bytes [] [] h = refl
same_bytes [] (y ∷ ys) h = cc
same_bytes (x ∷ xs) [] h = cc
same_bytes (x ∷ xs) (y ∷ ys) h =
    let parts = true_first (x == y) (bytes_eq xs ys) h in
    let here : (x == y) ≡ true = parts.0 in
    let equal : x ≡ y = grind (arith, nat_tests) in
    let rest = same_bytes xs ys parts.1 in
    ap (λ (b : ℕ). b ∷ xs) equal ∙ ap (λ (t : List ℕ). y ∷ t) rest

-- where a chain of options gives a value
pub record Given {A B : Type 0} (f : A → Option B) (o : Option A) (y : B) : Type 0 where
  pub value : A
  pub there : o ≡ Some value
  pub gives : f value ≡ Some y

pub given : {A B : Type 0} (f : A → Option B) (o : Option A) (y : B) → option_and_then f o ≡ Some y → Given f o y
given f None y h = cc
given f (Some x) y h = record { value = x; there = refl; gives = h }

pub record Mapped {A B : Type 0} (f : A → B) (o : Option A) (y : B) : Type 0 where
  pub value : A
  pub there : o ≡ Some value
  pub gives : f value ≡ y

pub mapped : {A B : Type 0} (f : A → B) (o : Option A) (y : B) → option_map f o ≡ Some y → Mapped f o y
mapped f None y h = cc
mapped f (Some x) y h = record { value = x; there = refl; gives = (let e : f x ≡ y = cc in e) }

-- a number is found
pub number_found : (most : ℕ) (text : List ℕ) (number : ℕ) → WritesNumber most text number → number_in most text ≡ Some number
number_found most text number writes =
    let some = writes.some in
    let few = writes.few in
    let fits : digits_value 10 text < 2 ^ 64 = rw writes.value writes.fits in
    let t1 : nat_lt 0 (length text) ≡ true = grind (arith, nat_tests) in
    let t2 : nat_le (length text) most ≡ true = grind (arith, nat_tests) in
    let t3 : nat_lt (digits_value 10 text) (2 ^ 64) ≡ true = grind (arith, nat_tests) in
    let digits = writes.digits in
    rw (digits, t1, t2, t3) (ap Some writes.value)

-- and one that is found is written there
pub number_written : (most : ℕ) (text : List ℕ) (number : ℕ) → number_in most text ≡ Some number → WritesNumber most text number
number_written most text number h = go (is_number most text) refl where
  go : (test : Bool) → is_number most text ≡ test → WritesNumber most text number
  go false e =
      let none : number_in most text ≡ None = rw e refl in
      let clash : None ≡ Some number = sym none ∙ h in cc
  go true e =
      let found : number_in most text ≡ Some (digits_value 10 text) = rw e refl in
      let value : Some (digits_value 10 text) ≡ Some number = sym found ∙ h in
      let is : digits_value 10 text ≡ number = cc in
      let p = true_first (list_all is_ascii_digit text) _ e in
      let q = true_first (nat_lt 0 (length text)) _ p.1 in
      let r = true_first (nat_le (length text) most) (nat_lt (digits_value 10 text) (2 ^ 64)) q.1 in
      let q0 : nat_lt 0 (length text) ≡ true = q.0 in
      let r0 : nat_le (length text) most ≡ true = r.0 in
      let r1 : nat_lt (digits_value 10 text) (2 ^ 64) ≡ true = r.1 in
      let below : digits_value 10 text < 2 ^ 64 = grind (arith, nat_tests) in
      record {
        digits = p.0;
        some = grind (arith, nat_tests);
        few = grind (arith, nat_tests);
        value = is;
        fits = subst (λ (n : ℕ). n < 2 ^ 64) is below;
      }

-- digits are no spaces
pub digits_other : (text : List ℕ) → list_all is_ascii_digit text ≡ true → list_all is_other text ≡ true
digits_other [] h = refl
digits_other (b ∷ text) h =
    let parts = true_first (is_ascii_digit b) (list_all is_ascii_digit text) h in
    let digit : is_ascii_digit b ≡ true = parts.0 in
    let apart : (b == 32) ≡ false = grind (arith, nat_tests) in
    rw (apart, digits_other text parts.1) refl

-- bytes that begin and end with digits are tight
pub digit_first : (b : ℕ) → is_ascii_digit b ≡ true → is_blank b ≡ false
digit_first b digit = grind (arith, nat_tests)

pub digit_cr : (b : ℕ) → is_ascii_digit b ≡ true → (b == cr) ≡ false
digit_cr b digit = grind (arith, nat_tests)

-- the first of some digits
pub record Begins (text : List ℕ) : Type 0 where
  pub first : ℕ
  pub tail : List ℕ
  pub is : text ≡ first ∷ tail
  pub digit : is_ascii_digit first ≡ true

pub begins : (text : List ℕ) → 0 < length text → list_all is_ascii_digit text ≡ true → Begins text
begins [] some digits = absurd (omega arith)
begins (b ∷ text) some digits =
    record { first = b; tail = text; is = refl; digit = (true_first (is_ascii_digit b) (list_all is_ascii_digit text) digits).0 }

pub number_tight : (most : ℕ) (text : List ℕ) (number : ℕ) → WritesNumber most text number → IsTight text
number_tight most text number writes =
    let one = begins text writes.some writes.digits in
    let split = with_last text writes.some in
    let front = take (length text - 1) text in
    let last = get_or text (length text - 1) 0 in
    let both : (list_all is_ascii_digit front && (is_ascii_digit last && true)) ≡ true =
    sym (list_all-append is_ascii_digit front (last ∷ [])) ∙ ap (list_all is_ascii_digit) (sym split) ∙ writes.digits in
    let digit = (true_first (is_ascii_digit last) true
    (true_first (list_all is_ascii_digit front) (is_ascii_digit last && true) both).1).0 in
    record {
      first = one.first;
      tail = one.tail;
      begins = one.is;
      first_other = digit_first one.first one.digit;
      front = front;
      last = last;
      ends = split;
      last_other = digit_first last digit;
      no_cr = digit_cr last digit;
    }
