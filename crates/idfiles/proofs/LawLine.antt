-- The bytes of a line, taken one after the other, leave what the grammar says that the line is.
use Rattle.std.proofs.Common.{◌≡◌, ℕ, suc, ◌+◌, ◌-◌, ◌*◌, ◌^◌, ◌<◌, ◌≤◌, Bool, true, false, ◌&&◌, ◌==◌, nat_lt, nat_le, ◌⊎◌, inl, inr, if◌then◌else◌, List, [], ◌∷◌, ◌++◌, length, refl, sym, ap, ◌∙◌, append_assoc, append-nil, zero-add, length-append, arith}
use Rattle.std.proofs.lemmas.Bool.Decides.{nat_tests}
use Rattle.std.proofs.lemmas.Bool.{cases_Bool}
use Rattle.std.proofs.lemmas.List.Folds.{list_all-append}
use Rattle.std.proofs.lemmas.Int.Digits.{digits_value_push}
use Rattle.std.specs.List.{list_all}
use Rattle.std.specs.Char.{is_ascii_digit, digit_value}
use Rattle.std.specs.Str.Parse.{digits_value}
use Rattle.idfiles.specs.Limits.{most_digits}
use Rattle.idfiles.proofs.LawDigits.{digit_value-ascii, value_after-ge, value_after-append}
use Rattle.idfiles.specs.Grammar.{cr, is_blank}
use Rattle.idfiles.specs.Lines.{is_empty, without_cr, behind_blanks, before_blanks, is_id, judged, line_of}
use Rattle.idfiles.specs.Machine.{with_digit, after_bytes, at_end}
use Rattle.idfiles.specs.declared.line.Line.TheVariants as line
use Rattle.idfiles.specs.declared.line.LineState.TheVariants.{Blank, Digits, Behind, Bad}

-- the four kinds of bytes in a line
data Kind (b : ℕ) : Type 0 where
  blank : is_blank b ≡ true → is_ascii_digit b ≡ false → (b == cr) ≡ false → Kind b
  digit : is_ascii_digit b ≡ true → is_blank b ≡ false → (b == cr) ≡ false → Kind b
  return : b ≡ cr → Kind b
  other : is_blank b ≡ false → is_ascii_digit b ≡ false → (b == cr) ≡ false → Kind b

kind_of : (b : ℕ) → Kind b
kind_of b = elim (cases_Bool (is_blank b)) [
  | inl empty ↦ blank empty (grind (arith, nat_tests)) (grind (arith, nat_tests))
  | inr plain ↦ elim (cases_Bool (is_ascii_digit b)) [
    | inl ten ↦ digit ten plain (grind (arith, nat_tests))
    | inr letter ↦ elim (cases_Bool (b == cr)) [
      | inl back ↦ return (grind (arith, nat_tests))
      | inr inner ↦ other plain letter inner
    ]
  ]
]

-- a line without a CR and blanks at its end
abbrev front : List ℕ → List ℕ
front xs = before_blanks (without_cr xs)

front-plain : (b : ℕ) (xs : List ℕ) → is_blank b ≡ false → (b == cr) ≡ false → front (b ∷ xs) ≡ b ∷ front xs
front-plain b xs plain inner = rw (inner, plain) refl

front-blank : (b : ℕ) (xs : List ℕ) → is_blank b ≡ true → (b == cr) ≡ false
    → front (b ∷ xs) ≡ (if is_empty (front xs) then [] else b ∷ front xs)
front-blank b xs empty inner = rw (inner, empty) refl

at_end-bad : (xs : List ℕ) → at_end (after_bytes Bad xs) ≡ line.Bad
at_end-bad [] = refl
at_end-bad (x ∷ xs) = at_end-bad xs

-- behind digits a byte that is none makes the line bad
judged-bad : (ds : List ℕ) (b : ℕ) (xs : List ℕ) → list_all is_ascii_digit ds ≡ true → is_ascii_digit b ≡ false
    → judged (ds ++ b ∷ xs) ≡ line.Bad
judged-bad [] b xs digits none = rw none refl
judged-bad (d ∷ ds) b xs digits none =
    let e : list_all is_ascii_digit ((d ∷ ds) ++ b ∷ xs) ≡ false = list_all-append is_ascii_digit (d ∷ ds) (b ∷ xs)
    ∙ rw (digits, none) refl in
    rw e refl

-- what stands behind an id and a blank
abbrev Behind-reads : ℕ → List ℕ → Type 0
Behind-reads v xs = at_end (after_bytes (Behind v) xs) ≡ (if is_empty (front xs) then line.Id v else line.Bad)

is_empty-blank : (b : ℕ) (ys : List ℕ) → is_empty (if is_empty ys then [] else b ∷ ys) ≡ is_empty ys
is_empty-blank b [] = refl
is_empty-blank b (y ∷ ys) = refl

behind_return : (v : ℕ) (xs : List ℕ) → Behind-reads v (cr ∷ xs)
behind_return v [] = refl
behind_return v (x ∷ xs) = at_end-bad xs

behind_byte : (v x : ℕ) (xs : List ℕ) → Kind x → Behind-reads v xs → Behind-reads v (x ∷ xs)
behind_byte v x xs (blank empty none inner) rest = rw (empty, front-blank x xs empty inner, is_empty-blank x (front xs)) rest
behind_byte v x xs (digit ten plain inner) rest = rw (inner, plain) (at_end-bad xs)
behind_byte v x xs (return back) rest = rw back (behind_return v xs)
behind_byte v x xs (other plain none inner) rest = rw (inner, plain) (at_end-bad xs)

-- behind an id and a blank more blanks and a CR leave the id, all else makes the line bad
behind : (v : ℕ) (xs : List ℕ) → Behind-reads v xs
behind v [] = refl
behind v (x ∷ xs) = behind_byte v x xs (kind_of x) (behind v xs)

-- so many digits, with this value
record AreDigits (ds : List ℕ) (count value : ℕ) : Type 0 where
  digits : list_all is_ascii_digit ds ≡ true
  many : length ds ≡ count
  some : 0 < count
  short : count ≤ most_digits
  is : digits_value 10 ds ≡ value
  fits : value < 2 ^ 64

judged-digits : (ds : List ℕ) (count value : ℕ) → AreDigits ds count value → judged ds ≡ line.Id value
judged-digits [] count value h = absurd (omega arith)
judged-digits (d ∷ ds) count value h =
    let short : nat_le (length (d ∷ ds)) most_digits ≡ true = grind (arith, nat_tests) in
    let fits : nat_lt (digits_value 10 (d ∷ ds)) (2 ^ 64) ≡ true = grind (arith, nat_tests) in
    rw (h.digits, short, fits) (ap line.Id h.is)

more_digits : (ds : List ℕ) (count value b : ℕ) → AreDigits ds count value → is_ascii_digit b ≡ true → count < most_digits
    → value * 10 + (b - 48) < 2 ^ 64 → AreDigits (ds ++ b ∷ []) (count + 1) (value * 10 + (b - 48))
more_digits ds count value b h ten short fits = record {
  digits = list_all-append is_ascii_digit ds (b ∷ []) ∙ rw (h.digits, ten) refl;
  many = length-append ds (b ∷ []) ∙ omega (arith, h.many);
  some = omega arith;
  short = omega arith;
  is = digits_value_push 10 ds b ∙ rw (h.is, digit_value-ascii b ten) refl;
  fits = fits;
}

none_false : (a b c : Bool) → (b ≡ false) ⊎ (c ≡ false) → (a && b && c) ≡ false
none_false false b c h = refl
none_false true b c (inl e) = rw e refl
none_false true true c (inr e) = e
none_false true false c (inr e) = refl

-- too many digits, or a value that doesn't fit, however the line goes on
judged-many : (ds : List ℕ) (count value b : ℕ) (xs : List ℕ) → AreDigits ds count value → is_ascii_digit b ≡ true
    → (nat_lt count 20 && nat_lt (value * 10 + (b - 48)) (2 ^ 64)) ≡ false → judged (ds ++ b ∷ xs) ≡ line.Bad
judged-many [] count value b xs h ten many = absurd (omega arith)
judged-many (d ∷ ds) count value b xs h ten many =
    let all = (d ∷ ds) ++ b ∷ xs in
    let size : length all ≡ count + suc (length xs) = length-append (d ∷ ds) (b ∷ xs) ∙ ap (λ n. n + suc (length xs)) h.many in
    let least : value * 10 + (b - 48) ≤ digits_value 10 all =
    rw (value_after-append 0 (d ∷ ds) (b ∷ xs), h.is, digit_value-ascii b ten) (value_after-ge (value * 10 + (b - 48)) xs) in
    let bad : (nat_le (length all) 20 ≡ false) ⊎ (nat_lt (digits_value 10 all) (2 ^ 64) ≡ false) = elim (cases_Bool (nat_lt count 20)) [
      | inl room ↦ let over : nat_lt (value * 10 + (b - 48)) (2 ^ 64) ≡ false = rw room at many in inr (grind (arith, nat_tests))
      | inr full ↦ inl (grind (arith, nat_tests))
    ] in
    let e : is_id all ≡ false = none_false _ _ _ bad in
    rw e refl

-- what stands behind these digits
abbrev Digits-reads : List ℕ → ℕ → ℕ → List ℕ → Type 0
Digits-reads ds count value xs = at_end (after_bytes (Digits count value) xs) ≡ judged (ds ++ front xs)

judged-blank : (ds : List ℕ) (count value b : ℕ) (ys : List ℕ) → AreDigits ds count value → is_ascii_digit b ≡ false
    → (if is_empty ys then line.Id value else line.Bad) ≡ judged (ds ++ (if is_empty ys then [] else b ∷ ys))
judged-blank ds count value b [] h none = sym (ap judged (append-nil ds) ∙ judged-digits ds count value h)
judged-blank ds count value b (y ∷ ys) h none = sym (judged-bad ds b (y ∷ ys) h.digits none)

digits_return : (ds : List ℕ) (count value : ℕ) (xs : List ℕ) → AreDigits ds count value → Digits-reads ds count value (cr ∷ xs)
digits_return ds count value [] h = sym (ap judged (append-nil ds) ∙ judged-digits ds count value h)
digits_return ds count value (x ∷ xs) h = at_end-bad xs ∙ sym (judged-bad ds cr (front (x ∷ xs)) h.digits refl)

digits_digit : (ds : List ℕ) (count value x : ℕ) (xs : List ℕ) (fits : Bool) → AreDigits ds count value → is_ascii_digit x ≡ true
    → (nat_lt count 20 && nat_lt (value * 10 + (x - 48)) (2 ^ 64)) ≡ fits
    → ((ds : List ℕ) (count value : ℕ) → AreDigits ds count value → Digits-reads ds count value xs)
    → at_end (after_bytes (with_digit count value x) xs) ≡ judged (ds ++ x ∷ front xs)
digits_digit ds count value x xs true h ten fits rest =
    rw fits (rest (ds ++ x ∷ []) (count + 1) (value * 10 + (x - 48)) (more_digits ds count value x h ten (grind (arith, nat_tests))
    (grind (arith, nat_tests)))
    ∙ ap judged (append_assoc ds (x ∷ []) (front xs)))
digits_digit ds count value x xs false h ten fits rest = rw fits (at_end-bad xs ∙ sym (judged-many ds count value x (front xs) h ten fits))

digits_byte : (ds : List ℕ) (count value x : ℕ) (xs : List ℕ) → Kind x → AreDigits ds count value
    → ((ds : List ℕ) (count value : ℕ) → AreDigits ds count value → Digits-reads ds count value xs) → Digits-reads ds count value (x ∷ xs)
digits_byte ds count value x xs (blank empty none inner) h rest =
    rw (none, empty, front-blank x xs empty inner) (behind value xs ∙ judged-blank ds count value x (front xs) h none)
digits_byte ds count value x xs (digit ten plain inner) h rest = rw (ten, inner, plain) (digits_digit ds count value x xs _ h ten refl rest)
digits_byte ds count value x xs (return back) h rest = rw back (digits_return ds count value xs h)
digits_byte ds count value x xs (other plain none inner) h rest =
    rw (none, inner, plain) (at_end-bad xs ∙ sym (judged-bad ds x (front xs) h.digits none))

-- behind digits more of them go on, blanks and a CR end them, all else makes the line bad
digits : (xs ds : List ℕ) (count value : ℕ) → AreDigits ds count value → Digits-reads ds count value xs
digits [] ds count value h = sym (ap judged (append-nil ds) ∙ judged-digits ds count value h)
digits (x ∷ xs) ds count value h = digits_byte ds count value x xs (kind_of x) h (λ es many worth. digits xs es many worth)

one_digit : (x : ℕ) → is_ascii_digit x ≡ true → AreDigits (x ∷ []) 1 (x - 48)
one_digit x ten = record {
  digits = rw ten refl;
  many = refl;
  some = omega arith;
  short = omega arith;
  is = zero-add (digit_value x) ∙ digit_value-ascii x ten;
  fits = grind (arith, nat_tests);
}

behind_blanks-blank : (b : ℕ) (ys : List ℕ) → is_blank b ≡ true → behind_blanks (if is_empty ys then [] else b ∷ ys) ≡ behind_blanks ys
behind_blanks-blank b [] empty = refl
behind_blanks-blank b (y ∷ ys) empty = rw empty refl

blank_return : (xs : List ℕ) → at_end (after_bytes Blank (cr ∷ xs)) ≡ line_of (cr ∷ xs)
blank_return [] = refl
blank_return (x ∷ xs) = at_end-bad xs

blank_byte : (x : ℕ) (xs : List ℕ) → Kind x → at_end (after_bytes Blank xs) ≡ line_of xs
    → at_end (after_bytes Blank (x ∷ xs)) ≡ line_of (x ∷ xs)
blank_byte x xs (blank empty none inner) rest =
    rw (empty, front-blank x xs empty inner, behind_blanks-blank x (front xs) empty) rest
blank_byte x xs (digit ten plain inner) rest = rw (ten, front-plain x xs plain inner, plain)
    (digits xs (x ∷ []) 1 (x - 48) (one_digit x ten))
blank_byte x xs (return back) rest = rw back (blank_return xs)
blank_byte x xs (other plain none inner) rest = rw (front-plain x xs plain inner, plain, none, inner) (at_end-bad xs)

-- from the first byte to the last
pub reads : (bytes : List ℕ) → at_end (after_bytes Blank bytes) ≡ line_of bytes
reads [] = refl
reads (x ∷ xs) = blank_byte x xs (kind_of x) (reads xs)
