-- Blanks that stand together leave the state, and digits that stand together are counted and read at once.
use Rattle.std.proofs.Common.{◌≡◌, ℕ, ◌+◌, ◌-◌, ◌*◌, ◌^◌, ◌<◌, ◌≤◌, Bool, true, false, ◌&&◌, nat_lt, List, [], ◌∷◌, length, take, length-take, refl, sym, ap, ap₂, ◌∙◌, add-zero, zero-add, Some, arith}
use Rattle.std.proofs.lemmas.Bool.Decides.{nat_tests}
use Rattle.std.specs.List.{list_all}
use Rattle.std.specs.Char.{is_ascii_digit, digit_value}
use Rattle.std.specs.Str.Parse.{digits_value, digits_value_after}
use Rattle.idfiles.specs.Grammar.{is_blank, is_inner}
use Rattle.idfiles.specs.Kinds.{is_of}
use Rattle.idfiles.specs.Limits.{most_digits}
use Rattle.idfiles.specs.declared.front.ByteKind.{ByteKind}
use Rattle.idfiles.specs.declared.front.ByteKind.TheVariants.{Lf, Inner}
use Rattle.idfiles.specs.declared.front.ByteKind.TheVariants as kind
use Rattle.idfiles.specs.Machine.{after_bytes, keeps_at}
use Rattle.idfiles.specs.declared.line.LineState.{LineState}
use Rattle.idfiles.specs.declared.line.LineState.TheVariants.{Blank, Digits, Behind, BlankCr, IdCr, Bad}
use Rattle.idfiles.proofs.LawDigits.{digit_value-ascii, value_after-ge}

-- both hold
pub both : (a b : Bool) → (a && b) ≡ true → (a ≡ true) × (b ≡ true)
both true b h = (refl, h)
both false b h = cc

all_inner : (p : ℕ → Bool) → ((b : ℕ) → p b ≡ true → is_inner b ≡ true) → (xs : List ℕ) → list_all p xs ≡ true → list_all is_inner xs ≡ true
all_inner p keeps [] h = refl
all_inner p keeps (x ∷ xs) h =
    let parts = both (p x) (list_all p xs) h in rw (keeps x parts.0) (all_inner p keeps xs parts.1)

-- no blank is an LF
pub is_inner-blanks : (xs : List ℕ) → list_all is_blank xs ≡ true → list_all is_inner xs ≡ true
is_inner-blanks = all_inner is_blank (λ b h. grind (arith, nat_tests))

-- no digit is an LF
pub is_inner-digits : (xs : List ℕ) → list_all is_ascii_digit xs ≡ true → list_all is_inner xs ≡ true
is_inner-digits = all_inner is_ascii_digit (λ b h. grind (arith, nat_tests))

-- blanks leave the state of a line with nothing else
pub blank_blanks : (xs : List ℕ) → list_all is_blank xs ≡ true → after_bytes Blank xs ≡ Blank
blank_blanks [] h = refl
blank_blanks (x ∷ xs) h = let parts = both (is_blank x) (list_all is_blank xs) h in rw parts.0 (blank_blanks xs parts.1)

-- blanks behind an id and a blank leave the state
pub behind_blanks_kept : (v : ℕ) (xs : List ℕ) → list_all is_blank xs ≡ true → after_bytes (Behind v) xs ≡ Behind v
behind_blanks_kept v [] h = refl
behind_blanks_kept v (x ∷ xs) h = let parts = both (is_blank x) (list_all is_blank xs) h in rw parts.0 (behind_blanks_kept v xs parts.1)

more_digits : (c v : ℕ) (ds : List ℕ) → list_all is_ascii_digit ds ≡ true → c + length ds ≤ most_digits → digits_value_after 10 v ds < 2 ^ 64
    → after_bytes (Digits c v) ds ≡ Digits (c + length ds) (digits_value_after 10 v ds)
more_digits c v [] h short fits = rw add-zero refl
more_digits c v (d ∷ ds) h short fits =
    let parts = both (is_ascii_digit d) (list_all is_ascii_digit ds) h in
    let is : digit_value d ≡ d - 48 = digit_value-ascii d parts.0 in
    let least : v * 10 + digit_value d ≤ digits_value_after 10 v (d ∷ ds) = value_after-ge (v * 10 + digit_value d) ds in
    let room : nat_lt c most_digits ≡ true = grind (arith, nat_tests) in
    let fit : nat_lt (v * 10 + (d - 48)) (2 ^ 64) ≡ true = grind (arith, nat_tests) in
    let count : (c + 1) + length ds ≡ c + length (d ∷ ds) = omega arith in
    let worth : digits_value_after 10 v (d ∷ ds) ≡ digits_value_after 10 (v * 10 + (d - 48)) ds =
    ap (λ n. digits_value_after 10 (v * 10 + n) ds) is in
    let below : digits_value_after 10 (v * 10 + (d - 48)) ds < 2 ^ 64 = omega arith in
    rw (parts.0, room, fit) (more_digits (c + 1) (v * 10 + (d - 48)) ds parts.1 (omega arith) below ∙ ap₂ Digits count (sym worth))

-- the state behind digits at the front of a line
pub blank_digits : (ds : List ℕ) → 0 < length ds → length ds ≤ most_digits → list_all is_ascii_digit ds ≡ true → digits_value 10 ds < 2 ^ 64
    → after_bytes Blank ds ≡ Digits (length ds) (digits_value 10 ds)
blank_digits [] some short h fits = absurd (omega arith)
blank_digits (d ∷ ds) some short h fits =
    let parts = both (is_ascii_digit d) (list_all is_ascii_digit ds) h in
    let plain : is_blank d ≡ false = grind (arith, nat_tests) in
    let worth : digits_value 10 (d ∷ ds) ≡ digits_value_after 10 (d - 48) ds =
    ap (λ n. digits_value_after 10 n ds) (zero-add (digit_value d) ∙ digit_value-ascii d parts.0) in
    let below : digits_value_after 10 (d - 48) ds < 2 ^ 64 = omega arith in
    let count : 1 + length ds ≡ length (d ∷ ds) = omega arith in
    rw (plain, parts.0) (more_digits 1 (d - 48) ds parts.1 (omega arith) below ∙ ap₂ Digits count (sym worth))

-- digits at the front of a line, no more than an id may have
pub blank_front : (n : ℕ) (xs : List ℕ) → 0 < n → n ≤ most_digits → n ≤ length xs → list_all is_ascii_digit (take n xs) ≡ true
    → digits_value 10 (take n xs) < 2 ^ 64 → Digits n (digits_value 10 (take n xs)) ≡ after_bytes Blank (take n xs)
blank_front n xs some short within h fits =
    let size : length (take n xs) ≡ n = simp length-take (omega arith) in
    sym (blank_digits (take n xs) (omega arith) (omega arith) h fits ∙ ap (λ (m : ℕ). Digits m (digits_value 10 (take n xs))) size)

-- no byte that changes nothing is an LF
pub is_inner-kept : (state : LineState) (bytes : ByteKind) (xs : List ℕ) → keeps_at state ≡ Some bytes → list_all (is_of bytes) xs ≡ true
    → list_all is_inner xs ≡ true
is_inner-kept state Lf xs kept h = go state kept where
  go : (state : LineState) → keeps_at state ≡ Some Lf → list_all is_inner xs ≡ true
  go Blank e = cc
  go (Behind v) e = cc
  go Bad e = cc
  go (Digits count v) e = cc
  go BlankCr e = cc
  go (IdCr v) e = cc
is_inner-kept state kind.Blank xs kept h = is_inner-blanks xs h
is_inner-kept state Inner xs kept h = h

-- no further byte mends a bad line
bad_kept : (xs : List ℕ) → after_bytes Bad xs ≡ Bad
bad_kept [] = refl
bad_kept (x ∷ xs) = bad_kept xs

-- bytes that change nothing
pub kept_at : (state : LineState) (bytes : ByteKind) (xs : List ℕ) → keeps_at state ≡ Some bytes → list_all (is_of bytes) xs ≡ true
    → state ≡ after_bytes state xs
kept_at Blank bytes xs kept h = let is : bytes ≡ kind.Blank = cc in sym (blank_blanks xs (rw is at h))
kept_at (Behind v) bytes xs kept h = let is : bytes ≡ kind.Blank = cc in sym (behind_blanks_kept v xs (rw is at h))
kept_at Bad bytes xs kept h = sym (bad_kept xs)
kept_at (Digits count v) bytes xs kept h = cc
kept_at BlankCr bytes xs kept h = cc
kept_at (IdCr v) bytes xs kept h = cc
