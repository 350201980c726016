-- What is left of a line, with one byte more in front or at the end.
use Rattle.std.proofs.Common.{◌≡◌, ℕ, suc, ◌+◌, ◌-◌, ◌<◌, ◌≤◌, ◌==◌, Bool, true, false, not, ◌&&◌, List, [], ◌∷◌, ◌++◌, length, get_or, take, drop, None, Some, refl, sym, ap, ◌∙◌, arith, drop-cons, take-append-drop}
use Rattle.std.specs.List.{list_all}
use Rattle.std.specs.Option.{option_map}
use Rattle.std.proofs.lemmas.List.{take_all}
use Rattle.std.proofs.Math.Seq.{take-suc}
use Rattle.certify.specs.Trim.{cr, is_blank, is_empty, without_cr, behind_blanks, before_blanks}
use Rattle.certify.specs.Line.{split_once}

-- bytes with one more at the end
pub with_last : (text : List ℕ) → 0 < length text → text ≡ take (length text - 1) text ++ get_or text (length text - 1) 0 ∷ []
with_last text some =
    let n = length text - 1 in
    let all : suc n ≡ length text = omega arith in
    let under : n < length text = omega arith in
    sym (take_all (length text) text (omega arith)) ∙ ap (λ (k : ℕ). take k text) (sym all) ∙ take-suc text n 0 under

-- a front that is one byte longer
pub take_one_more : (text : List ℕ) (end : ℕ) → 0 < end → end ≤ length text
    → take end text ≡ take (end - 1) text ++ get_or text (end - 1) 0 ∷ []
take_one_more text end some within =
    let all : suc (end - 1) ≡ end = omega arith in
    let under : end - 1 < length text = omega arith in
    ap (λ (k : ℕ). take k text) (sym all) ∙ take-suc text (end - 1) 0 under

-- bytes with one at a place
pub with_one_at : (text : List ℕ) (at : ℕ) → at < length text → text ≡ take at text ++ get_or text at 0 ∷ drop (at + 1) text
with_one_at text at under =
    let next : suc at ≡ at + 1 = omega arith in
    sym (take-append-drop at text)
    ∙ ap (λ (tail : List ℕ). take at text ++ tail) (drop-cons text at 0 under ∙ ap (λ (k : ℕ). get_or text at 0 ∷ drop k text) next)

not_empty : (xs : List ℕ) (b : ℕ) → is_empty (xs ++ b ∷ []) ≡ false
not_empty [] b = refl
not_empty (x ∷ xs) b = refl

and_false : (b : Bool) → (b && false) ≡ false
and_false true = refl
and_false false = refl

-- a CR at the end is dropped
pub without_cr-cr : (xs : List ℕ) (b : ℕ) → (b == cr) ≡ true → without_cr (xs ++ b ∷ []) ≡ xs
without_cr-cr [] b is = rw is refl
without_cr-cr (x ∷ xs) b is =
    let test : ((x == cr) && is_empty (xs ++ b ∷ [])) ≡ false = ap (λ e. (x == cr) && e) (not_empty xs b) ∙ and_false (x == cr) in
    rw test (ap (λ (t : List ℕ). x ∷ t) (without_cr-cr xs b is))

-- no other byte is
pub without_cr-other : (xs : List ℕ) (b : ℕ) → (b == cr) ≡ false → without_cr (xs ++ b ∷ []) ≡ xs ++ b ∷ []
without_cr-other [] b other = rw other refl
without_cr-other (x ∷ xs) b other =
    let test : ((x == cr) && is_empty (xs ++ b ∷ [])) ≡ false = ap (λ e. (x == cr) && e) (not_empty xs b) ∙ and_false (x == cr) in
    rw test (ap (λ (t : List ℕ). x ∷ t) (without_cr-other xs b other))

-- a blank at the end is dropped
pub before_blanks-blank : (xs : List ℕ) (b : ℕ) → is_blank b ≡ true → before_blanks (xs ++ b ∷ []) ≡ before_blanks xs
before_blanks-blank [] b blank = rw blank refl
before_blanks-blank (x ∷ xs) b blank = rw (before_blanks-blank xs b blank) refl

-- no other byte is
pub before_blanks-other : (xs : List ℕ) (b : ℕ) → is_blank b ≡ false → before_blanks (xs ++ b ∷ []) ≡ xs ++ b ∷ []
before_blanks-other [] b other = rw other refl
before_blanks-other (x ∷ xs) b other =
    let test : (is_blank x && is_empty (xs ++ b ∷ [])) ≡ false = ap (λ e. is_blank x && e) (not_empty xs b) ∙ and_false (is_blank x) in
    rw (before_blanks-other xs b other, test) refl

-- a byte at the front
pub behind_blanks-blank : (b : ℕ) (xs : List ℕ) → is_blank b ≡ true → behind_blanks (b ∷ xs) ≡ behind_blanks xs
behind_blanks-blank b xs blank = rw blank refl

pub behind_blanks-other : (b : ℕ) (xs : List ℕ) → is_blank b ≡ false → behind_blanks (b ∷ xs) ≡ b ∷ xs
behind_blanks-other b xs other = rw other refl

-- a byte that isn't a space
abbrev pub is_other : ℕ → Bool
is_other b = not (b == 32)

pub true_first : (p q : Bool) → (p && q) ≡ true → (p ≡ true) × (q ≡ true)
true_first true q h = (refl, h)
true_first false q h = cc

pub not_true : (b : Bool) → not b ≡ true → b ≡ false
not_true true h = cc
not_true false h = refl

-- bytes without a space aren't split
pub split_once-none : (xs : List ℕ) → list_all is_other xs ≡ true → split_once xs ≡ None
split_once-none [] h = refl
split_once-none (x ∷ xs) h =
    let parts = true_first (is_other x) (list_all is_other xs) h in
    let other : (x == 32) ≡ false = not_true (x == 32) parts.0 in
    rw other (ap (λ o. option_map (λ (p : List ℕ × List ℕ). (x ∷ p.0, p.1)) o) (split_once-none xs parts.1))

-- the first space splits them
pub split_once-at : (xs : List ℕ) (b : ℕ) (ys : List ℕ) → list_all is_other xs ≡ true → (b == 32) ≡ true
    → split_once (xs ++ b ∷ ys) ≡ Some (xs, ys)
split_once-at [] b ys h is = rw is refl
split_once-at (x ∷ xs) b ys h is =
    let parts = true_first (is_other x) (list_all is_other xs) h in
    let other : (x == 32) ≡ false = not_true (x == 32) parts.0 in
    rw other (ap (λ o. option_map (λ (p : List ℕ × List ℕ). (x ∷ p.0, p.1)) o) (split_once-at xs b ys parts.1 is))
