-- The lines of a file, the first of them cut off.
use Rattle.std.proofs.Common.{◌≡◌, ℕ, ◌<◌, ◌==◌, Bool, true, false, not, List, [], ◌∷◌, ◌++◌, length, refl, sym, ap, ◌∙◌, append_assoc, append-nil, arith}
use Rattle.std.specs.List.{list_all}
use Rattle.certify.specs.Trim.{lf, cut_from, cut_lines}
use Rattle.certify.proofs.LawTrim.{true_first, not_true}

-- a byte that is no LF
abbrev pub is_inner : ℕ → Bool
is_inner b = not (b == lf)

-- bytes without an LF go on with the line
cut_from-inner : (xs ys text : List ℕ) → list_all is_inner xs ≡ true → cut_from text (xs ++ ys) ≡ cut_from (text ++ xs) ys
cut_from-inner [] ys text h = ap (λ t. cut_from t ys) (sym (append-nil text))
cut_from-inner (x ∷ xs) ys text h =
    let parts = true_first (is_inner x) (list_all is_inner xs) h in
    let other : (x == lf) ≡ false = not_true (x == lf) parts.0 in
    rw other (cut_from-inner xs ys (text ++ x ∷ []) parts.1 ∙ ap (λ t. cut_from t ys) (append_assoc text (x ∷ []) xs))

-- the first LF ends the first line
pub cut_lines-at : (xs : List ℕ) (b : ℕ) (ys : List ℕ) → list_all is_inner xs ≡ true → (b == lf) ≡ true
    → cut_lines (xs ++ b ∷ ys) ≡ xs ∷ cut_lines ys
cut_lines-at xs b ys inner is = cut_from-inner xs (b ∷ ys) [] inner ∙ rw is refl

-- bytes without an LF are the last line
pub cut_lines-last : (xs : List ℕ) → 0 < length xs → list_all is_inner xs ≡ true → cut_lines xs ≡ xs ∷ []
cut_lines-last [] some inner = absurd (omega arith)
cut_lines-last (x ∷ xs) some inner =
    ap cut_lines (sym (append-nil (x ∷ xs))) ∙ cut_from-inner (x ∷ xs) [] [] inner
