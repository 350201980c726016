-- The lines of each file are, by the grammar, exactly those that are computed of it.
use Rattle.std.proofs.Common.{◌≡◌, inl, inr, ℕ, Bool, true, false, ◌==◌, List, [], ◌∷◌, ◌++◌, refl, sym, ap, ap₂, ◌∙◌, subst, append_assoc, append-nil, arith}
use Rattle.std.proofs.lemmas.Bool.Decides.{nat_tests}
use Rattle.std.proofs.lemmas.List.Folds.{list_all-append}
use Rattle.std.specs.List.{list_all}
use Rattle.idfiles.specs.Grammar.{lf, is_inner, IsLastLine, IdFile}
use Rattle.idfiles.specs.Lines.{line_of, ended_from, unended_from, last_line, lines_of}
use Rattle.idfiles.specs.declared.line.Line.{Line}
use Rattle.idfiles.proofs.LawGrammar.{reads_line_is, line_is}
use Rattle.idfiles.proofs.LawIds.{ended_from-inner, unended_from-inner}

-- the lines where a line has begun with the text
abbrev lines_from : List ℕ → List ℕ → List Line
lines_from text bytes = ended_from text bytes ++ last_line (unended_from text bytes)

last : (text : List ℕ) → list_all is_inner text ≡ true → IdFile text (last_line text)
last [] inner = refl
last (b ∷ text) inner = inr (
  record { some = omega arith; inner = inner; line_is = reads_line_is (line_of (b ∷ text)) (b ∷ text) refl },
  refl,
)

file_byte : (text : List ℕ) (b : ℕ) (bytes : List ℕ) (ends : Bool) → (b == lf) ≡ ends → list_all is_inner text ≡ true
    → ((text : List ℕ) → list_all is_inner text ≡ true → IdFile (text ++ bytes) (lines_from text bytes))
    → IdFile (text ++ b ∷ bytes) (lines_from text (b ∷ bytes))
file_byte text b bytes true e inner rest =
    let is : b ≡ lf = grind (arith, nat_tests) in
    rw e (inl (record {
      text = text;
      rest = bytes;
      is = ap (λ (x : ℕ). text ++ x ∷ bytes) is;
      inner = inner;
      line_is = reads_line_is (line_of text) text refl;
      rest_is = rest [] refl;
    }))
file_byte text b bytes false e inner rest =
    let more : list_all is_inner (text ++ b ∷ []) ≡ true = list_all-append is_inner text (b ∷ []) ∙ rw (inner, e) refl in
    rw e (subst (λ xs. IdFile xs (lines_from (text ++ b ∷ []) bytes)) (append_assoc text (b ∷ []) bytes) (rest (text ++ b ∷ []) more))

file_from : (bytes text : List ℕ) → list_all is_inner text ≡ true → IdFile (text ++ bytes) (lines_from text bytes)
file_from [] text inner = rw append-nil (last text inner)
file_from (b ∷ bytes) text inner = file_byte text b bytes (b == lf) refl inner (file_from bytes)

-- what is computed of a file holds by the grammar
pub file_has : (bytes : List ℕ) (lines : List Line) → lines_of bytes ≡ lines → IdFile bytes lines
file_has bytes lines is = subst (IdFile bytes) is (file_from bytes [] refl)

lines_of-last : (bytes : List ℕ) (is : Line) → IsLastLine bytes is → lines_of bytes ≡ is ∷ []
lines_of-last [] is h = absurd (omega (arith, h.some))
lines_of-last (b ∷ bytes) is h =
    let all = b ∷ bytes in
    let none : ended_from [] all ≡ [] = ap (ended_from []) (sym (append-nil all)) ∙ ended_from-inner all [] [] h.inner in
    let whole : unended_from [] all ≡ all = ap (unended_from []) (sym (append-nil all)) ∙ unended_from-inner all [] [] h.inner in
    ap₂ (λ ended text. ended ++ last_line text) none whole ∙ ap (λ l. l ∷ []) (line_is is all h.line_is)

lines_of-first : (bytes text rest : List ℕ) → bytes ≡ text ++ lf ∷ rest → list_all is_inner text ≡ true
    → lines_of bytes ≡ line_of text ∷ lines_of rest
lines_of-first bytes text rest is inner =
    ap lines_of is
    ∙ ap₂ (λ ended text. ended ++ last_line text) (ended_from-inner text (lf ∷ rest) [] inner)
    (unended_from-inner text (lf ∷ rest) [] inner)

-- what a file has by the grammar is computed of it
pub lines_are : (lines : List Line) (bytes : List ℕ) → IdFile bytes lines → lines_of bytes ≡ lines
lines_are [] bytes h = ap lines_of h
lines_are (is ∷ lines) bytes (inl h) =
    lines_of-first bytes h.text h.rest h.is h.inner ∙ ap₂ ◌∷◌ (line_is is h.text h.line_is) (lines_are lines h.rest h.rest_is)
lines_are (is ∷ lines) bytes (inr h) = lines_of-last bytes is h.0 ∙ ap (λ ls. is ∷ ls) (sym h.1)
