-- Each line is, by the grammar, exactly what is computed of it.
use Rattle.std.proofs.Common.{◌≡◌, ℕ, ◌^◌, ◌<◌, Bool, true, false, ◌==◌, ◌&&◌, nat_lt, nat_le, List, [], ◌∷◌, ◌++◌, length, refl, sym, ap, ◌∙◌, append-nil, arith}
use Rattle.std.proofs.lemmas.Bool.Decides.{nat_tests}
use Rattle.std.proofs.lemmas.List.Folds.{list_all-append}
use Rattle.std.specs.List.{list_all}
use Rattle.std.specs.Char.{is_ascii_digit}
use Rattle.std.specs.Str.Parse.{digits_value}
use Rattle.idfiles.specs.Limits.{most_digits}
use Rattle.idfiles.specs.Grammar.{cr, is_blank, IsEnding, IsBlankLine, WritesId, IsIdLine}
use Rattle.idfiles.specs.Lines.{without_cr, behind_blanks, before_blanks, is_id, judged, line_of}
use Rattle.idfiles.specs.Machine.{IsAfter, after_bytes, at_end}
use Rattle.idfiles.specs.declared.line.Line.{Line}
use Rattle.idfiles.specs.declared.line.Line.TheVariants as line
use Rattle.idfiles.specs.declared.line.LineState.{LineState}
use Rattle.idfiles.specs.declared.line.LineState.TheVariants.{Blank, Digits, Behind}
use Rattle.idfiles.proofs.LawLine.{reads}
use Rattle.idfiles.proofs.LawRun.{both, blank_blanks, behind_blanks_kept, blank_digits}
use Rattle.idfiles.proofs.LawScan.{after_bytes-append}

-- a CR, or nothing, at the end of a state that stands for the line
ends_blank : (ending : List ℕ) → IsEnding ending → at_end (after_bytes Blank ending) ≡ line.Blank
ends_blank [] h = refl
ends_blank (b ∷ bytes) h = rw (h.0, h.1) refl

ends_digits : (count v : ℕ) (ending : List ℕ) → IsEnding ending → at_end (after_bytes (Digits count v) ending) ≡ line.Id v
ends_digits count v [] h = refl
ends_digits count v (b ∷ bytes) h = rw (h.0, h.1) refl

ends_behind : (v : ℕ) (ending : List ℕ) → IsEnding ending → at_end (after_bytes (Behind v) ending) ≡ line.Id v
ends_behind v [] h = refl
ends_behind v (b ∷ bytes) h = rw (h.0, h.1) refl

ends_id : (count v : ℕ) (after ending : List ℕ) → list_all is_blank after ≡ true → IsEnding ending
    → at_end (after_bytes (after_bytes (Digits count v) after) ending) ≡ line.Id v
ends_id count v [] ending blank h = ends_digits count v ending h
ends_id count v (b ∷ bytes) ending blank h =
    let parts = both (is_blank b) (list_all is_blank bytes) blank in
    let none : is_ascii_digit b ≡ false = grind (arith, nat_tests) in
    rw (none, parts.0, behind_blanks_kept v bytes parts.1) (ends_behind v ending h)

-- a blank line is computed to be one
blank_line : (text : List ℕ) → IsBlankLine text → line_of text ≡ line.Blank
blank_line text h =
    sym (reads text) ∙ ap (λ t. at_end (after_bytes Blank t)) h.is ∙ ap at_end (after_bytes-append Blank h.blanks h.ending)
    ∙ ap (λ s. at_end (after_bytes s h.ending)) (blank_blanks h.blanks h.blank) ∙ ends_blank h.ending h.ends

-- a line that writes an id is computed to be this id
id_line : (text : List ℕ) (id : ℕ) → WritesId text id → line_of text ≡ line.Id id
id_line text id h =
    let first = after_bytes-append Blank (h.before ++ h.digits ++ h.after) h.ending in
    let second = after_bytes-append Blank (h.before ++ h.digits) h.after in
    let third = after_bytes-append Blank h.before h.digits in
    let digits = blank_digits h.digits h.count.0 h.count.1 h.decimal (omega (arith, h.value, h.fits)) in
    sym (reads text) ∙ ap (λ t. at_end (after_bytes Blank t)) h.is
    ∙ rw (first, second, third, blank_blanks h.before h.blank_before, digits)
    (ends_id (length h.digits) (digits_value 10 h.digits) h.after h.ending h.blank_after h.ends)
    ∙ ap line.Id h.value

-- what was dropped at the end is a CR, or nothing
record DropsCr (xs : List ℕ) : Type 0 where
  ending : List ℕ
  is : xs ≡ without_cr xs ++ ending
  ends : IsEnding ending

drops_cr : (xs : List ℕ) → DropsCr xs
drops_cr [] = record { ending = []; is = refl; ends = tt }
drops_cr (x ∷ xs) = go (x == cr) refl xs (drops_cr xs) where
  go : (back : Bool) → (x == cr) ≡ back → (xs : List ℕ) → DropsCr xs → DropsCr (x ∷ xs)
  go true e [] rest = record { ending = x ∷ []; is = rw e refl; ends = (grind (arith, nat_tests), refl) }
  go true e (y ∷ ys) rest = record { ending = rest.ending; is = rw e (ap (λ l. x ∷ l) rest.is); ends = rest.ends }
  go false e ys rest = record { ending = rest.ending; is = rw e (ap (λ l. x ∷ l) rest.is); ends = rest.ends }

-- what was dropped behind are blanks
record DropsAfter (xs : List ℕ) : Type 0 where
  blanks : List ℕ
  is : xs ≡ before_blanks xs ++ blanks
  blank : list_all is_blank blanks ≡ true

drops_after : (xs : List ℕ) → DropsAfter xs
drops_after [] = record { blanks = []; is = refl; blank = refl }
drops_after (x ∷ xs) = go (is_blank x) refl (before_blanks xs) refl (drops_after xs) where
  go : (empty : Bool) → is_blank x ≡ empty → (kept : List ℕ) → before_blanks xs ≡ kept → DropsAfter xs → DropsAfter (x ∷ xs)
  go true e [] k rest = record { blanks = x ∷ rest.blanks; is = rw (e, k) (ap (λ l. x ∷ l) (rw k at rest.is)); blank = rw e rest.blank }
  go true e (y ∷ ys) k rest = record { blanks = rest.blanks; is = rw (e, k) (ap (λ l. x ∷ l) (rw k at rest.is)); blank = rest.blank }
  go false e kept k rest = record { blanks = rest.blanks; is = rw e (ap (λ l. x ∷ l) rest.is); blank = rest.blank }

-- what was dropped in front are blanks
record DropsBefore (xs : List ℕ) : Type 0 where
  blanks : List ℕ
  is : xs ≡ blanks ++ behind_blanks xs
  blank : list_all is_blank blanks ≡ true

drops_before : (xs : List ℕ) → DropsBefore xs
drops_before [] = record { blanks = []; is = refl; blank = refl }
drops_before (x ∷ xs) = go (is_blank x) refl (drops_before xs) where
  go : (empty : Bool) → is_blank x ≡ empty → DropsBefore xs → DropsBefore (x ∷ xs)
  go true e rest = record { blanks = x ∷ rest.blanks; is = rw e (ap (λ l. x ∷ l) rest.is); blank = rw e rest.blank }
  go false e rest = record { blanks = []; is = rw e refl; blank = refl }

-- a line round what is left of it
record Trimmed (text rest : List ℕ) : Type 0 where
  before : List ℕ
  after : List ℕ
  ending : List ℕ
  is : text ≡ before ++ rest ++ after ++ ending
  blank_before : list_all is_blank before ≡ true
  blank_after : list_all is_blank after ≡ true
  ends : IsEnding ending

trimmed : (text : List ℕ) → Trimmed text (behind_blanks (before_blanks (without_cr text)))
trimmed text =
    let end = drops_cr text in
    let back = drops_after (without_cr text) in
    let front = drops_before (before_blanks (without_cr text)) in
    record {
      before = front.blanks;
      after = back.blanks;
      ending = end.ending;
      is = end.is ∙ ap (λ l. l ++ end.ending) (back.is ∙ ap (λ l. l ++ back.blanks) front.is);
      blank_before = front.blank;
      blank_after = back.blank;
      ends = end.ends;
    }

-- nothing is left of a line that is computed to be blank
judged-blank : (rest : List ℕ) → judged rest ≡ line.Blank → rest ≡ []
judged-blank [] h = refl
judged-blank (b ∷ rest) h = go (is_id (b ∷ rest)) refl where
  go : (fits : Bool) → is_id (b ∷ rest) ≡ fits → b ∷ rest ≡ []
  go true e = let f = rw e at h in cc
  go false e = let f = rw e at h in cc

-- digits are left of a line that is computed to be an id
judged-id : (rest : List ℕ) (id : ℕ) → judged rest ≡ line.Id id → (0 < length rest) × (is_id rest ≡ true) × (digits_value 10 rest ≡ id)
judged-id [] id h = cc
judged-id (b ∷ rest) id h = go (is_id (b ∷ rest)) refl where
  go : (fits : Bool) → is_id (b ∷ rest) ≡ fits → (0 < length (b ∷ rest)) × (is_id (b ∷ rest) ≡ true) × (digits_value 10 (b ∷ rest) ≡ id)
  go true e = let f = rw e at h in (omega arith, e, cc)
  go false e = let f = rw e at h in cc

reads_blank : (text : List ℕ) → line_of text ≡ line.Blank → IsBlankLine text
reads_blank text h =
    let t = trimmed text in
    let none = judged-blank (behind_blanks (before_blanks (without_cr text))) h in
    record {
      blanks = t.before ++ t.after;
      ending = t.ending;
      is = t.is ∙ rw (none, append-nil t.before) refl;
      blank = list_all-append is_blank t.before t.after ∙ rw (t.blank_before, t.blank_after) refl;
      ends = t.ends;
    }

reads_id : (text : List ℕ) (id : ℕ) → line_of text ≡ line.Id id → WritesId text id
reads_id text id h =
    let t = trimmed text in
    let rest = behind_blanks (before_blanks (without_cr text)) in
    let is = judged-id rest id h in
    let all = both (list_all is_ascii_digit rest && nat_le (length rest) most_digits) (nat_lt (digits_value 10 rest) (2 ^ 64)) is.1 in
    let digits = both (list_all is_ascii_digit rest) (nat_le (length rest) most_digits) all.0 in
    record {
      before = t.before;
      digits = rest;
      after = t.after;
      ending = t.ending;
      is = t.is;
      blank_before = t.blank_before;
      decimal = digits.0;
      count = (is.0, grind (arith, nat_tests));
      value = is.2;
      fits = grind (arith, nat_tests);
      blank_after = t.blank_after;
      ends = t.ends;
    }

-- what is computed of a line holds by the grammar
pub reads_line_is : (is : Line) (text : List ℕ) → line_of text ≡ is → IsIdLine text is
reads_line_is line.Blank text h = reads_blank text h
reads_line_is (line.Id id) text h = reads_id text id h
reads_line_is line.Bad text h = (λ blank. let e = blank_line text blank in cc, λ id writes. let e = id_line text id writes in cc)

not_bad : (is : Line) (text : List ℕ) → IsIdLine text line.Bad → line_of text ≡ is → line_of text ≡ line.Bad
not_bad line.Blank text h e = absurd (h.0 (reads_blank text e))
not_bad (line.Id id) text h e = absurd (h.1 id (reads_id text id e))
not_bad line.Bad text h e = e

-- what a line is by the grammar is computed of it
pub line_is : (is : Line) (text : List ℕ) → IsIdLine text is → line_of text ≡ is
line_is line.Blank text h = blank_line text h
line_is (line.Id id) text h = id_line text id h
line_is line.Bad text h = not_bad (line_of text) text h refl

-- what a line is, from its last state
pub ends_as : (state : LineState) (is : Line) (text : List ℕ) → at_end state ≡ is → IsAfter text state → IsIdLine text is
ends_as state is text e after = reads_line_is is text (sym (reads text) ∙ sym (ap at_end after) ∙ e)
