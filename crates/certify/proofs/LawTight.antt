-- What is left of a line is what it says, and no line says two things that begin and end with other bytes than blanks.
use Rattle.std.proofs.Common.{◌≡◌, ℕ, ◌==◌, Bool, true, false, ◌&&◌, List, [], ◌∷◌, ◌++◌, refl, sym, ap, ◌∙◌, append_assoc, append-nil, arith}
use Rattle.std.specs.List.{list_all}
use Rattle.std.proofs.lemmas.Bool.Decides.{nat_tests}
use Rattle.certify.specs.Trim.{cr, is_blank, is_empty, without_cr, behind_blanks, before_blanks, trimmed}
use Rattle.certify.specs.Grammar.{IsEnding, Spells}
use Rattle.certify.proofs.LawTrim.{true_first, without_cr-cr, without_cr-other, before_blanks-blank, before_blanks-other}

-- what is dropped at the end is at most a CR
pub record DropsCr (text : List ℕ) : Type 0 where
  pub ending : List ℕ
  pub is : text ≡ without_cr text ++ ending
  pub ends : IsEnding ending

none_left : (bytes : List ℕ) → is_empty bytes ≡ true → bytes ≡ []
none_left [] h = refl
none_left (b ∷ bytes) h = cc

drops_cr : (text : List ℕ) → DropsCr text
drops_cr [] = record { ending = []; is = refl; ends = tt }
drops_cr (b ∷ bytes) = go (drops_cr bytes) (b == cr && is_empty bytes) refl where
  go : DropsCr bytes → (test : Bool) → (b == cr && is_empty bytes) ≡ test → DropsCr (b ∷ bytes)
  go rest true e =
      let parts = true_first (b == cr) (is_empty bytes) e in
      let is_cr : (b == cr) ≡ true = parts.0 in
      record { ending = b ∷ bytes; is = rw e refl; ends = ((let c : b ≡ cr = grind (arith, nat_tests) in c), none_left bytes parts.1) }
  go rest false e = record { ending = rest.ending; is = rw e (ap (λ (t : List ℕ). b ∷ t) rest.is); ends = rest.ends }

-- what is dropped behind it are blanks
pub record DropsBehind (text : List ℕ) : Type 0 where
  pub after : List ℕ
  pub is : text ≡ before_blanks text ++ after
  pub blank : list_all is_blank after ≡ true

drops_behind : (text : List ℕ) → DropsBehind text
drops_behind [] = record { after = []; is = refl; blank = refl }
drops_behind (b ∷ bytes) = go (drops_behind bytes) (is_blank b && is_empty (before_blanks bytes)) refl where
  go : DropsBehind bytes → (test : Bool) → (is_blank b && is_empty (before_blanks bytes)) ≡ test → DropsBehind (b ∷ bytes)
  go rest true e =
      let parts = true_first (is_blank b) (is_empty (before_blanks bytes)) e in
      let none = none_left (before_blanks bytes) parts.1 in
      let is : bytes ≡ rest.after = rest.is ∙ ap (λ (t : List ℕ). t ++ rest.after) none in
      let blank : list_all is_blank bytes ≡ true = ap (list_all is_blank) is ∙ rest.blank in
      record { after = b ∷ bytes; is = rw e refl; blank = rw (parts.0, blank) refl }
  go rest false e = record { after = rest.after; is = rw e (ap (λ (t : List ℕ). b ∷ t) rest.is); blank = rest.blank }

-- and so is what is dropped in front
pub record DropsBefore (text : List ℕ) : Type 0 where
  pub before : List ℕ
  pub is : text ≡ before ++ behind_blanks text
  pub blank : list_all is_blank before ≡ true

drops_before : (text : List ℕ) → DropsBefore text
drops_before [] = record { before = []; is = refl; blank = refl }
drops_before (b ∷ bytes) = go (drops_before bytes) (is_blank b) refl where
  go : DropsBefore bytes → (test : Bool) → is_blank b ≡ test → DropsBefore (b ∷ bytes)
  go rest true e = record { before = b ∷ rest.before; is = rw e (ap (λ (t : List ℕ). b ∷ t) rest.is); blank = rw (e, rest.blank) refl }
  go rest false e = record { before = []; is = rw e refl; blank = refl }

-- a line says what is left of it
pub says_trimmed : (text : List ℕ) → Spells text (trimmed text)
says_trimmed text =
    let one = drops_cr text in
    let two = drops_behind (without_cr text) in
    let three = drops_before (before_blanks (without_cr text)) in
    record {
      before = three.before;
      after = two.after;
      ending = one.ending;
      is = one.is ∙ ap (λ (t : List ℕ). t ++ one.ending) (two.is ∙ ap (λ (t : List ℕ). t ++ two.after) three.is);
      blank_before = three.blank;
      blank_after = two.blank;
      ends = one.ends;
    }

-- it begins and ends with other bytes than blanks and CRs
pub record IsTight (rest : List ℕ) : Type 0 where
  pub first : ℕ
  pub tail : List ℕ
  pub begins : rest ≡ first ∷ tail
  pub first_other : is_blank first ≡ false
  pub front : List ℕ
  pub last : ℕ
  pub ends : rest ≡ front ++ last ∷ []
  pub last_other : is_blank last ≡ false
  pub no_cr : (last == cr) ≡ false

-- blanks behind bytes that end in no CR
keeps_blanks : (bytes blanks : List ℕ) → list_all is_blank blanks ≡ true → without_cr bytes ≡ bytes
    → without_cr (bytes ++ blanks) ≡ bytes ++ blanks
keeps_blanks bytes [] blank kept = ap without_cr (append-nil bytes) ∙ kept ∙ sym (append-nil bytes)
keeps_blanks bytes (b ∷ blanks) blank kept =
    let parts = true_first (is_blank b) (list_all is_blank blanks) blank in
    let is : is_blank b ≡ true = parts.0 in
    let other : (b == cr) ≡ false = grind (arith, nat_tests) in
    let more = keeps_blanks (bytes ++ b ∷ []) blanks parts.1 (without_cr-other bytes b other) in
    let joined = append_assoc bytes (b ∷ []) blanks in
    ap without_cr (sym joined) ∙ more ∙ joined

-- an ending behind them is dropped
drops_ending : (bytes ending : List ℕ) → IsEnding ending → without_cr bytes ≡ bytes → without_cr (bytes ++ ending) ≡ bytes
drops_ending bytes [] ends kept = ap without_cr (append-nil bytes) ∙ kept
drops_ending bytes (b ∷ ending) ends kept =
    let c : (b == cr) ≡ true = rw ends.0 refl in
    ap (λ (t : List ℕ). without_cr (bytes ++ b ∷ t)) ends.1 ∙ without_cr-cr bytes b c

-- blanks at the end are dropped, all of them
drops_blanks : (bytes blanks : List ℕ) → list_all is_blank blanks ≡ true → before_blanks (bytes ++ blanks) ≡ before_blanks bytes
drops_blanks bytes [] blank = ap before_blanks (append-nil bytes)
drops_blanks bytes (b ∷ blanks) blank =
    let parts = true_first (is_blank b) (list_all is_blank blanks) blank in
    ap before_blanks (sym (append_assoc bytes (b ∷ []) blanks))
    ∙ drops_blanks (bytes ++ b ∷ []) blanks parts.1 ∙ before_blanks-blank bytes b parts.0

-- and those in front
drops_first : (blanks bytes : List ℕ) → list_all is_blank blanks ≡ true → behind_blanks (blanks ++ bytes) ≡ behind_blanks bytes
drops_first [] bytes blank = refl
drops_first (b ∷ blanks) bytes blank =
    let parts = true_first (is_blank b) (list_all is_blank blanks) blank in
    rw parts.0 (drops_first blanks bytes parts.1)

module _ (text rest : List ℕ) (says : Spells text rest) where
  -- the ending goes first
  step_one : without_cr (says.before ++ rest) ≡ says.before ++ rest → without_cr text ≡ says.before ++ rest ++ says.after
  step_one kept =
      ap without_cr says.is
      ∙ drops_ending ((says.before ++ rest) ++ says.after) says.ending says.ends
      (keeps_blanks (says.before ++ rest) says.after says.blank_after kept)

  -- what a line says is left of it
  pub trimmed-tight : IsTight rest → trimmed text ≡ rest
  trimmed-tight tight =
      let whole : says.before ++ rest ≡ (says.before ++ tight.front) ++ tight.last ∷ [] =
      ap (λ (t : List ℕ). says.before ++ t) tight.ends ∙ sym (append_assoc says.before tight.front (tight.last ∷ [])) in
      let kept : without_cr (says.before ++ rest) ≡ says.before ++ rest =
      ap without_cr whole ∙ without_cr-other (says.before ++ tight.front) tight.last tight.no_cr ∙ sym whole in
      let closed : before_blanks (says.before ++ rest) ≡ says.before ++ rest =
      ap before_blanks whole ∙ before_blanks-other (says.before ++ tight.front) tight.last tight.last_other ∙ sym whole in
      let opened : behind_blanks rest ≡ rest =
      ap behind_blanks tight.begins ∙ (rw tight.first_other refl) ∙ sym tight.begins in
      ap (λ (t : List ℕ). behind_blanks (before_blanks t)) (step_one kept)
      ∙ ap behind_blanks (drops_blanks (says.before ++ rest) says.after says.blank_after ∙ closed)
      ∙ drops_first says.before rest says.blank_before ∙ opened

-- nothing is left of a line that says nothing
pub trimmed-nothing : (text : List ℕ) → Spells text [] → trimmed text ≡ []
trimmed-nothing text says =
    let only : says.before ++ [] ≡ says.before = append-nil says.before in
    let kept : without_cr (says.before ++ []) ≡ says.before ++ [] =
    ap without_cr only ∙ keeps_blanks [] says.before says.blank_before refl ∙ sym only in
    ap (λ (t : List ℕ). behind_blanks (before_blanks t)) (step_one text [] says kept)
    ∙ ap behind_blanks (drops_blanks (says.before ++ []) says.after says.blank_after ∙ ap before_blanks only
    ∙ drops_blanks [] says.before says.blank_before)
