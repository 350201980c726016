-- The grammar of id files: what a line is, and which lines the bytes of a file are.
use Rattle.std.specs.Prelude.{◌≡◌, ◌⊎◌, ℕ, ◌^◌, ◌<◌, ◌≤◌, Bool, true, not, ◌||◌, ◌==◌, List, [], ◌∷◌, ◌++◌, length}
use Rattle.std.specs.List.{list_all}
use Rattle.std.specs.Char.{is_ascii_digit}
use Rattle.std.specs.Str.Parse.{digits_value}
use Rattle.idfiles.specs.Limits.{most_digits}
use Rattle.idfiles.specs.declared.line.Line.{Line}
use Rattle.idfiles.specs.declared.line.Line.TheVariants.{Blank, Id, Bad}

-- a line feed, which ends a line
abbrev pub lf : ℕ
lf = 10

-- a carriage return, of which one may stand at the very end of a line
abbrev pub cr : ℕ
cr = 13

-- a space or a tab
abbrev pub is_blank : ℕ → Bool
is_blank b = b == 32 || b == 9

-- a byte within a line
abbrev pub is_inner : ℕ → Bool
is_inner b = not (b == lf)

-- nothing, or one CR
abbrev pub IsEnding : List ℕ → Type 0
IsEnding [] = Unit {0}
IsEnding (b ∷ bytes) = (b ≡ cr) × (bytes ≡ [])

-- the line has blanks alone, or nothing
pub record IsBlankLine (text : List ℕ) : Type 0 where
  pub blanks : List ℕ
  pub ending : List ℕ
  pub is : text ≡ blanks ++ ending
  pub blank : list_all is_blank blanks ≡ true
  pub ends : IsEnding ending

-- the line writes the id: its digits, with blanks at both ends
pub record WritesId (text : List ℕ) (id : ℕ) : Type 0 where
  pub before : List ℕ
  pub digits : List ℕ
  pub after : List ℕ
  pub ending : List ℕ
  pub is : text ≡ before ++ digits ++ after ++ ending
  pub blank_before : list_all is_blank before ≡ true
  pub decimal : list_all is_ascii_digit digits ≡ true
  pub count : (0 < length digits) × (length digits ≤ most_digits)
  pub value : digits_value 10 digits ≡ id
  pub fits : id < 2 ^ 64
  pub blank_after : list_all is_blank after ≡ true
  pub ends : IsEnding ending

-- what a whole line is, its LF left out
abbrev pub IsIdLine : List ℕ → Line → Type 0
IsIdLine text Blank = IsBlankLine text
IsIdLine text (Id id) = WritesId text id
IsIdLine text Bad = (IsBlankLine text → ⊥) × ((id : ℕ) → WritesId text id → ⊥)

-- the file begins with this line, which ends before an LF, and with the others behind it
pub record BeginsWith (bytes : List ℕ) (line : Line) (others : List ℕ → Type 0) : Type 0 where
  pub text : List ℕ
  pub rest : List ℕ
  pub is : bytes ≡ text ++ lf ∷ rest
  pub inner : list_all is_inner text ≡ true
  pub line_is : IsIdLine text line
  pub rest_is : others rest

-- the bytes behind the last LF are this line
pub record IsLastLine (bytes : List ℕ) (line : Line) : Type 0 where
  pub some : 0 < length bytes
  pub inner : list_all is_inner bytes ≡ true
  pub line_is : IsIdLine bytes line

-- the file has these lines
abbrev pub IdFile : List ℕ → List Line → Type 0
IdFile bytes [] = bytes ≡ []
IdFile bytes (line ∷ lines) =
    BeginsWith bytes line (λ rest. IdFile rest lines) ⊎ (IsLastLine bytes line × (lines ≡ []))
