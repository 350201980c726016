-- The lines of a file, and what is left of a line.
use Rattle.std.specs.Prelude.{ℕ, Bool, true, false, ◌&&◌, ◌||◌, ◌==◌, if◌then◌else◌, List, [], ◌∷◌, ◌++◌}

-- a line feed, which ends a line
abbrev pub lf : ℕ
lf = 10

-- a carriage return, of which one is dropped at the very end of a line
abbrev pub cr : ℕ
cr = 13

-- a space or a tab
abbrev pub is_blank : ℕ → Bool
is_blank b = b == 32 || b == 9

-- whether there is no byte
abbrev pub is_empty : List ℕ → Bool
is_empty [] = true
is_empty (b ∷ bytes) = false

-- one CR at the end is dropped
abbrev pub without_cr : List ℕ → List ℕ
without_cr [] = []
without_cr (b ∷ bytes) = if b == cr && is_empty bytes then [] else b ∷ without_cr bytes

-- blanks in front are dropped
abbrev pub behind_blanks : List ℕ → List ℕ
behind_blanks [] = []
behind_blanks (b ∷ bytes) = if is_blank b then behind_blanks bytes else b ∷ bytes

-- blanks at the end are dropped
abbrev pub before_blanks : List ℕ → List ℕ
before_blanks [] = []
before_blanks (b ∷ bytes) =
    if is_blank b && is_empty (before_blanks bytes) then [] else b ∷ before_blanks bytes

-- what is left of a line: a CR at the end is dropped, then blanks at both ends
abbrev pub trimmed : List ℕ → List ℕ
trimmed text = behind_blanks (before_blanks (without_cr text))

-- the lines, of which the first has begun with `text`: one ends before each LF, and bytes behind
-- the last LF, if any, are a last line
abbrev pub cut_from : List ℕ → List ℕ → List (List ℕ)
cut_from text [] = if is_empty text then [] else text ∷ []
cut_from text (b ∷ bytes) =
    if b == lf then text ∷ cut_from [] bytes else cut_from (text ++ b ∷ []) bytes

-- the lines of a file
abbrev pub cut_lines : List ℕ → List (List ℕ)
cut_lines bytes = cut_from [] bytes
