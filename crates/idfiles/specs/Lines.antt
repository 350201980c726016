-- The lines of a file as a function of its bytes, the records that they give, and the first fault.
use Rattle.std.specs.Prelude.{ℕ, ◌+◌, ◌-◌, ◌^◌, Bool, true, false, ◌&&◌, ◌==◌, nat_lt, nat_le, if◌then◌else◌, List, [], ◌∷◌, ◌++◌, length, take, Option, None, Some}
use Rattle.std.specs.List.{list_all}
use Rattle.std.specs.Char.{is_ascii_digit}
use Rattle.std.specs.Str.Parse.{digits_value}
use Rattle.std.specs.Option.{option_or}
use Rattle.idfiles.specs.Grammar.{lf, cr, is_blank}
use Rattle.idfiles.specs.Limits.{most_bytes, most_digits}
use Rattle.idfiles.specs.declared.line.Line.{Line}
use Rattle.idfiles.specs.declared.line.Line.TheVariants.{Blank, Id, Bad}
use Rattle.idfiles.specs.declared.id_record.IdRecord.{IdRecord}
use Rattle.idfiles.specs.declared.fault.IdFault.{IdFault}
use Rattle.idfiles.specs.declared.fault.IdFault.TheVariants.{BadLine, TooLong, TooMany}

-- whether there is no byte
abbrev pub is_empty : List ℕ → Bool
is_empty [] = true
is_empty (b ∷ bytes) = false

-- one CR at the end is dropped
abbrev pub without_cr : List ℕ → List ℕ
without_cr [] = []
without_cr (b ∷ bytes) = if b == cr && is_empty bytes then [] else b ∷ without_cr bytes

-- blanks in front are dropped
abbrev pub behind_blanks : List ℕ → List ℕ
behind_blanks [] = []
behind_blanks (b ∷ bytes) = if is_blank b then behind_blanks bytes else b ∷ bytes

-- blanks at the end are dropped
abbrev pub before_blanks : List ℕ → List ℕ
before_blanks [] = []
before_blanks (b ∷ bytes) =
    if is_blank b && is_empty (before_blanks bytes) then [] else b ∷ before_blanks bytes

-- digits, no more than an id may have, whose value fits 64 bits
abbrev pub is_id : List ℕ → Bool
is_id rest =
    list_all is_ascii_digit rest && nat_le (length rest) most_digits
    && nat_lt (digits_value 10 rest) (2 ^ 64)

-- what is left of a line: nothing, an id, or a bad line
abbrev pub judged : List ℕ → Line
judged [] = Blank
judged (b ∷ rest) = if is_id (b ∷ rest) then Id (digits_value 10 (b ∷ rest)) else Bad

-- what a whole line is, its LF left out: a CR at the end is dropped, then blanks at both ends
abbrev pub line_of : List ℕ → Line
line_of line = judged (behind_blanks (before_blanks (without_cr line)))

-- the lines that an LF ends, where the first of them has begun with `text` already
abbrev pub ended_from : List ℕ → List ℕ → List Line
ended_from text [] = []
ended_from text (b ∷ bytes) =
    if b == lf then line_of text ∷ ended_from [] bytes else ended_from (text ++ b ∷ []) bytes

-- the bytes behind the last LF, where `text` stands before the bytes
abbrev pub unended_from : List ℕ → List ℕ → List ℕ
unended_from text [] = text
unended_from text (b ∷ bytes) =
    if b == lf then unended_from [] bytes else unended_from (text ++ b ∷ []) bytes

-- bytes behind the last LF, if any, are a last line
abbrev pub last_line : List ℕ → List Line
last_line [] = []
last_line (b ∷ text) = line_of (b ∷ text) ∷ []

-- the lines of a file
abbrev pub lines_of : List ℕ → List Line
lines_of bytes = ended_from [] bytes ++ last_line (unended_from [] bytes)

-- the records of lines, of which the first has this number
abbrev pub records_from : ℕ → ℕ → List Line → List IdRecord
records_from file number [] = []
records_from file number (Blank ∷ lines) = records_from file (number + 1) lines
records_from file number (Bad ∷ lines) = records_from file (number + 1) lines
records_from file number (Id id ∷ lines) =
    record { file = file; line = number; id = id } ∷ records_from file (number + 1) lines

-- the records of a file, in order of line
abbrev pub records_of : ℕ → List ℕ → List IdRecord
records_of file bytes = records_from file 1 (lines_of bytes)

-- the first fault of lines, of which the first has this number: a bad line, or one record more than
-- there is room for
abbrev pub line_fault : ℕ → ℕ → ℕ → List Line → Option IdFault
line_fault file room number [] = None
line_fault file room number (Blank ∷ lines) = line_fault file room (number + 1) lines
line_fault file room number (Bad ∷ lines) = Some (BadLine file number)
line_fault file room number (Id id ∷ lines) =
    if room == 0 then Some TooMany else line_fault file (room - 1) (number + 1) lines

-- The first fault of a file of which at most `limit` bytes are judged. In a longer one the end of
-- the last line isn't met, and the byte behind the limit is a fault.
unfoldable pub fault_within : ℕ → ℕ → ℕ → List ℕ → Option IdFault
fault_within limit file room bytes =
    if nat_le (length bytes) limit then line_fault file room 1 (lines_of bytes)
    else option_or (line_fault file room 1 (ended_from [] (take limit bytes))) (Some (TooLong file))

-- the first fault of a file, in the order of its bytes
unfoldable pub first_fault : ℕ → ℕ → List ℕ → Option IdFault
first_fault file room bytes = fault_within most_bytes file room bytes
