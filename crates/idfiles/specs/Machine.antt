-- What the bytes of a line so far are, one byte after the other.
use Rattle.std.specs.Prelude.{◌≡◌, ℕ, ◌+◌, ◌-◌, ◌*◌, ◌^◌, ◌&&◌, ◌==◌, nat_lt, if◌then◌else◌, List, [], ◌∷◌, Option, None, Some}
use Rattle.std.specs.Char.{is_ascii_digit}
use Rattle.idfiles.specs.Grammar.{is_blank, cr}
use Rattle.idfiles.specs.Limits.{most_digits}
use Rattle.idfiles.specs.declared.front.ByteKind.{ByteKind}
use Rattle.idfiles.specs.declared.front.ByteKind.TheVariants as kind
use Rattle.idfiles.specs.declared.line.Line.{Line}
use Rattle.idfiles.specs.declared.line.Line.TheVariants as line
use Rattle.idfiles.specs.declared.line.LineState.{LineState}
use Rattle.idfiles.specs.declared.line.LineState.TheVariants.{Blank, Digits, Behind, BlankCr, IdCr, Bad}

-- digits and one more: as many as an id may have, with a value below 2 ^ 64
abbrev pub with_digit : ℕ → ℕ → ℕ → LineState
with_digit count value b =
    let more = value * 10 + (b - 48) in
    if nat_lt count most_digits && nat_lt more (2 ^ 64) then Digits (count + 1) more else Bad

-- the state of the line once this byte has come
abbrev pub after_byte : LineState → ℕ → LineState
after_byte Blank b =
    if is_blank b then Blank
    else (if is_ascii_digit b then Digits 1 (b - 48) else (if b == cr then BlankCr else Bad))
after_byte (Digits count value) b =
    if is_ascii_digit b then with_digit count value b
    else (if is_blank b then Behind value else (if b == cr then IdCr value else Bad))
after_byte (Behind value) b =
    if is_blank b then Behind value else (if b == cr then IdCr value else Bad)
after_byte BlankCr b = Bad
after_byte (IdCr value) b = Bad
after_byte Bad b = Bad

-- the bytes that change nothing
abbrev pub keeps_at : LineState → Option ByteKind
keeps_at Blank = Some kind.Blank
keeps_at (Behind value) = Some kind.Blank
keeps_at Bad = Some kind.Inner
keeps_at (Digits count value) = None
keeps_at BlankCr = None
keeps_at (IdCr value) = None

-- the state once these bytes have come, in order
abbrev pub after_bytes : LineState → List ℕ → LineState
after_bytes state [] = state
after_bytes state (b ∷ bytes) = after_bytes (after_byte state b) bytes

-- what the line is if it ends here
abbrev pub at_end : LineState → Line
at_end Blank = line.Blank
at_end BlankCr = line.Blank
at_end (Digits count value) = line.Id value
at_end (Behind value) = line.Id value
at_end (IdCr value) = line.Id value
at_end Bad = line.Bad

-- the state of a line that has begun with these bytes
abbrev pub IsAfter : List ℕ → LineState → Type 0
IsAfter bytes state = state ≡ after_bytes Blank bytes
