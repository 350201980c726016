-- The log that the lines of a file are: calls, then the line `order`, then numbers.
use Rattle.std.specs.Prelude.{◌≡◌, ℕ, ◌+◌, Bool, true, false, List, [], ◌∷◌, ◌++◌, map, Option, None, Some, Result, Ok, Err}
use Rattle.certify.specs.Trim.{cut_lines}
use Rattle.certify.specs.Line.{line_of}
use Rattle.certify.specs.declared.claimed.Claimed.{Claimed}
use Rattle.certify.specs.declared.fault.Fault.{Fault}
use Rattle.certify.specs.declared.fault.Fault.TheVariants.{NoMemory, BadLine}
use Rattle.certify.specs.declared.log.Log.{Log}
use Rattle.certify.specs.declared.line.Line.{Line}
use Rattle.certify.specs.declared.line.Line.TheVariants.{Blank, Claim, Order, Number, Bad}

-- the lines of a file
abbrev pub lines_of : List ℕ → List Line
lines_of bytes = map line_of (cut_lines bytes)

-- The first bad line of lines of which the first has this number, before the line `order` or behind
-- it. Calls stand before it and numbers behind; where it is missing, the line past the last is bad.
abbrev pub bad_from : Bool → ℕ → List Line → Option ℕ
bad_from false number [] = Some number
bad_from true number [] = None
bad_from behind number (Blank ∷ lines) = bad_from behind (number + 1) lines
bad_from false number (Claim claimed ∷ lines) = bad_from false (number + 1) lines
bad_from true number (Claim claimed ∷ lines) = Some number
bad_from false number (Order ∷ lines) = bad_from true (number + 1) lines
bad_from true number (Order ∷ lines) = Some number
bad_from false number (Number at ∷ lines) = Some number
bad_from true number (Number at ∷ lines) = bad_from true (number + 1) lines
bad_from behind number (Bad ∷ lines) = Some number

-- the first bad line of a file, from 1
abbrev pub first_bad : List ℕ → Option ℕ
first_bad bytes = bad_from false 1 (lines_of bytes)

-- the calls of lines, in their order
abbrev pub calls_of : List Line → List Claimed
calls_of [] = []
calls_of (Claim claimed ∷ lines) = claimed ∷ calls_of lines
calls_of (Blank ∷ lines) = calls_of lines
calls_of (Order ∷ lines) = calls_of lines
calls_of (Number number ∷ lines) = calls_of lines
calls_of (Bad ∷ lines) = calls_of lines

-- the numbers of lines, in their order
abbrev pub numbers_of : List Line → List ℕ
numbers_of [] = []
numbers_of (Number number ∷ lines) = number ∷ numbers_of lines
numbers_of (Blank ∷ lines) = numbers_of lines
numbers_of (Order ∷ lines) = numbers_of lines
numbers_of (Claim claimed ∷ lines) = numbers_of lines
numbers_of (Bad ∷ lines) = numbers_of lines

-- one line more was taken into a log: whatever lines follow it, their calls, numbers and first bad
-- line are those that they are behind the lines before
pub record TakesLine (number : ℕ) (line : Line) (behind now_behind : Bool)
    (calls now_calls : List Claimed) (order now_order : List ℕ) : Type 0 where
  pub bad : (rest : List Line)
      → bad_from behind number (line ∷ rest) ≡ bad_from now_behind (number + 1) rest
  pub claims : (rest : List Line) → calls ++ calls_of (line ∷ rest) ≡ now_calls ++ calls_of rest
  pub numbers : (rest : List Line)
      → order ++ numbers_of (line ∷ rest) ≡ now_order ++ numbers_of rest

-- why a line isn't taken: for want of memory, or since it may not stand there
abbrev pub IsRefused : ℕ → Line → Bool → Fault → Type 0
IsRefused number line behind NoMemory = Unit {0}
IsRefused number line behind (BadLine bad) =
    (bad ≡ number) × ((rest : List Line) → bad_from behind number (line ∷ rest) ≡ Some number)
IsRefused number line behind other = ⊥

-- the log of a file's bytes, or its first bad line
abbrev pub ReadsLog : List ℕ → Result Log Fault → Type 0
ReadsLog bytes (Ok log) =
    (first_bad bytes ≡ None) × (log.calls.items ≡ calls_of (lines_of bytes))
    × (log.order.items ≡ numbers_of (lines_of bytes))
ReadsLog bytes (Err NoMemory) = Unit {0}
ReadsLog bytes (Err (BadLine line)) = first_bad bytes ≡ Some line
ReadsLog bytes (Err other) = ⊥
