-- The status and the line of each ending.
use Rattle.std.specs.Prelude.{ℕ, List, [], ◌++◌, codes, decimal, Result, Ok, Err}
use Rattle.certify.specs.declared.verdict.Verdict.{Verdict}
use Rattle.certify.specs.declared.verdict.Verdict.TheVariants.{Legal, Unknown, Repeated, Early, Wrong, Missing}
use Rattle.certify.specs.declared.fault.Fault.{Fault}
use Rattle.certify.specs.declared.fault.Fault.TheVariants.{NoMemory, BadWords, BadLine, Read, Write, TooLong}

-- the line that tells the verdict on so many calls
abbrev pub text_of : ℕ → Verdict → List ℕ
text_of calls Legal = codes "legal " ++ decimal calls ++ codes "\n"
text_of calls (Unknown place) = codes "place " ++ decimal place ++ codes " unknown\n"
text_of calls (Repeated place) = codes "place " ++ decimal place ++ codes " repeated\n"
text_of calls (Early place) = codes "place " ++ decimal place ++ codes " early\n"
text_of calls (Wrong place) = codes "place " ++ decimal place ++ codes " answer\n"
text_of calls (Missing number) = codes "call " ++ decimal number ++ codes " missing\n"

-- the status of a fault
abbrev pub status_of_fault : Fault → ℕ
status_of_fault NoMemory = 1
status_of_fault BadWords = 2
status_of_fault (BadLine line) = 3
status_of_fault Read = 4
status_of_fault Write = 5
status_of_fault TooLong = 6

-- the status of a verdict: 0 where it is legal, else 7
abbrev pub status_of_verdict : Verdict → ℕ
status_of_verdict Legal = 0
status_of_verdict other = 7

-- the status of an ending
abbrev pub status_of : Result Verdict Fault → ℕ
status_of (Ok verdict) = status_of_verdict verdict
status_of (Err fault) = status_of_fault fault

-- the line that tells a fault
abbrev pub line_of : Fault → List ℕ
line_of NoMemory = codes "certify: out of memory\n"
line_of BadWords = codes "certify: bad words\n"
line_of (BadLine line) = codes "certify: bad line " ++ decimal line ++ codes "\n"
line_of Read = codes "certify: read fault\n"
line_of Write = codes "certify: write fault\n"
line_of TooLong = codes "certify: too long\n"

-- the fault line of an ending, nothing where it has a verdict
abbrev pub line_of_ending : Result Verdict Fault → List ℕ
line_of_ending (Ok verdict) = []
line_of_ending (Err fault) = line_of fault
