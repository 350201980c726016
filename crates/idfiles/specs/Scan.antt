-- A file read from its front: what is kept of it, one byte after the other.
use Rattle.std.specs.Prelude.{◌≡◌, ℕ, ◌+◌, ◌-◌, ◌==◌, nat_le, if◌then◌else◌, List, [], ◌∷◌, ◌++◌, length, take, drop, Result, Ok, Err}
use Rattle.idfiles.specs.Grammar.{lf}
use Rattle.idfiles.specs.Machine.{after_byte, at_end}
use Rattle.idfiles.specs.declared.line.Line.{Line}
use Rattle.idfiles.specs.declared.line.Line.TheVariants as line
use Rattle.idfiles.specs.declared.line.LineState.TheVariants as state
use Rattle.idfiles.specs.declared.id_record.IdRecord.{IdRecord}
use Rattle.idfiles.specs.declared.fault.IdFault.{IdFault}
use Rattle.idfiles.specs.declared.fault.IdFault.TheVariants.{NoMemory, BadLine, ReadFault, TooLong, TooMany}
use Rattle.idfiles.specs.declared.scan.Fed.{Fed}
use Rattle.idfiles.specs.declared.scan.Scan.{Scan}

-- what reading gives: the scan and the records so far, or the fault that was met
abbrev pub Read : Type 0
Read = Result (Scan × List IdRecord) IdFault

-- reading goes on from the scan and the records so far, and a fault stays
infixl 10 ◌>>=◌
abbrev pub ◌>>=◌ : Read → (Scan × List IdRecord → Read) → Read
(Ok x) >>= f = f x
(Err e) >>= f = Err e

-- nothing is read yet
abbrev pub start : ℕ → ℕ → Scan
start file room = record { file = file; room = room; line = 1; state = state.Blank }

-- the next line
abbrev pub next_line : Scan → ℕ → Scan
next_line scan room =
    record { file = scan.file; room = room; line = scan.line + 1; state = state.Blank }

-- the line ends and is this: an id gives a record or finds no room, and a bad line is a fault
abbrev pub ended_as : Line → Scan → List IdRecord → Read
ended_as line.Blank scan records = Ok (next_line scan scan.room, records)
ended_as line.Bad scan records = Err (BadLine scan.file scan.line)
ended_as (line.Id id) scan records =
    let found : IdRecord = record { file = scan.file; line = scan.line; id = id } in
    if scan.room == 0 then Err TooMany
    else Ok (next_line scan (scan.room - 1), records ++ found ∷ [])

-- the line ends
abbrev pub ended : Scan → List IdRecord → Read
ended scan records = ended_as (at_end scan.state) scan records

-- these bytes come
abbrev pub scanned : Scan → List IdRecord → List ℕ → Read
scanned scan records [] = Ok (scan, records)
scanned scan records (b ∷ bytes) =
    if b == lf then ended scan records >>= (λ now. scanned now.0 now.1 bytes)
    else scanned (record scan { state = after_byte scan.state b }) records bytes

-- these bytes come, of which so many may come: one more is a fault
abbrev pub scanned_within : ℕ → Scan → List IdRecord → List ℕ → Read
scanned_within left scan records bytes =
    if nat_le (length bytes) left then scanned scan records bytes
    else scanned scan records (take left bytes) >>= (λ now. Err (TooLong now.0.file))

-- a call that may run out of memory, and reads no input, failed with this fault
abbrev pub Fails : IdFault → Read → Type 0
Fails NoMemory read = Unit {0}
Fails (BadLine file line) read = read ≡ Err (BadLine file line)
Fails (ReadFault file) read = ⊥
Fails (TooLong file) read = read ≡ Err (TooLong file)
Fails TooMany read = read ≡ Err TooMany

-- what a call gave and left is what reading gives, unless memory ran out
abbrev pub Gives : Result Scan IdFault → List IdRecord → Read → Type 0
Gives (Ok scan) records read = read ≡ Ok (scan, records)
Gives (Err fault) records read = Fails fault read

-- a call that took bytes from the front of these: what it left, read on, gives what reading all of
-- them gives, unless memory ran out
abbrev pub GivesFront : Result Fed IdFault → List IdRecord → List ℕ → Read → Type 0
GivesFront (Ok fed) records bytes read = scanned fed.scan records (drop fed.taken bytes) ≡ read
GivesFront (Err fault) records bytes read = Fails fault read
