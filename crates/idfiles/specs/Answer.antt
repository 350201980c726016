-- What reading a file answers.
use Rattle.std.specs.Prelude.{◌≡◌, ℕ, ◌+◌, ◌^◌, ◌<◌, ◌≤◌, List, [], ◌∷◌, ◌++◌, length, Option, None, Some, IfSome, Result, Ok, Err, Vec}
use Rattle.std.specs.List.{AllByRecursion}
use Rattle.std.specs.Option.{option_map}
use Rattle.std.specs.declared.alloc.Global.{Global}
use Rattle.outside.specs.Faults.{Rose}
use Rattle.outside.specs.Files.{Files, bytes_of}
use Rattle.idfiles.specs.Limits.{most_bytes}
use Rattle.idfiles.specs.Lines.{ended_from, first_fault, line_fault, records_of}
use Rattle.idfiles.specs.Print.{id_line}
use Rattle.idfiles.specs.declared.id_record.IdRecord.{IdRecord}
use Rattle.idfiles.specs.declared.fault.IdFault.{IdFault}
use Rattle.idfiles.specs.declared.fault.IdFault.TheVariants.{NoMemory, BadLine, ReadFault, TooLong, TooMany}

-- What a fault says where `first` is the first one of the bytes: that it is this one, unless memory
-- ran out or a read failed. `failed` is what a failed read says of the file of a number.
abbrev pub Says : Option IdFault → (ℕ → Type 0) → IdFault → Type 0
Says first failed NoMemory = Unit {0}
Says first failed (ReadFault at) = failed at
Says first failed (BadLine at line) = first ≡ Some (BadLine at line)
Says first failed (TooLong at) = first ≡ Some (TooLong at)
Says first failed TooMany = first ≡ Some TooMany

-- Where inputs tell what is left of these bytes, and something is, the lines that ended before it
-- have no fault, and the bytes before it aren't too many.
abbrev pub IsFineBefore : ℕ → ℕ → List ℕ → Option (List ℕ) → Type 0
IsFineBefore file room bytes None = Unit {0}
IsFineBefore file room bytes (Some []) = Unit {0}
IsFineBefore file room bytes (Some (b ∷ rest)) =
    (front : List ℕ) × (bytes ≡ front ++ b ∷ rest) × (length front ≤ most_bytes)
    × (line_fault file room 1 (ended_from [] front) ≡ None)

-- What refuses a file of these bytes, of which `left` is left then: its first fault, unless memory
-- runs out or a read fails.
abbrev pub Refuses : ℕ → ℕ → List ℕ → Option (List ℕ) → IdFault → Type 0
Refuses file room bytes left fault = Says (first_fault file room bytes)
    (λ at. (at ≡ file) × IsFineBefore file room bytes left) fault

-- The answer for a file of these bytes: where it has no fault its records, which what is given has
-- as `gives` says, else what refuses it.
abbrev pub Answers : {T : Type 0} → ℕ → ℕ → List ℕ → Option (List ℕ) → Result T IdFault
    → (T → List IdRecord → Type 0) → Type 0
Answers file room bytes left (Ok given) gives =
    (first_fault file room bytes ≡ None) × gives given (records_of file bytes)
Answers file room bytes left (Err fault) gives = Refuses file room bytes left fault

-- the answer for these bytes where they are told, and else for some bytes
abbrev pub AnswersTold : {T : Type 0} → ℕ → ℕ → Option (List ℕ) → Option (List ℕ)
    → Result T IdFault → (T → List IdRecord → Type 0) → Type 0
AnswersTold file room told left result gives =
    (bytes : List ℕ) × IfSome told (λ all. bytes ≡ all) × Answers file room bytes left result gives

-- the same for the file of this name
abbrev pub AnswersFile : {T : Type 0} → ℕ → ℕ → Option Files → List ℕ → Option (List ℕ)
    → Result T IdFault → (T → List IdRecord → Type 0) → Type 0
AnswersFile file room told name left result gives =
    AnswersTold file room (option_map (λ files. bytes_of files name) told) left result gives

-- a read fault was counted once, and with any other result no fault was
abbrev pub HasReadCause : {T : Type 0} → ℕ → ℕ → Result T IdFault → Type 0
HasReadCause before now (Err (ReadFault file)) = Rose before now
HasReadCause before now other = now ≡ before

-- a file with each id on a line of its own
abbrev pub id_lines : List ℕ → List ℕ
id_lines [] = []
id_lines (id ∷ ids) = id_line id ++ id_lines ids

-- ids on lines that follow each other, of which the first has this number
abbrev pub numbered : ℕ → ℕ → List ℕ → List IdRecord
numbered file line [] = []
numbered file line (id ∷ ids) =
    record { file = file; line = line; id = id } ∷ numbered file (line + 1) ids

-- ids that there is room for, in a file that isn't too long
pub record AreIds (room : ℕ) (ids : List ℕ) : Type 0 where
  pub each : AllByRecursion (λ id. id < 2 ^ 64) ids
  pub few : length ids ≤ room
  pub short : length (id_lines ids) ≤ most_bytes

-- these records are given, unless memory runs out or a read fails
abbrev pub GivesRecords : List IdRecord → Result (Vec IdRecord Global) IdFault → Type 0
GivesRecords all (Ok records) = records.items ≡ all
GivesRecords all (Err NoMemory) = Unit {0}
GivesRecords all (Err (ReadFault file)) = Unit {0}
GivesRecords all (Err (BadLine file line)) = ⊥
GivesRecords all (Err (TooLong file)) = ⊥
GivesRecords all (Err TooMany) = ⊥

-- where the file of this name is told to have each of some ids on a line of its own, it is read as
-- these ids
abbrev pub ReadsBack : ℕ → ℕ → Option Files → List ℕ → Result (Vec IdRecord Global) IdFault → Type 0
ReadsBack file room told name result = IfSome told (λ files.
    (ids : List ℕ) → bytes_of files name ≡ id_lines ids → AreIds room ids
    → GivesRecords (numbered file 1 ids) result)
