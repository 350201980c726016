-- The records of several files, and the first fault of their bytes.
use Rattle.std.specs.Prelude.{◌≡◌, ℕ, ◌+◌, ◌-◌, ◌<◌, ◌≤◌, List, [], ◌∷◌, ◌++◌, length, slice_index_or, take, map, Option, None, IfSome, Result, Ok, Err, Vec}
use Rattle.std.specs.Option.{option_or}
use Rattle.std.specs.declared.alloc.Global.{Global}
use Rattle.outside.specs.Files.{Files, bytes_of}
use Rattle.idfiles.specs.Answer.{IsFineBefore, Says}
use Rattle.idfiles.specs.Lines.{records_of, first_fault}
use Rattle.idfiles.specs.declared.id_record.IdRecord.{IdRecord}
use Rattle.idfiles.specs.declared.fault.IdFault.{IdFault}
use Rattle.dedup.specs.Limits.{most_records}

-- the records of files, of which the first has this number
abbrev pub records_of_files : ℕ → List (List ℕ) → List IdRecord
records_of_files number [] = []
records_of_files number (bytes ∷ files) = records_of number bytes ++ records_of_files (number + 1) files

-- The first fault of files in the order of their bytes. The first file has this number, and there
-- is room for so many records.
abbrev pub fault_of_files : ℕ → ℕ → List (List ℕ) → Option IdFault
fault_of_files number room [] = None
fault_of_files number room (bytes ∷ files) =
    option_or (first_fault number room bytes)
    (fault_of_files (number + 1) (room - length (records_of number bytes)) files)

-- the records of a run's files
abbrev pub run_records : List (List ℕ) → List IdRecord
run_records contents = records_of_files 1 contents

-- the first fault of a run's files
abbrev pub run_fault : List (List ℕ) → Option IdFault
run_fault contents = fault_of_files 1 most_records contents

-- the contents of the files of these names, where they are told
pub record AreContents (told : Option Files) (names contents : List (List ℕ)) : Type 0 where
  pub each : length contents ≡ length names
  pub same : IfSome told (λ files. contents ≡ map (bytes_of files) names)

-- What a failed read of the file of this number says of files of which `left` is left then: the
-- files before it have no fault, nor have its own lines that ended before what is left.
pub record FailsAt (contents : List (List ℕ)) (left : Option (List ℕ)) (number : ℕ) : Type 0 where
  pub some : 0 < number
  pub within : number ≤ length contents
  pub before : run_fault (take (number - 1) contents) ≡ None
  pub here : IsFineBefore number (most_records - length (run_records (take (number - 1) contents)))
      (slice_index_or contents (number - 1) []) left

-- what a fault says of files of these contents: which one is their first, unless memory runs out or
-- a read fails
abbrev pub SaysOf : List (List ℕ) → Option (List ℕ) → IdFault → Type 0
SaysOf contents left fault = Says (run_fault contents) (FailsAt contents left) fault

-- the answer for files of these contents: all records where there is no fault, else what refuses it
abbrev pub AnswersAll : List (List ℕ) → Option (List ℕ) → Result (Vec IdRecord Global) IdFault → Type 0
AnswersAll contents left (Ok records) =
    (run_fault contents ≡ None) × (records.items ≡ run_records contents)
AnswersAll contents left (Err fault) = SaysOf contents left fault

-- the same for the files of these names
abbrev pub AnswersFiles : Option Files → List (List ℕ) → Option (List ℕ)
    → Result (Vec IdRecord Global) IdFault → Type 0
AnswersFiles told names left result =
    (contents : List (List ℕ)) × AreContents told names contents × AnswersAll contents left result

-- the files before this place have no fault, and these are their records
pub record HasLoaded (told : Option Files) (names : List (List ℕ)) (place : ℕ)
    (records : List IdRecord) : Type 0 where
  pub contents : List (List ℕ)
  pub are : AreContents told (take place names) contents
  pub none : run_fault contents ≡ None
  pub all : records ≡ run_records contents
  pub few : length records ≤ most_records
