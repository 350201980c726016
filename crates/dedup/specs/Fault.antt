-- The status and the line of each ending.
use Rattle.std.specs.Prelude.{ℕ, List, [], ◌++◌, codes, Result, Ok, Err}
use Rattle.idfiles.specs.Fault.{fault_text}
use Rattle.idfiles.specs.declared.fault.IdFault.{IdFault}
use Rattle.idfiles.specs.declared.fault.IdFault.TheVariants.{NoMemory, BadLine, ReadFault, TooLong, TooMany}
use Rattle.dedup.specs.declared.fault.Fault.{Fault}
use Rattle.dedup.specs.declared.fault.Fault.TheVariants.{BadWords, Ids, Write}

-- memory was refused
abbrev pub no_memory : Fault
no_memory = Ids NoMemory

-- the status where memory was refused or the ids of the files aren't given
abbrev pub status_of_ids : IdFault → ℕ
status_of_ids NoMemory = 1
status_of_ids (BadLine file line) = 3
status_of_ids (ReadFault file) = 4
status_of_ids (TooLong file) = 6
status_of_ids TooMany = 6

-- the status of a fault
abbrev pub status_of_fault : Fault → ℕ
status_of_fault BadWords = 2
status_of_fault (Ids fault) = status_of_ids fault
status_of_fault Write = 5

-- the status of an ending, 0 where it is no fault
abbrev pub status_of : {T : Type 0} → Result T Fault → ℕ
status_of (Ok x) = 0
status_of (Err fault) = status_of_fault fault

-- what a fault is called
abbrev pub run_fault_text : Fault → List ℕ
run_fault_text BadWords = codes "bad words"
run_fault_text (Ids fault) = fault_text fault
run_fault_text Write = codes "write fault"

-- the line that tells a fault
abbrev pub fault_line : Fault → List ℕ
fault_line fault = codes "dedup: " ++ run_fault_text fault ++ codes "\n"

-- the line that tells an ending, nothing where it is no fault
abbrev pub ending_line : {T : Type 0} → Result T Fault → List ℕ
ending_line (Ok x) = []
ending_line (Err fault) = fault_line fault
