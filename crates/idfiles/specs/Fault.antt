-- What a fault is called.
use Rattle.std.specs.Prelude.{ℕ, List, ◌++◌, codes, decimal}
use Rattle.idfiles.specs.declared.fault.IdFault.{IdFault}
use Rattle.idfiles.specs.declared.fault.IdFault.TheVariants.{NoMemory, BadLine, ReadFault, TooLong, TooMany}

-- the text that tells the fault
abbrev pub fault_text : IdFault → List ℕ
fault_text NoMemory = codes "out of memory"
fault_text (BadLine file line) = codes "bad line " ++ decimal file ++ codes ":" ++ decimal line
fault_text (ReadFault file) = codes "read fault in file " ++ decimal file
fault_text (TooLong file) = codes "file " ++ decimal file ++ codes " too long"
fault_text TooMany = codes "too many records"
