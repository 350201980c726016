-- What the answer for a told file says of its records: how many they are, and that printed ids are read back.
use Rattle.std.proofs.Common.{◌≡◌, ℕ, ◌+◌, ◌-◌, ◌<◌, ◌≤◌, inl, inr, Bool, true, false, ◌==◌, nat_le, List, [], ◌∷◌, ◌++◌, length, length-append, refl, ap, ◌∙◌, Option, None, Some, IfOk, OnErr, Result, Ok, Err, is_err, Vec, vec_len, arith}
use Rattle.std.proofs.lemmas.Bool.{cases_Bool}
use Rattle.std.proofs.lemmas.Bool.Decides.{nat_tests}
use Rattle.std.specs.Option.{option_or}
use Rattle.std.specs.declared.alloc.Global.{Global}
use Rattle.outside.specs.Files.{Files}
use Rattle.idfiles.specs.Answer.{Answers, AnswersTold, AnswersFile, GivesRecords, ReadsBack, numbered}
use Rattle.idfiles.specs.Lines.{lines_of, records_from, records_of, line_fault, fault_within, first_fault}
use Rattle.idfiles.specs.declared.fault.TheConstants.{MAX_BYTES}
use Rattle.idfiles.specs.declared.line.Line.{Line}
use Rattle.idfiles.specs.declared.line.Line.TheVariants as line
use Rattle.idfiles.specs.declared.id_record.IdRecord.{IdRecord}
use Rattle.idfiles.specs.declared.fault.IdFault.{IdFault}
use Rattle.idfiles.specs.declared.fault.IdFault.TheVariants.{NoMemory, BadLine, ReadFault, TooLong, TooMany}
use Rattle.idfiles.proofs.LawIds.{records_of-ids, fault_within-ids}

-- what holds of an error holds where there is one
pub failed : {T E P : Type 0} (result : Result T E) → OnErr result P → is_err result ≡ true → P
failed (Ok x) h is = cc
failed (Err e) h is = h

-- as many records as there is room for
abbrev FewRecords : (file room number : ℕ) → List Line → Type 0
FewRecords file room number lines = line_fault file room number lines ≡ None → length (records_from file number lines) ≤ room

few_with_id : (file room number id : ℕ) (lines : List Line) (full : Bool) → (room == 0) ≡ full
    → FewRecords file (room - 1) (number + 1) lines
    → FewRecords file room number (line.Id id ∷ lines)
few_with_id file room number id lines true e rest h = let none = rw e at h in cc
few_with_id file room number id lines false e rest h =
    let less = rest (rw e at h) in
    let some : 0 < room = grind (arith, nat_tests) in
    omega arith

-- lines without a fault have no more records than there is room for
few_records : (file room number : ℕ) (lines : List Line) → FewRecords file room number lines
few_records file room number [] h = omega arith
few_records file room number (line.Blank ∷ lines) h = few_records file room (number + 1) lines h
few_records file room number (line.Bad ∷ lines) h = cc
few_records file room number (line.Id id ∷ lines) h =
    few_with_id file room number id lines (room == 0) refl (few_records file (room - 1) (number + 1) lines) h

or_some : (first : Option IdFault) (second : IdFault) → option_or first (Some second) ≡ None → ⊥
or_some None second h = cc
or_some (Some fault) second h = cc

-- a file without a fault has no more records than there is room for
few_records_of : (limit file room : ℕ) (bytes : List ℕ) → fault_within limit file room bytes ≡ None → length (records_of file bytes) ≤ room
unfolding fault_within
few_records_of limit file room bytes h = elim (cases_Bool (nat_le (length bytes) limit)) [
  | inl short ↦ few_records file room 1 (lines_of bytes) (rw short at h)
  | inr long ↦ absurd (or_some _ _ (rw long at h))
]

-- the records that are given are no more than there is room for
pub in_room : {T : Type 0} (file room : ℕ) (told left : Option (List ℕ)) (result : Result T IdFault) (before now : Vec IdRecord Global)
    → AnswersTold file room told left result (λ _ all. now.items ≡ before.items ++ all)
    → IfOk result (λ _. vec_len now ≤ vec_len before + room)
unfolding first_fault
in_room file room told left (Ok given) before now h =
    let few = few_records_of MAX_BYTES file room h.0 h.2.0 in
    omega (arith, now.ok.0, before.ok.0, ap length h.2.1, length-append before.items (records_of file h.0))
in_room file room told left (Err fault) before now h = tt

-- records that stand behind none are those of the file
pub given_alone : {T : Type 0} (given : T) (file room : ℕ) (told : Option Files) (name : List ℕ) (left : Option (List ℕ))
    (before : List IdRecord) (records : Vec IdRecord Global) → before ≡ []
    → AnswersFile file room told name left (Ok given) (λ _ all. records.items ≡ before ++ all)
    → AnswersFile file room told name left (Ok records) (λ records all. records.items ≡ all)
given_alone given file room told name left before records none h =
    (h.0, h.1, (h.2.0, h.2.1 ∙ ap (λ (rs : List IdRecord). rs ++ records_of file h.0) none))

-- where a file has no fault, the answer is its records
gives : (file room : ℕ) (bytes : List ℕ) (left : Option (List ℕ)) (all : List IdRecord)
    (result : Result (Vec IdRecord Global) IdFault) → Answers file room bytes left result (λ records all. records.items ≡ all)
    → first_fault file room bytes ≡ None → records_of file bytes ≡ all → GivesRecords all result
gives file room bytes left all (Ok records) h none is = h.1 ∙ is
gives file room bytes left all (Err NoMemory) h none is = tt
gives file room bytes left all (Err (ReadFault at)) h none is = tt
gives file room bytes left all (Err (BadLine at line)) h none is = cc
gives file room bytes left all (Err (TooLong at)) h none is = cc
gives file room bytes left all (Err TooMany) h none is = cc

-- printed ids are read back
pub reads_back : (file room : ℕ) (told : Option Files) (name : List ℕ) (left : Option (List ℕ)) (result : Result (Vec IdRecord Global) IdFault)
    → AnswersFile file room told name left result (λ records all. records.items ≡ all)
    → ReadsBack file room told name result
unfolding first_fault
reads_back file room None name left result h = tt
reads_back file room (Some files) name left result h = λ ids is each.
    let bytes = h.1 ∙ is in
    gives file room h.0 left (numbered file 1 ids) result h.2 (ap (fault_within MAX_BYTES file room) bytes ∙ fault_within-ids MAX_BYTES file
    room ids each.each each.few each.short)
    (ap (records_of file) bytes ∙ records_of-ids file ids each.each)
