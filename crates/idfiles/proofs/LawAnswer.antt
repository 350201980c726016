-- The answer for a file, from what reading its bytes gives.
use Rattle.std.proofs.Common.{◌≡◌, ℕ, List, [], ◌∷◌, ◌++◌, take, refl, sym, ap, ◌∙◌, subst, append-nil, length, ◌≤◌, arith, Option, None, Some, IfSome, Ok, Err}
use Rattle.std.specs.Io.KnownBytes.{Consumes, IsAtEnd, Keeps}
use Rattle.std.proofs.KnownBytes.{Consumes-trans}
use Rattle.idfiles.specs.Answer.{AnswersTold, IsFineBefore, Refuses}
use Rattle.idfiles.specs.Lines.{ended_from, first_fault, line_fault}
use Rattle.idfiles.specs.Scan.{Read, Fails, ended, scanned_within}
use Rattle.idfiles.specs.declared.fault.TheConstants.{MAX_BYTES}
use Rattle.idfiles.specs.declared.scan.Scan.{Scan}
use Rattle.idfiles.specs.declared.id_record.IdRecord.{IdRecord}
use Rattle.idfiles.specs.declared.fault.IdFault.{IdFault}
use Rattle.idfiles.specs.declared.fault.IdFault.TheVariants.{NoMemory, BadLine, ReadFault, TooLong, TooMany}
use Rattle.idfiles.proofs.LoopRead.{HasRead, EndsAs, ends, reads_on, refuses_piece}

-- a file whose bytes are these, where they are told, is refused
abbrev pub RefusesTold : ℕ → ℕ → Option (List ℕ) → Option (List ℕ) → IdFault → Type 0
RefusesTold file room told left fault = (bytes : List ℕ) × IfSome told (λ all. bytes ≡ all) × Refuses file room bytes left fault

-- the bytes that are told, or none
some_bytes : (told : Option (List ℕ)) → (bytes : List ℕ) × IfSome told (λ all. bytes ≡ all)
some_bytes None = ([], tt)
some_bytes (Some xs) = (xs, refl)

-- what was taken is a front of what is told
front_of : (told left : Option (List ℕ)) (bytes : List ℕ) → Consumes told left bytes
    → (rest : List ℕ) × IfSome told (λ all. bytes ++ rest ≡ all)
front_of None left bytes h = ([], tt)
front_of (Some xs) None bytes h = absurd h
front_of (Some xs) (Some ys) bytes h = (ys, sym h)

-- what was taken is all that is told, where nothing is left
all_of : (told left : Option (List ℕ)) (bytes : List ℕ) → Consumes told left bytes → IsAtEnd left → IfSome told (λ all. bytes ≡ all)
all_of None left bytes h end = tt
all_of (Some xs) None bytes h end = absurd h
all_of (Some xs) (Some ys) bytes h end = sym (h ∙ ap (λ r. bytes ++ r) end ∙ append-nil bytes)

-- a read that gave no byte took none
pub nothing_more : (told mid rest : Option (List ℕ)) (bytes buffer : List ℕ) (count : ℕ) → count ≡ 0 → Consumes told mid bytes
    → Consumes mid rest (take count buffer) → Consumes told rest bytes
nothing_more told mid rest bytes buffer count none first then_on =
    let no : Consumes mid rest [] = rw none at then_on in
    subst (Consumes told rest) (append-nil bytes) (Consumes-trans told mid rest bytes [] first no)

-- a refusal that says nothing of the bytes
pub no_memory : (file room : ℕ) (told left : Option (List ℕ))
    → RefusesTold file room told left NoMemory
no_memory file room told left = let bytes = some_bytes told in (bytes.0, bytes.1, tt)

-- a failed start leaves nothing to be read
pub no_start : (file room : ℕ) (told left : Option (List ℕ)) → IsAtEnd left
    → RefusesTold file room told left (ReadFault file)
no_start file room told None end = let bytes = some_bytes told in (bytes.0, bytes.1, (refl, tt))
no_start file room told (Some []) end = let bytes = some_bytes told in (bytes.0, bytes.1, (refl, tt))
no_start file room told (Some (b ∷ rest)) end = cc

-- all bytes, where a front of them was taken and the read behind it failed
all_with : (told mid left : Option (List ℕ)) (bytes : List ℕ) → Consumes told mid bytes → Keeps mid left
    → (all : List ℕ) × IfSome told (λ xs. all ≡ xs) × IfSome left (λ rest. all ≡ bytes ++ rest)
all_with None mid None bytes taken kept = ([], tt, tt)
all_with None mid (Some rest) bytes taken kept = (bytes ++ rest, tt, refl)
all_with (Some xs) None left bytes taken kept = absurd taken
all_with (Some xs) (Some ys) None bytes taken kept = absurd kept
all_with (Some xs) (Some ys) (Some rest) bytes taken kept = (xs, refl, taken ∙ ap (λ r. bytes ++ r) (sym kept))

-- the lines that ended in what was read have no fault
fine_before : (file room left : ℕ) (before : List IdRecord) (bytes all : List ℕ) (scan : Scan) (records : List IdRecord)
    (rest : Option (List ℕ))
    → HasRead MAX_BYTES file room before bytes left scan records → IfSome rest (λ more. all ≡ bytes ++ more)
    → IsFineBefore file room all rest
fine_before file room left before bytes all scan records None h is = tt
fine_before file room left before bytes all scan records (Some []) h is = tt
fine_before file room left before bytes all scan records (Some (b ∷ rest)) h is =
    let lines = (reads_on MAX_BYTES file room left before bytes scan records h).0 in
    let size : length bytes ≤ MAX_BYTES = omega (arith, h.size) in
    (bytes, is, size, ap (line_fault file room 1) (sym (append-nil (ended_from [] bytes))) ∙ lines.fault [])

-- a read failed behind bytes without a fault
pub read_fault : (file room left : ℕ) (before : List IdRecord) (bytes : List ℕ)
    (told mid rest : Option (List ℕ)) (scan : Scan) (records : List IdRecord)
    → HasRead MAX_BYTES file room before bytes left scan records → Consumes told mid bytes → Keeps mid rest
    → RefusesTold file room told rest (ReadFault file)
read_fault file room left before bytes told mid rest scan records h taken kept =
    let all = all_with told mid rest bytes taken kept in
    (all.0, all.1, (refl, fine_before file room left before bytes all.0 scan records rest h all.2))

-- a fault that reading met is the file's first one
refused : (file room : ℕ) (bytes : List ℕ) (left : Option (List ℕ)) (read : Read)
    (fault : IdFault) → Fails fault read
    → ((found : IdFault) → read ≡ Err found → first_fault file room bytes ≡ Some found) → Refuses file room bytes left fault
refused file room bytes left read NoMemory e first = tt
refused file room bytes left read (BadLine at line) e first = first (BadLine at line) e
refused file room bytes left read (ReadFault at) e first = absurd e
refused file room bytes left read (TooLong at) e first = first (TooLong at) e
refused file room bytes left read TooMany e first = first TooMany e

-- the input ended, and so did its last line
pub answers_all : {T : Type 0} (given : T) (file room left : ℕ) (before : List IdRecord) (bytes : List ℕ) (told rest : Option (List ℕ))
    (scan now : Scan) (records all : List IdRecord)
    → HasRead MAX_BYTES file room before bytes left scan records → Consumes told rest bytes → IsAtEnd rest
    → ended scan records ≡ Ok (now, all)
    → AnswersTold file room told rest (Ok given) (λ _ found. all ≡ before ++ found)
unfolding first_fault
answers_all given file room left before bytes told rest scan now records all h taken end e = (
  bytes,
  all_of told rest bytes taken end,
  subst (EndsAs MAX_BYTES file room before bytes) e
      (ends MAX_BYTES file room left before bytes scan records h),
)

-- the input ended in a fault of its last line
pub answers_last : (file room left : ℕ) (before : List IdRecord) (bytes : List ℕ)
    (told rest : Option (List ℕ)) (scan : Scan) (records : List IdRecord) (fault : IdFault)
    → HasRead MAX_BYTES file room before bytes left scan records → Consumes told rest bytes → IsAtEnd rest
    → Fails fault (ended scan records)
    → RefusesTold file room told rest fault
unfolding first_fault
answers_last file room left before bytes told rest scan records fault h taken end e = (
  bytes,
  all_of told rest bytes taken end,
  refused file room bytes rest (ended scan records) fault e (λ found is. subst (EndsAs MAX_BYTES file room before bytes) is
      (ends MAX_BYTES file room left before bytes scan records h)),
)

-- a piece had a fault
pub answers_piece : (file room left : ℕ) (before : List IdRecord) (bytes piece : List ℕ)
    (told rest : Option (List ℕ)) (scan : Scan) (records : List IdRecord) (fault : IdFault)
    → HasRead MAX_BYTES file room before bytes left scan records → Consumes told rest (bytes ++ piece)
    → Fails fault (scanned_within left scan records piece)
    → RefusesTold file room told rest fault
unfolding first_fault
answers_piece file room left before bytes piece told rest scan records fault h taken e =
    let front = front_of told rest (bytes ++ piece) taken in (
      (bytes ++ piece) ++ front.0,
      front.1,
      refused file room ((bytes ++ piece) ++ front.0) rest (scanned_within left scan records piece) fault e
          (λ found is. refuses_piece MAX_BYTES file room left before bytes piece front.0 scan records found h is),
    )
