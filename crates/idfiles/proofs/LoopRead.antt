-- What the pieces read so far have given is what the grammar gives for the file that begins with them.
use Rattle.std.proofs.Common.{◌≡◌, ℕ, ◌+◌, ◌-◌, ◌<◌, ◌≤◌, Bool, true, false, nat_le, inl, inr, List, [], ◌∷◌, ◌++◌, length, take, drop, refl, sym, ap, ◌∙◌, subst, None, Some, Ok, Err, append_assoc, append-nil, length-append, length-drop, take-append-drop, arith}
use Rattle.std.specs.Option.{option_or}
use Rattle.std.proofs.lemmas.Bool.Decides.{nat_tests}
use Rattle.std.proofs.Math.Seq.{take-append_seam, take-append-add}
use Rattle.std.proofs.lemmas.Bool.{cases_Bool}
use Rattle.std.proofs.lemmas.List.{length-take-le}
use Rattle.idfiles.specs.Lines.{line_of, ended_from, unended_from, last_line, lines_of, records_from, records_of, line_fault, fault_within}
use Rattle.idfiles.specs.Machine.{at_end, IsAfter}
use Rattle.idfiles.specs.Scan.{Read, ◌>>=◌, start, ended_as, ended, scanned, scanned_within}
use Rattle.idfiles.specs.declared.scan.Scan.{Scan}
use Rattle.idfiles.specs.declared.id_record.IdRecord.{IdRecord}
use Rattle.idfiles.specs.declared.fault.IdFault.{IdFault}
use Rattle.idfiles.specs.declared.fault.IdFault.TheVariants.{TooLong}
use Rattle.idfiles.specs.declared.line.Line.{Line}
use Rattle.idfiles.proofs.LawLine.{reads}
use Rattle.idfiles.proofs.LawPieces.{scanned-append, ended_from-append}
use Rattle.idfiles.proofs.LawScan.{ReadsOn, ReadsAs, StateAs, reads_line, follows}

-- the whole file was read: its records, behind those that were there, or the fault of its last line
abbrev pub EndsAs : (limit file room : ℕ) → List IdRecord → List ℕ → Read → Type 0
EndsAs limit file room before bytes (Ok now) = (fault_within limit file room bytes ≡ None) × (now.1 ≡ before ++ records_of file bytes)
EndsAs limit file room before bytes (Err fault) = fault_within limit file room bytes ≡ Some fault

-- a file whose end is met is judged by all its lines
pub fault_within-whole : (limit file room : ℕ) (bytes : List ℕ) → length bytes ≤ limit
    → fault_within limit file room bytes ≡ line_fault file room 1 (lines_of bytes)
unfolding fault_within
fault_within-whole limit file room bytes short = let fits : nat_le (length bytes) limit ≡ true = grind (arith, nat_tests) in rw fits refl

-- a fault in a front of a file is its first one
fault_within-front : (limit file room : ℕ) (front rest : List ℕ) (fault : IdFault) → length front ≤ limit
    → ReadsAs file room 1 [] (ended_from [] front) (Err fault) → fault_within limit file room (front ++ rest) ≡ Some fault
unfolding fault_within
fault_within-front limit file room front rest fault short h = go (nat_le (length (front ++ rest)) limit) refl where
  go : (whole : Bool) → nat_le (length (front ++ rest)) limit ≡ whole → fault_within limit file room (front ++ rest) ≡ Some fault
  go true e =
      let more = ended_from (unended_from [] front) rest in
      let last = last_line (unended_from [] (front ++ rest)) in
      rw (e, ended_from-append front rest [], append_assoc (ended_from [] front) more last) (h (more ++ last))
  go false e =
      let n = limit - length front in
      let all : limit ≡ length front + n = omega arith in
      let cut : take limit (front ++ rest) ≡ front ++ take n rest = ap (λ (m : ℕ). take m (front ++ rest)) all
      ∙ take-append-add front rest n in
      rw (e, cut, ended_from-append front (take n rest) []) (ap (λ o. option_or o (Some (TooLong file)))
      (h (ended_from (unended_from [] front) (take n rest))))

-- one byte behind as many as may come, in lines without a fault
fault_within-long : {before : List IdRecord} (limit file room : ℕ) (front rest : List ℕ) (now : Scan) (after : List IdRecord)
    → length front ≡ limit → 0 < length rest
    → ReadsOn file room 1 before (ended_from [] front) now after → fault_within limit file room (front ++ rest) ≡ Some (TooLong file)
unfolding fault_within
fault_within-long limit file room front rest now after size more h =
    let size_all = length-append front rest in
    let long : nat_le (length (front ++ rest)) limit ≡ false = grind (arith, nat_tests) in
    let cut : take limit (front ++ rest) ≡ front = ap (λ (m : ℕ). take m (front ++ rest)) (sym size) ∙ take-append_seam front rest in
    let fine : line_fault file room 1 (ended_from [] front) ≡ None = ap (line_fault file room 1) (sym (append-nil (ended_from [] front)))
    ∙ h.fault [] in
    rw (long, cut, fine) refl

-- so much of the file was read, without a fault, and its records stand behind those that were there
pub record HasRead (limit file room : ℕ) (before : List IdRecord) (bytes : List ℕ) (left : ℕ) (scan : Scan)
    (records : List IdRecord) : Type 0 where
  pub is : scanned (start file room) before bytes ≡ Ok (scan, records)
  pub size : length bytes + left ≡ limit

-- the lines read so far, and the state of the next
pub reads_on : (limit file room left : ℕ) (before : List IdRecord) (bytes : List ℕ) (scan : Scan) (records : List IdRecord)
    → HasRead limit file room before bytes left scan records
    → ReadsOn file room 1 before (ended_from [] bytes) scan records × IsAfter (unended_from [] bytes) scan.state
reads_on limit file room left before bytes scan records h =
    let all = follows bytes [] (start file room) before refl in
    (subst (ReadsAs file room 1 before (ended_from [] bytes)) h.is all.0, subst (StateAs (unended_from [] bytes)) h.is all.1)

two_pieces : (limit file room left : ℕ) (before : List IdRecord) (bytes piece : List ℕ) (scan : Scan) (records : List IdRecord)
    (read : Read)
    → HasRead limit file room before bytes left scan records
    → scanned scan records piece ≡ read → scanned (start file room) before (bytes ++ piece) ≡ read
two_pieces limit file room left before bytes piece scan records read h e =
    scanned-append bytes piece (start file room) before ∙ ap (λ (x : Read). x >>= (λ now. scanned now.0 now.1 piece)) h.is ∙ e

-- one more piece without a fault
pub reads_piece : (limit file room left : ℕ) (before : List IdRecord) (bytes piece : List ℕ) (scan now : Scan)
    (records after : List IdRecord)
    → HasRead limit file room before bytes left scan records
    → scanned_within left scan records piece ≡ Ok (now, after) → length piece ≤ left
    → HasRead limit file room before (bytes ++ piece) (left - length piece) now after
reads_piece limit file room left before bytes piece scan now records after h read within =
    let fits : nat_le (length piece) left ≡ true = grind (arith, nat_tests) in
    let all : scanned scan records piece ≡ Ok (now, after) = rw fits at read in
    record {
      is = two_pieces limit file room left before bytes piece scan records (Ok (now, after)) h all;
      size = omega
          (arith, h.size, length-append bytes piece);
    }

refuses_front : (limit file room left : ℕ) (before : List IdRecord) (bytes piece rest : List ℕ) (scan : Scan) (records : List IdRecord)
    (fault : IdFault)
    → HasRead limit file room before bytes left scan records
    → length piece ≤ left → scanned scan records piece ≡ Err fault → fault_within limit file room ((bytes ++ piece) ++ rest) ≡ Some fault
refuses_front limit file room left before bytes piece rest scan records fault h within e =
    let all = two_pieces limit file room left before bytes piece scan records (Err fault) h e in
    let lines = subst (ReadsAs file room 1 before (ended_from [] (bytes ++ piece))) all
    (follows (bytes ++ piece) [] (start file room) before refl).0 in
    fault_within-front limit file room (bytes ++ piece) rest fault (omega (arith, h.size, length-append bytes piece)) lines

refuses_long : (limit file room left : ℕ) (before : List IdRecord) (bytes piece rest : List ℕ) (scan : Scan) (records : List IdRecord)
    (fault : IdFault) (read : Read)
    → HasRead limit file room before bytes left scan records → left ≡ length piece → 0 < length rest → scanned scan records piece ≡ read
    → read >>= (λ now. Err (TooLong now.0.file)) ≡ Err fault → fault_within limit file room ((bytes ++ piece) ++ rest) ≡ Some fault
refuses_long limit file room left before bytes piece rest scan records fault (Ok now) h full more e long =
    let all = two_pieces limit file room left before bytes piece scan records (Ok now) h e in
    let size : length (bytes ++ piece) + 0 ≡ limit = omega (arith, h.size, length-append bytes piece) in
    let lines = (reads_on limit file room 0 before (bytes ++ piece) now.0 now.1 (record { is = all; size = size })).0 in
    let same = lines.same in
    let is : TooLong file ≡ fault = cc in
    let whole : length (bytes ++ piece) ≡ limit = omega arith in
    fault_within-long limit file room (bytes ++ piece) rest now.0 now.1 whole more lines ∙ ap Some is
refuses_long limit file room left before bytes piece rest scan records fault (Err found) h full more e long =
    refuses_front limit file room left before bytes piece rest scan records fault h (omega arith) (e ∙ long)

-- a fault in one more piece
pub refuses_piece : (limit file room left : ℕ) (before : List IdRecord) (bytes piece rest : List ℕ) (scan : Scan) (records : List IdRecord)
    (fault : IdFault)
    → HasRead limit file room before bytes left scan records
    → scanned_within left scan records piece ≡ Err fault → fault_within limit file room ((bytes ++ piece) ++ rest) ≡ Some fault
refuses_piece limit file room left before bytes piece rest scan records fault h read = elim (cases_Bool (nat_le (length piece) left)) [
  | inl fits ↦ refuses_front limit file room left before bytes piece rest scan records fault h (grind (arith, nat_tests)) (rw fits at read)
  | inr over ↦
      let front = take left piece in
      let back = drop left piece in
      let whole : bytes ++ piece ++ rest ≡ bytes ++ front ++ (back ++ rest) =
      ap (λ (p : List ℕ). bytes ++ p ++ rest) (sym (take-append-drop left piece)) ∙ simp append_assoc in
      let long : left < length piece = grind (arith, nat_tests) in
      let full : left ≡ length front = sym (length-take-le left piece (omega arith)) in
      let more : 0 < length (back ++ rest) = omega (arith, length-append back rest, length-drop left piece) in
      ap (fault_within limit file room) whole
      ∙ refuses_long limit file room left before bytes front (back ++ rest) scan records fault (scanned scan records front) h full more refl
      (rw over at read)
]

-- what the last line gives
abbrev LastAs : Scan → List IdRecord → List Line → Read → Type 0
LastAs scan records lines (Ok now) =
    (line_fault scan.file scan.room scan.line lines ≡ None) × (records ++ records_from scan.file scan.line lines ≡ now.1)
LastAs scan records lines (Err fault) = line_fault scan.file scan.room scan.line lines ≡ Some fault

last_from : (is : Line) (scan : Scan) (records : List IdRecord) (read : Read)
    → ReadsAs scan.file scan.room scan.line records (is ∷ []) read → LastAs scan records (is ∷ []) read
last_from is scan records (Ok now) h = (h.fault [], h.records [] ∙ append-nil now.1)
last_from is scan records (Err fault) h = h []

last : (text : List ℕ) (scan : Scan) (records : List IdRecord) → IsAfter text scan.state
    → LastAs scan records (last_line text) (ended scan records)
last [] scan records after = rw after (refl, append-nil records)
last (b ∷ text) scan records after =
    let is : at_end scan.state ≡ line_of (b ∷ text) = ap at_end after ∙ reads (b ∷ text) in
    rw is (last_from (line_of (b ∷ text)) scan records (ended_as (line_of (b ∷ text)) scan records)
    (reads_line (line_of (b ∷ text)) scan records))

-- the end of the input
pub ends : (limit file room left : ℕ) (before : List IdRecord) (bytes : List ℕ) (scan : Scan) (records : List IdRecord)
    → HasRead limit file room before bytes left scan records
    → EndsAs limit file room before bytes (ended scan records)
ends limit file room left before bytes scan records h = go (ended scan records) (last text scan records lines.1) where
  text : List ℕ
  text = unended_from [] bytes

  lines : ReadsOn file room 1 before (ended_from [] bytes) scan records × IsAfter text scan.state
  lines = reads_on limit file room left before bytes scan records h

  fault : fault_within limit file room bytes ≡ line_fault scan.file scan.room scan.line (last_line text)
  fault = fault_within-whole limit file room bytes (omega (arith, h.size)) ∙ lines.0.fault (last_line text)

  go : (read : Read) → LastAs scan records (last_line text) read → EndsAs limit file room before bytes read
  go (Ok now) e = (fault ∙ e.0, sym (lines.0.records (last_line text) ∙ e.1))
  go (Err found) e = fault ∙ e
