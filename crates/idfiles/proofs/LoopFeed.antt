-- One turn of reading a piece: an LF ends the line, other bytes change its state.
use Rattle.std.proofs.Common.{◌≡◌, ℕ, ◌+◌, ◌-◌, ◌≤◌, true, false, ◌==◌, List, [], ◌∷◌, ◌++◌, length, take, drop, refl, sym, ap, ◌∙◌, take-append-drop, length-drop, add-zero, arith}
use Rattle.std.proofs.lemmas.Bool.Decides.{nat_tests}
use Rattle.std.proofs.lemmas.List.{length-take-le, take_all}
use Rattle.std.specs.List.{list_all}
use Rattle.idfiles.specs.Grammar.{is_inner, lf}
use Rattle.idfiles.specs.Kinds.{is_of}
use Rattle.idfiles.specs.declared.front.ByteKind.TheVariants.{Lf}
use Rattle.idfiles.specs.declared.line.LineState.TheVariants.{Blank}
use Rattle.idfiles.specs.Machine.{after_bytes, after_byte}
use Rattle.idfiles.specs.Scan.{scanned}
use Rattle.idfiles.specs.declared.scan.Scan.{Scan}
use Rattle.idfiles.specs.declared.id_record.IdRecord.{IdRecord}
use Rattle.idfiles.proofs.LawRun.{both}

-- bytes without an LF change the state alone
pub scanned-inner : (xs : List ℕ) → list_all is_inner xs ≡ true → (scan : Scan) (records : List IdRecord) (ys : List ℕ)
    → scanned scan records (xs ++ ys) ≡ scanned (record scan { state = after_bytes scan.state xs }) records ys
scanned-inner [] h scan records ys = refl
scanned-inner (x ∷ xs) h scan records ys =
    let parts = both (is_inner x) (list_all is_inner xs) h in
    let other : (x == lf) ≡ false = grind (arith, nat_tests) in
    rw other (scanned-inner xs parts.1 (record scan { state = after_byte scan.state x }) records ys)

-- a turn that took n bytes without an LF from the front
pub takes_run : (scan : Scan) (records : List IdRecord) (bytes : List ℕ) (n : ℕ) → list_all is_inner (take n bytes) ≡ true
    → scanned (record scan { state = after_bytes scan.state (take n bytes) }) records (drop n bytes) ≡ scanned scan records bytes
takes_run scan records bytes n inner =
    sym (ap (scanned scan records) (sym (take-append-drop n bytes)) ∙ scanned-inner (take n bytes) inner scan records (drop n bytes))

-- what a slice from a place to the end holds
pub slice_from : (bytes : List ℕ) (at : ℕ) → take (length bytes - at) (drop at bytes) ≡ drop at bytes
slice_from bytes at = take_all _ _ (omega (arith, length-drop at bytes))

-- LFs where a line has nothing but blanks end it, and the empty lines behind it
scanned-lfs : (xs : List ℕ) → list_all (is_of Lf) xs ≡ true → (file room line : ℕ) (records : List IdRecord) (ys : List ℕ)
    → scanned (record { file = file; room = room; line = line; state = Blank }) records (xs ++ ys)
    ≡ scanned (record { file = file; room = room; line = line + length xs; state = Blank }) records ys
scanned-lfs [] h file room line records ys = rw add-zero refl
scanned-lfs (x ∷ xs) h file room line records ys =
    let parts = both (x == lf) (list_all (is_of Lf) xs) h in
    let more : line + 1 + length xs ≡ line + length (x ∷ xs) = omega arith in
    rw parts.0 (
    scanned-lfs xs parts.1 file room (line + 1) records ys
    ∙ ap (λ (n : ℕ). scanned (record { file = file; room = room; line = n; state = Blank }) records ys) more
    )

-- a turn that took n LFs from the front
pub takes_lines : (scan : Scan) (records : List IdRecord) (bytes : List ℕ) (n : ℕ) → n ≤ length bytes
    → scan.state ≡ Blank → list_all (is_of Lf) (take n bytes) ≡ true
    → scanned (record scan { line = scan.line + n }) records (drop n bytes) ≡ scanned scan records bytes
takes_lines scan records bytes n within blank lfs =
    let size : length (take n bytes) ≡ n = length-take-le n bytes within in
    rw blank (sym (
    ap (scanned (record scan { state = Blank }) records) (sym (take-append-drop n bytes))
    ∙ scanned-lfs (take n bytes) lfs scan.file scan.room scan.line records (drop n bytes)
    ∙ ap (λ (k : ℕ). scanned (record { file = scan.file; room = scan.room; line = scan.line + k; state = Blank }) records (drop n bytes))
    size
    ))
