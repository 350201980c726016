-- A file with each id on a line of its own has no fault, and its records are these ids, with lines from 1.
use Rattle.std.proofs.Common.{◌≡◌, ℕ, ◌+◌, ◌-◌, ◌^◌, ◌<◌, ◌≤◌, true, false, ◌==◌, List, [], ◌∷◌, ◌++◌, length, map, refl, sym, ap, ap₂, ◌∙◌, None, append_assoc, append-nil, decimal, lit<, arith}
use Rattle.std.proofs.lemmas.Bool.Decides.{nat_tests}
use Rattle.std.proofs.lemmas.Fmt.{decimal_nonempty, length-decimal-le, digits_decimal, digits_value-decimal}
use Rattle.std.specs.List.{list_all, AllByRecursion}
use Rattle.std.specs.Str.Parse.{digits_value}
use Rattle.idfiles.specs.Limits.{most_digits}
use Rattle.idfiles.specs.Grammar.{lf}
use Rattle.idfiles.specs.Lines.{line_of, ended_from, unended_from, lines_of, records_from, records_of, line_fault, fault_within}
use Rattle.idfiles.specs.Grammar.{is_inner}
use Rattle.idfiles.specs.Machine.{at_end}
use Rattle.idfiles.specs.Answer.{id_lines, numbered}
use Rattle.idfiles.specs.declared.line.Line.TheVariants as line
use Rattle.idfiles.proofs.LawDigits.{numerals}
use Rattle.idfiles.proofs.LawLine.{reads}
use Rattle.idfiles.proofs.LoopRead.{fault_within-whole}
use Rattle.idfiles.proofs.LawRun.{both, blank_digits, is_inner-digits}

-- bytes without an LF go on with the line
pub ended_from-inner : (xs ys text : List ℕ) → list_all is_inner xs ≡ true → ended_from text (xs ++ ys) ≡ ended_from (text ++ xs) ys
ended_from-inner [] ys text h = ap (λ t. ended_from t ys) (sym (append-nil text))
ended_from-inner (x ∷ xs) ys text h =
    let parts = both (is_inner x) (list_all is_inner xs) h in
    let other : (x == lf) ≡ false = grind (arith, nat_tests) in
    rw other (ended_from-inner xs ys (text ++ x ∷ []) parts.1 ∙ ap (λ t. ended_from t ys) (append_assoc text (x ∷ []) xs))

-- the same of the bytes behind the last LF
pub unended_from-inner : (xs ys text : List ℕ) → list_all is_inner xs ≡ true → unended_from text (xs ++ ys) ≡ unended_from (text ++ xs) ys
unended_from-inner [] ys text h = ap (λ t. unended_from t ys) (sym (append-nil text))
unended_from-inner (x ∷ xs) ys text h =
    let parts = both (is_inner x) (list_all is_inner xs) h in
    let other : (x == lf) ≡ false = grind (arith, nat_tests) in
    rw other (unended_from-inner xs ys (text ++ x ∷ []) parts.1 ∙ ap (λ t. unended_from t ys) (append_assoc text (x ∷ []) xs))

-- the digits of an id are a line with this id
line_of-decimal : (id : ℕ) → id < 2 ^ 64 → line_of (decimal id) ≡ line.Id id
line_of-decimal id fits =
    let ds = decimal id in
    let digits = digits_decimal numerals id fits in
    let value : digits_value 10 ds ≡ id = digits_value-decimal numerals id fits in
    let below : digits_value 10 ds < 2 ^ 64 = omega arith in
    let state = blank_digits ds (decimal_nonempty id fits) (length-decimal-le most_digits id (lit< tt) (omega arith) fits) digits below in
    sym (reads ds) ∙ ap at_end state ∙ ap line.Id value

inner-decimal : (id : ℕ) → id < 2 ^ 64 → list_all is_inner (decimal id) ≡ true
inner-decimal id fits = is_inner-digits (decimal id) (digits_decimal numerals id fits)

ended-ids : (ids : List ℕ) → AllByRecursion (λ id. id < 2 ^ 64) ids → ended_from [] (id_lines ids) ≡ map line.Id ids
ended-ids [] each = refl
ended-ids (id ∷ ids) each =
    ap (ended_from []) (append_assoc (decimal id) (lf ∷ []) (id_lines ids))
    ∙ ended_from-inner (decimal id) (lf ∷ id_lines ids) [] (inner-decimal id each.0)
    ∙ ap₂ ◌∷◌ (line_of-decimal id each.0) (ended-ids ids each.1)

unended-ids : (ids : List ℕ) → AllByRecursion (λ id. id < 2 ^ 64) ids → unended_from [] (id_lines ids) ≡ []
unended-ids [] each = refl
unended-ids (id ∷ ids) each =
    ap (unended_from []) (append_assoc (decimal id) (lf ∷ []) (id_lines ids))
    ∙ unended_from-inner (decimal id) (lf ∷ id_lines ids) [] (inner-decimal id each.0)
    ∙ unended-ids ids each.1

-- the lines of these ids
lines_of-ids : (ids : List ℕ) → AllByRecursion (λ id. id < 2 ^ 64) ids → lines_of (id_lines ids) ≡ map line.Id ids
lines_of-ids ids each = rw (ended-ids ids each, unended-ids ids each) (append-nil (map line.Id ids))

records-ids : (file number : ℕ) (ids : List ℕ) → records_from file number (map line.Id ids) ≡ numbered file number ids
records-ids file number [] = refl
records-ids file number (id ∷ ids) = ap (λ rs. record { file = file; line = number; id = id } ∷ rs) (records-ids file (number + 1) ids)

fault-ids : (file room number : ℕ) (ids : List ℕ) → length ids ≤ room → line_fault file room number (map line.Id ids) ≡ None
fault-ids file room number [] few = refl
fault-ids file room number (id ∷ ids) few =
    let some : (room == 0) ≡ false = grind (arith, nat_tests) in rw some (fault-ids file (room - 1) (number + 1) ids (omega arith))

-- the records of the file
pub records_of-ids : (file : ℕ) (ids : List ℕ) → AllByRecursion (λ id. id < 2 ^ 64) ids
    → records_of file (id_lines ids) ≡ numbered file 1 ids
records_of-ids file ids each = ap (records_from file 1) (lines_of-ids ids each) ∙ records-ids file 1 ids

-- the file has no fault
pub fault_within-ids : (limit file room : ℕ) (ids : List ℕ) → AllByRecursion (λ id. id < 2 ^ 64) ids → length ids ≤ room
    → length (id_lines ids) ≤ limit
    → fault_within limit file room (id_lines ids) ≡ None
fault_within-ids limit file room ids each few short =
    fault_within-whole limit file room (id_lines ids) short ∙ ap (line_fault file room 1) (lines_of-ids ids each)
    ∙ fault-ids file room 1 ids few
