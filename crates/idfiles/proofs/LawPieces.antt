-- A file that comes in pieces: its scan and its lines are those of the pieces, one after the other.
use Rattle.std.proofs.Common.{◌≡◌, ℕ, Bool, true, false, ◌==◌, List, [], ◌∷◌, ◌++◌, refl, sym, ap, ◌∙◌, Ok, Err}
use Rattle.idfiles.specs.Grammar.{lf}
use Rattle.idfiles.specs.Lines.{line_of, ended_from, unended_from}
use Rattle.idfiles.specs.Machine.{after_byte}
use Rattle.idfiles.specs.Scan.{Read, ◌>>=◌, ended, scanned}
use Rattle.idfiles.specs.declared.scan.Scan.{Scan}
use Rattle.idfiles.specs.declared.id_record.IdRecord.{IdRecord}

bind-bind : (read : Read) (f g : Scan × List IdRecord → Read) → (read >>= f) >>= g ≡ read >>= (λ now. f now >>= g)
bind-bind (Ok now) f g = refl
bind-bind (Err fault) f g = refl

-- what comes behind this piece
abbrev Scans-on : List ℕ → List ℕ → Scan → List IdRecord → Type 0
Scans-on ys xs scan records = scanned scan records (xs ++ ys) ≡ scanned scan records xs >>= (λ now. scanned now.0 now.1 ys)

scanned-byte : (x : ℕ) (xs ys : List ℕ) (scan : Scan) (records : List IdRecord) (is_lf : Bool) → (x == lf) ≡ is_lf
    → ((scan : Scan) (records : List IdRecord) → Scans-on ys xs scan records) → Scans-on ys (x ∷ xs) scan records
scanned-byte x xs ys scan records true e rest =
    rw e (ap (λ (f : Scan × List IdRecord → Read). ended scan records >>= f) (λ i now. rest now.0 now.1 i)
    ∙ sym (bind-bind (ended scan records) (λ now. scanned now.0 now.1 xs) (λ now. scanned now.0 now.1 ys)))
scanned-byte x xs ys scan records false e rest = rw e (rest (record scan { state = after_byte scan.state x }) records)

-- a piece behind a piece
pub scanned-append : (xs ys : List ℕ) (scan : Scan) (records : List IdRecord) → Scans-on ys xs scan records
scanned-append [] ys scan records = refl
scanned-append (x ∷ xs) ys scan records = scanned-byte x xs ys scan records (x == lf) refl (scanned-append xs ys)

-- the lines that end behind this piece
abbrev Ends-on : List ℕ → List ℕ → List ℕ → Type 0
Ends-on ys xs text = ended_from text (xs ++ ys) ≡ ended_from text xs ++ ended_from (unended_from text xs) ys

ended_from-byte : (x : ℕ) (xs ys text : List ℕ) (is_lf : Bool) → (x == lf) ≡ is_lf → ((text : List ℕ) → Ends-on ys xs text)
    → Ends-on ys (x ∷ xs) text
ended_from-byte x xs ys text true e rest = rw e (ap (λ ls. line_of text ∷ ls) (rest []))
ended_from-byte x xs ys text false e rest = rw e (rest (text ++ x ∷ []))

-- the lines of two pieces
pub ended_from-append : (xs ys text : List ℕ) → Ends-on ys xs text
ended_from-append [] ys text = refl
ended_from-append (x ∷ xs) ys text = ended_from-byte x xs ys text (x == lf) refl (ended_from-append xs ys)
