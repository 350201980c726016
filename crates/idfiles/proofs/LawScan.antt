-- What was scanned of a file is what the grammar gives for these bytes, whatever lines come behind them.
use Rattle.std.proofs.Common.{◌≡◌, ℕ, ◌-◌, Bool, true, false, ◌==◌, if◌then◌else◌, List, [], ◌∷◌, ◌++◌, refl, sym, ap, ◌∙◌, Some, Ok, Err, IfOk, append_assoc}
use Rattle.idfiles.specs.Grammar.{lf}
use Rattle.idfiles.specs.Lines.{line_of, ended_from, unended_from, records_from, line_fault}
use Rattle.idfiles.specs.Machine.{after_bytes, after_byte, at_end, IsAfter}
use Rattle.idfiles.specs.Scan.{Read, ◌>>=◌, next_line, ended_as, ended, scanned}
use Rattle.idfiles.specs.declared.line.Line.{Line}
use Rattle.idfiles.specs.declared.line.Line.TheVariants as line
use Rattle.idfiles.specs.declared.line.LineState.TheVariants.{Blank}
use Rattle.idfiles.specs.declared.line.LineState.{LineState}
use Rattle.idfiles.specs.declared.scan.Scan.{Scan}
use Rattle.idfiles.specs.declared.id_record.IdRecord.{IdRecord}
use Rattle.idfiles.specs.declared.fault.IdFault.TheVariants.{TooMany}
use Rattle.idfiles.proofs.LawLine.{reads}

-- these lines, from this number on, were read whole, and whatever lines come next are read from `now` on
pub record ReadsOn (file room number : ℕ) (before : List IdRecord) (lines : List Line) (now : Scan) (after : List IdRecord) : Type 0 where
  pub same : now.file ≡ file
  pub fault : (more : List Line) → line_fault file room number (lines ++ more) ≡ line_fault now.file now.room now.line more
  pub records : (more : List Line) → before ++ records_from file number (lines ++ more) ≡ after ++ records_from now.file now.line more

-- what reading gives for these lines: all of them, or their first fault
abbrev pub ReadsAs : (file room number : ℕ) → List IdRecord → List Line → Read → Type 0
ReadsAs file room number before lines (Ok now) = ReadsOn file room number before lines now.0 now.1
ReadsAs file room number before lines (Err fault) = (more : List Line) → line_fault file room number (lines ++ more) ≡ Some fault

-- one line
pub reads_line : (is : Line) (scan : Scan) (records : List IdRecord)
    → ReadsAs scan.file scan.room scan.line records (is ∷ []) (ended_as is scan records)
reads_line line.Blank scan records = record { same = refl; fault = λ more. refl; records = λ more. refl }
reads_line line.Bad scan records = λ more. refl
reads_line (line.Id id) scan records = go (scan.room == 0) refl where
  go : (full : Bool) → (scan.room == 0) ≡ full
      → ReadsAs scan.file scan.room scan.line records (line.Id id ∷ []) (ended_as (line.Id id) scan records)
  go true e = rw e (λ more. rw e refl)
  go false e = rw e (record { same = refl; fault = λ more. rw e refl; records = λ more. sym (append_assoc records _ _) })

-- lines behind lines, as far as those were read
ReadsAs-bind : (file room number : ℕ) (before : List IdRecord) (lines others : List Line) (read : Read) (next : Scan × List IdRecord → Read)
    → ReadsAs file room number before lines read
    → ((now : Scan) (after : List IdRecord) → read ≡ Ok (now, after) → ReadsAs now.file now.room now.line after others (next (now, after)))
    → ReadsAs file room number before (lines ++ others) (read >>= next)
ReadsAs-bind file room number before lines others (Ok now) next first rest = more (next now) (rest now.0 now.1 refl) where
  more : (read : Read) → ReadsAs now.0.file now.0.room now.0.line now.1 others read → ReadsAs file room number before (lines ++ others) read
  more (Ok last) then_on = record {
    same = then_on.same ∙ first.same;
    fault = λ more. ap (line_fault file room number) (append_assoc lines others more) ∙ first.fault (others ++ more) ∙ then_on.fault more;
    records = λ more. ap (λ ls. before ++ records_from file number ls) (append_assoc lines others more) ∙ first.records (others ++ more)
        ∙ then_on.records more;
  }
  more (Err fault) then_on = λ more. ap (line_fault file room number) (append_assoc lines others more) ∙ first.fault (others ++ more)
      ∙ then_on more
ReadsAs-bind file room number before lines others (Err fault) next first rest =
    λ more. ap (line_fault file room number) (append_assoc lines others more) ∙ first (others ++ more)

-- the line that has begun with the text is read on
abbrev pub StateAs : List ℕ → Read → Type 0
StateAs text read = IfOk read (λ now. IsAfter text now.0.state)

StateAs-bind : (text : List ℕ) (read : Read) (next : Scan × List IdRecord → Read)
    → ((now : Scan) (after : List IdRecord) → read ≡ Ok (now, after) → StateAs text (next (now, after))) → StateAs text (read >>= next)
StateAs-bind text (Ok now) next rest = rest now.0 now.1 refl
StateAs-bind text (Err fault) next rest = tt

-- the state that reading leaves
abbrev pub state_of : Read → LineState
state_of (Ok now) = now.0.state
state_of (Err fault) = Blank

-- behind an LF a new line begins
pub state_of-ended : (is : Line) (scan : Scan) (records : List IdRecord) → state_of (ended_as is scan records) ≡ Blank
state_of-ended line.Blank scan records = refl
state_of-ended line.Bad scan records = refl
state_of-ended (line.Id id) scan records = go (scan.room == 0) where
  go : (full : Bool)
      → state_of (if full then Err TooMany else Ok
      (next_line scan (scan.room - 1), records ++ record { file = scan.file; line = scan.line; id = id } ∷ [])) ≡ Blank
  go true = refl
  go false = refl

-- bytes behind bytes change the state one after the other
pub after_bytes-append : (state : LineState) (xs ys : List ℕ) → after_bytes state (xs ++ ys) ≡ after_bytes (after_bytes state xs) ys
after_bytes-append state [] ys = refl
after_bytes-append state (x ∷ xs) ys = after_bytes-append (after_byte state x) xs ys

-- these bytes behind the text
abbrev Follows : List ℕ → Scan → List IdRecord → List ℕ → Type 0
Follows text scan records bytes =
    ReadsAs scan.file scan.room scan.line records (ended_from text bytes) (scanned scan records bytes)
    × StateAs (unended_from text bytes) (scanned scan records bytes)

follows_byte : (text : List ℕ) (scan : Scan) (records : List IdRecord) (b : ℕ) (bytes : List ℕ) (is_lf : Bool) → (b == lf) ≡ is_lf
    → IsAfter text scan.state
    → ((text : List ℕ) (scan : Scan) (records : List IdRecord) → IsAfter text scan.state → Follows text scan records bytes)
    → Follows text scan records (b ∷ bytes)
follows_byte text scan records b bytes true e after rest =
    let is : at_end scan.state ≡ line_of text = ap at_end after ∙ reads text in
    let first : ReadsAs scan.file scan.room scan.line records (line_of text ∷ []) (ended scan records) =
    rw is (reads_line (line_of text) scan records) in
    let fresh = λ (now : Scan) (all : List IdRecord) (h : ended scan records ≡ Ok (now, all)). rest [] now all
    (sym (ap state_of h) ∙ state_of-ended (at_end scan.state) scan records) in
    rw e (
      ReadsAs-bind scan.file scan.room scan.line records (line_of text ∷ []) (ended_from [] bytes) (ended scan records)
          (λ now. scanned now.0 now.1 bytes) first (λ now all h. (fresh now all h).0),
      StateAs-bind (unended_from [] bytes) (ended scan records) (λ now. scanned now.0 now.1 bytes) (λ now all h. (fresh now all h).1),
    )
follows_byte text scan records b bytes false e after rest =
    rw e (rest (text ++ b ∷ []) (record scan { state = after_byte scan.state b }) records
    (ap (λ s. after_byte s b) after ∙ sym (after_bytes-append Blank text (b ∷ []))))

-- what is scanned behind a text that the state has taken
pub follows : (bytes text : List ℕ) (scan : Scan) (records : List IdRecord) → IsAfter text scan.state → Follows text scan records bytes
follows [] text scan records after = (record { same = refl; fault = λ more. refl; records = λ more. refl }, after)
follows (b ∷ bytes) text scan records after = follows_byte text scan records b bytes (b == lf) refl after (follows bytes)
