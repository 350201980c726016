-- One turn of reading plain lines: digits begin a line, and an LF behind them ends it as their id.
use Rattle.std.proofs.Common.{◌≡◌, ℕ, ◌+◌, ◌-◌, ◌^◌, ◌<◌, ◌≤◌, true, List, ◌∷◌, length, length-drop, take, take-take, drop, get_or, sym, ap, ap₂, ◌∙◌, Ok, arith}
use Rattle.std.proofs.lemmas.List.{drop-drop, drop_more, get_or-take, length-take-le}
use Rattle.std.specs.List.{list_all}
use Rattle.std.specs.Char.{is_ascii_digit}
use Rattle.std.specs.Str.Parse.{digits_value}
use Rattle.idfiles.specs.Grammar.{lf}
use Rattle.idfiles.specs.Limits.{most_digits}
use Rattle.idfiles.specs.Machine.{after_bytes}
use Rattle.idfiles.specs.Scan.{Read, ◌>>=◌, Fails, ended_as, scanned}
use Rattle.idfiles.specs.declared.plain.TheConstants.{PLAIN_BYTES}
use Rattle.idfiles.specs.declared.line.Line.TheVariants as line
use Rattle.idfiles.specs.declared.line.LineState.TheVariants.{Blank, Digits}
use Rattle.idfiles.specs.declared.scan.Scan.{Scan}
use Rattle.idfiles.specs.declared.id_record.IdRecord.{IdRecord}
use Rattle.idfiles.specs.declared.fault.IdFault.{IdFault}
use Rattle.idfiles.specs.declared.fault.IdFault.TheVariants.{NoMemory, BadLine, ReadFault, TooLong, TooMany}
use Rattle.idfiles.proofs.LawScan.{state_of, state_of-ended}
use Rattle.idfiles.proofs.LawRun.{blank_digits, is_inner-digits}
use Rattle.idfiles.proofs.LoopFeed.{takes_run}

-- digits at the front of some bytes, and the id that they write
pub record HasDigits (bytes : List ℕ) (count id : ℕ) : Type 0 where
  pub some : 0 < count
  pub few : count ≤ most_digits
  pub within : count < length bytes
  pub digits : list_all is_ascii_digit (take count bytes) ≡ true
  pub value : digits_value 10 (take count bytes) ≡ id
  pub fits : id < 2 ^ 64

-- as many bytes of what is left at a place as a plain line may have
abbrev pub window : List ℕ → ℕ → List ℕ
window bytes at = take (at + PLAIN_BYTES - at) (drop at bytes)

-- digits that were found in a window
pub has_digits : (bytes : List ℕ) (at count id : ℕ) → PLAIN_BYTES ≤ length bytes - at → 0 < count → count ≤ most_digits
    → list_all is_ascii_digit (take count (window bytes at)) ≡ true → id ≡ digits_value 10 (take count (window bytes at)) → id < 2 ^ 64
    → HasDigits (drop at bytes) count id
has_digits bytes at count id long some few digits value fits =
    let same : take count (window bytes at) ≡ take count (drop at bytes) = take-take count (at + PLAIN_BYTES - at) (drop at bytes)
    (omega arith) in
    record {
      some = some;
      few = few;
      within = omega (arith, length-drop at bytes);
      digits = ap (list_all is_ascii_digit) (sym same) ∙ digits;
      value = ap (digits_value 10) (sym same) ∙ sym value;
      fits = fits;
    }

-- the digits were taken, and the line goes on
pub takes_digits : (bytes : List ℕ) (at count id : ℕ) (scan : Scan) (records : List IdRecord) (read : Read)
    → HasDigits (drop at bytes) count id → scan.state ≡ Blank → scanned scan records (drop at bytes) ≡ read
    → scanned (record scan { state = Digits count id }) records (drop (at + count) bytes) ≡ read
takes_digits bytes at count id scan records read has blank so_far =
    let rest = drop at bytes in
    let ds = take count rest in
    let size : length ds ≡ count = length-take-le count rest (omega (arith, has.within)) in
    let fits : digits_value 10 ds < 2 ^ 64 = omega (arith, has.fits, has.value) in
    let digits = blank_digits ds (omega (arith, has.some, size)) (omega (arith, has.few, size)) has.digits fits in
    let state : after_bytes scan.state ds ≡ Digits count id = ap (λ s. after_bytes s ds) blank ∙ digits ∙ ap₂ Digits size has.value in
    (λ i. scanned (record scan { state = sym state i }) records (sym (drop-drop count at bytes) i))
    ∙ takes_run scan records rest count (is_inner-digits ds has.digits) ∙ so_far

-- a plain line is taken from what is left at a place
takes_line : (bytes : List ℕ) (at count id : ℕ) (scan : Scan) (records : List IdRecord) (read : Read)
    → HasDigits (drop at bytes) count id → get_or (window bytes at) count 0 ≡ lf → scan.state ≡ Blank
    → scanned scan records (drop at bytes) ≡ read
    → ended_as (line.Id id) scan records >>= (λ now. scanned now.0 now.1 (drop (at + (count + 1)) bytes)) ≡ read
takes_line bytes at count id scan records read has ends blank so_far =
    let rest = drop at bytes in
    let short : count < at + PLAIN_BYTES - at = omega (arith, has.few) in
    let last : get_or rest count 0 ≡ lf = sym (get_or-take (at + PLAIN_BYTES - at) rest count 0 short) ∙ ends in
    let behind : drop (at + count) bytes ≡ lf ∷ drop (at + (count + 1)) bytes =
    sym (drop-drop count at bytes) ∙ drop_more rest count 0 has.within ∙ ap₂ ◌∷◌ last (drop-drop (count + 1) at bytes) in
    ap (scanned (record scan { state = Digits count id }) records) (sym behind)
    ∙ takes_digits bytes at count id scan records read has blank so_far

-- the line gave its record
pub takes_plain : (bytes : List ℕ) (at count id : ℕ) (scan now : Scan) (records after : List IdRecord) (read : Read)
    → HasDigits (drop at bytes) count id → get_or (window bytes at) count 0 ≡ lf → scan.state ≡ Blank
    → scanned scan records (drop at bytes) ≡ read → ended_as (line.Id id) scan records ≡ Ok (now, after)
    → (now.state ≡ Blank) × (scanned now after (drop (at + (count + 1)) bytes) ≡ read)
takes_plain bytes at count id scan now records after read has ends blank so_far is = (
  sym (ap state_of is) ∙ state_of-ended (line.Id id) scan records,
  ap (λ (first : Read). first >>= (λ now. scanned now.0 now.1 (drop (at + (count + 1)) bytes))) (sym is)
      ∙ takes_line bytes at count id scan records read has ends blank so_far,
)

fails_on : (fault : IdFault) (first read : Read) (next : Scan × List IdRecord → Read) → Fails fault first → first >>= next ≡ read
    → Fails fault read
fails_on NoMemory first read next h e = tt
fails_on (BadLine at line) first read next h e = sym e ∙ ap (λ (r : Read). r >>= next) h
fails_on (ReadFault at) first read next h e = h
fails_on (TooLong at) first read next h e = sym e ∙ ap (λ (r : Read). r >>= next) h
fails_on TooMany first read next h e = sym e ∙ ap (λ (r : Read). r >>= next) h

-- the line was refused
pub refuses_plain : (bytes : List ℕ) (at count id : ℕ) (scan : Scan) (records : List IdRecord) (read : Read) (fault : IdFault)
    → HasDigits (drop at bytes) count id → get_or (window bytes at) count 0 ≡ lf → scan.state ≡ Blank
    → scanned scan records (drop at bytes) ≡ read → Fails fault (ended_as (line.Id id) scan records) → Fails fault read
refuses_plain bytes at count id scan records read fault has ends blank so_far fails =
    fails_on fault (ended_as (line.Id id) scan records) read (λ now. scanned now.0 now.1 (drop (at + (count + 1)) bytes)) fails
    (takes_line bytes at count id scan records read has ends blank so_far)
