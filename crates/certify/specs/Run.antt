-- How a run ends, and what that says of the words, of the file, and of what was written.
use Rattle.std.specs.Prelude.{◌≡◌, ◌⊎◌, ℕ, ◌^◌, ◌<◌, ◌≤◌, false, ◌==◌, if◌then◌else◌, List, [], ◌∷◌, length, take, map, Option, None, Some, IfSome, is_some, Result, Ok, Err, Vec, String, string_bytes}
use Rattle.std.specs.Io.KnownBytes.{Appends, Keeps}
use Rattle.std.specs.declared.alloc.Global.{Global}
use Rattle.outside.specs.Faults.{Rose, one_more}
use Rattle.outside.specs.Files.{Files, bytes_of}
use Rattle.certify.specs.Ending.{text_of}
use Rattle.certify.specs.Log.{lines_of, first_bad, calls_of, numbers_of}
use Rattle.certify.specs.Order.{IsVerdict}
use Rattle.certify.specs.declared.verdict.Verdict.{Verdict}
use Rattle.certify.specs.declared.fault.Fault.{Fault}
use Rattle.certify.specs.declared.fault.Fault.TheVariants.{NoMemory, BadLine, Read, Write, TooLong}

-- the words as bytes
abbrev pub texts : List (String Global) → List (List ℕ)
texts words = map string_bytes words

-- a FILE, unless it begins with `-`
abbrev pub file_in : List ℕ → Option (List ℕ)
file_in [] = Some []
file_in (b ∷ name) = if b == 45 then None else Some (b ∷ name)

-- the FILE of the command: the program's name, whatever it is, and one FILE
abbrev pub file_named : List (List ℕ) → Option (List ℕ)
file_named [] = None
file_named (program ∷ []) = None
file_named (program ∷ name ∷ []) = file_in name
file_named (program ∷ name ∷ other ∷ words) = None

-- the bytes are those of the file, where they are told
abbrev pub IsContent : Option Files → Option (List ℕ) → List ℕ → Type 0
IsContent told None bytes = Unit {0}
IsContent told (Some name) bytes = IfSome told (λ files. bytes ≡ bytes_of files name)

-- what the whole file is found to be
pub record Certifies (bytes : List ℕ) (verdict : Verdict) : Type 0 where
  pub short : length bytes ≤ 2 ^ 24
  pub good : first_bad bytes ≡ None
  pub is : IsVerdict (calls_of (lines_of bytes)) (numbers_of (lines_of bytes)) verdict

-- the line of a verdict on the calls of these bytes
abbrev pub verdict_line : List ℕ → Verdict → List ℕ
verdict_line bytes verdict = text_of (length (calls_of (lines_of bytes))) verdict

-- what an ending says of the bytes and of what was written: the line of the verdict, or a front of
-- it, or nothing
abbrev pub Prints : List ℕ → Option (List ℕ) → Option (List ℕ) → Result Verdict Fault → Type 0
Prints bytes before now (Ok verdict) =
    Certifies bytes verdict × Appends before now (verdict_line bytes verdict)
Prints bytes before now (Err Write) = (verdict : Verdict) × (n : ℕ)
    × Certifies bytes verdict × Appends before now (take n (verdict_line bytes verdict))
Prints bytes before now (Err (BadLine line)) =
    (length bytes ≤ 2 ^ 24) × (first_bad bytes ≡ Some line) × Keeps before now
Prints bytes before now (Err TooLong) = (2 ^ 24 < length bytes) × Keeps before now
Prints bytes before now (Err other) = Keeps before now

-- the same of the file that the words name
abbrev pub Ends : Option Files → List (List ℕ) → Option (List ℕ) → Option (List ℕ)
    → Result Verdict Fault → Type 0
Ends told words before now ending =
    (bytes : List ℕ) × IsContent told (file_named words) bytes × Prints bytes before now ending

-- status 2 comes exactly where the words aren't the command
pub record HasRead (words : List (List ℕ)) (status : ℕ) : Type 0 where
  pub bad : status ≡ 2 → is_some (file_named words) ≡ false
  pub refused : is_some (file_named words) ≡ false → status ≡ 2

-- a read fault was counted once, and with any other result no fault was
abbrev pub HasReadCause : {T : Type 0} → ℕ → ℕ → Result T Fault → Type 0
HasReadCause before now (Err Read) = Rose before now
HasReadCause before now other = now ≡ before

-- a count of faults rose by one where the status is this one, and else stayed
abbrev pub RoseAt : ℕ → ℕ → ℕ → ℕ → Type 0
RoseAt fault status before now = now ≡ (if status == fault then one_more before else before)

-- No status is above 7. With status 4 one fault of the inputs was counted and with 5 one of the out
-- sink, else none.
pub record HasCauses (status read_before read_now write_before write_now : ℕ) : Type 0 where
  pub range : status ≤ 7
  pub read : RoseAt 4 status read_before read_now
  pub write : RoseAt 5 status write_before write_now

-- the text and nothing else was written, or the count rose and a front of it was
abbrev pub Said : List ℕ → ℕ → ℕ → Option (List ℕ) → Option (List ℕ) → Type 0
Said text faults_before faults_now before now = Appends before now text
    ⊎ (Rose faults_before faults_now × ((n : ℕ) × Appends before now (take n text)))

-- the bytes of a file that was read, or why there are none
abbrev pub ReadsFile : List ℕ → Result (Vec ℕ Global) Fault → Type 0
ReadsFile bytes (Ok read) = (read.items ≡ bytes) × (length bytes ≤ 2 ^ 24)
ReadsFile bytes (Err NoMemory) = Unit {0}
ReadsFile bytes (Err Read) = Unit {0}
ReadsFile bytes (Err TooLong) = 2 ^ 24 < length bytes
ReadsFile bytes (Err other) = ⊥

-- the same of the bytes that are told, and else of some bytes
abbrev pub ReadsTold : Option (List ℕ) → Result (Vec ℕ Global) Fault → Type 0
ReadsTold told result = (bytes : List ℕ) × IfSome told (λ all. bytes ≡ all) × ReadsFile bytes result

-- the verdict on the log that the bytes are, or why there is none; then the number of its calls
abbrev pub Judges : List ℕ → Result (Verdict × ℕ) Fault → Type 0
Judges bytes (Ok found) = (first_bad bytes ≡ None)
    × IsVerdict (calls_of (lines_of bytes)) (numbers_of (lines_of bytes)) found.0
    × (found.1 ≡ length (calls_of (lines_of bytes)))
Judges bytes (Err NoMemory) = Unit {0}
Judges bytes (Err (BadLine line)) = first_bad bytes ≡ Some line
Judges bytes (Err other) = ⊥
