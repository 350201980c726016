-- What each call on inputs and on a sink says, whatever they are.
use Rattle.std.specs.Prelude.{◌≡◌, ℕ, ◌≤◌, List, length, take, Option, None, Some, Result, Ok, Err}
use Rattle.std.specs.Io.{ReadsAtMost}
use Rattle.std.specs.Io.KnownBytes.{Appends, ReadConsumes, WriteAppends}
use Rattle.outside.specs.Faults.{HasCause}
use Rattle.outside.specs.Files.{Files, Starts}
use Rattle.outside.specs.Taken.{TakesSome}

-- a start: the files stay, the file of this name is left, and a failed start was counted
pub record StartsFile {T E : Type 0} (told told_now : Option Files)
    (before now : Option (List ℕ)) (faults faults_now : ℕ) (name : List ℕ) (result : Result T E)
    : Type 0 where
  pub files : told_now ≡ told
  pub left : Starts told before now name result
  pub cause : HasCause faults faults_now result

-- a read: the files stay, the bytes come from the front of what is left, and a failed read took
-- none and was counted
pub record ReadsFront {E : Type 0} (told told_now : Option Files) (before now : Option (List ℕ))
    (faults faults_now : ℕ) (result : Result ℕ E) (buf : List ℕ) : Type 0 where
  pub bound : ReadsAtMost result buf
  pub files : told_now ≡ told
  pub left : ReadConsumes before now result buf
  pub cause : HasCause faults faults_now result

-- a write: a front of the piece is taken, and a failed write took none and was counted
pub record TakesPiece {E : Type 0} (before now : Option (List ℕ)) (faults faults_now : ℕ)
    (piece : List ℕ) (result : Result ℕ E) : Type 0 where
  pub bound : TakesSome piece result
  pub written : WriteAppends before now result piece
  pub cause : HasCause faults faults_now result

-- A read where a file of the system may be started, whose unread bytes `remaining` tells. Where
-- none is, there is no byte. A started file stays started, and the read is that file's.
abbrev pub ReadsStarted : {F E : Type 0} → (F → Option (List ℕ)) → Option F → Option F
    → Result ℕ E → List ℕ → Type 0
ReadsStarted remaining None now result buf = (now ≡ None) × (result ≡ Ok 0)
ReadsStarted remaining (Some before) None result buf = ⊥
ReadsStarted remaining (Some before) (Some after) result buf =
    ReadConsumes (remaining before) (remaining after) result buf

-- what a writer holds grew by the bytes that were taken, by some front where the write failed
abbrev pub HandsOn : {E : Type 0} → Option (List ℕ) → Option (List ℕ) → List ℕ → Result ℕ E
    → Type 0
HandsOn before now piece (Ok n) = Appends before now (take n piece)
HandsOn before now piece (Err e) =
    (n : ℕ) × (n ≤ length piece) × Appends before now (take n piece)
