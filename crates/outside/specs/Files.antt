-- Files by their names, and what starting one leaves to be read.
use Rattle.std.specs.Prelude.{◌≡◌, ◌⊎◌, ℕ, Bool, true, false, not, ◌&&◌, ◌||◌, if◌then◌else◌, bytes_eq, List, [], ◌∷◌, Option, Some, IsSome, IfSome, Result, OnOk, OnErr, String, string_bytes, Vec}
use Rattle.std.specs.declared.alloc.Global.{Global}
use Rattle.std.specs.Io.KnownBytes.{IsAtEnd}

-- names, each with its bytes
abbrev pub Files : Type 0
Files = List (List ℕ × List ℕ)

-- whether there is a file of this name
abbrev pub has_file : Files → List ℕ → Bool
has_file [] name = false
has_file (file ∷ files) name = bytes_eq file.0 name || has_file files name

-- the bytes of the file of this name, none where there is no such file
abbrev pub bytes_of : Files → List ℕ → List ℕ
bytes_of [] name = []
bytes_of (file ∷ files) name = if bytes_eq file.0 name then file.1 else bytes_of files name

-- no two files have one name
abbrev pub names_differ : Files → Bool
names_differ [] = true
names_differ (file ∷ files) = not (has_file files file.0) && names_differ files

-- the files that owned names and bytes are
abbrev pub files_of : List (String Global × Vec ℕ Global) → Files
files_of [] = []
files_of (file ∷ files) = (string_bytes file.0, file.1.items) ∷ files_of files

-- After a start the file's bytes are left, after a failed one nothing. What is told stays told.
pub record Starts {T E : Type 0} (files : Option Files) (before now : Option (List ℕ))
    (name : List ℕ) (result : Result T E) : Type 0 where
  pub content : IfSome files (λ told. OnOk result (now ≡ Some (bytes_of told name)))
  pub nothing : OnErr result (IsAtEnd now)
  pub told : IsSome files ⊎ IsSome before → IsSome now
