-- Inputs and sinks in memory, whose failing calls a test lists by number.
use Rattle.std.specs.Prelude.{◌≡◌, ℕ, zero, suc, Bool, false, true, ◌||◌, ◌&&◌, ◌==◌, nat_lt, length, List, [], ◌∷◌, drop, Option, None, Some, MatchOption, Result, is_err, String, Vec}
use Rattle.std.specs.declared.alloc.Global.{Global}
use Rattle.std.specs.List.{list_any}
use Rattle.outside.specs.Faults.{one_more}
use Rattle.outside.specs.Files.{Files, files_of, has_file, bytes_of}
use Rattle.outside.specs.declared.reading.Reading.{Reading}

-- whether the call of this number is listed
abbrev pub is_listed : List ℕ → ℕ → Bool
is_listed fails call = list_any (λ listed. listed == call) fails

-- the bytes of the file at this place, none past the last
abbrev pub content_at : List (String Global × Vec ℕ Global) → ℕ → List ℕ
content_at [] place = []
content_at (file ∷ files) zero = file.1.items
content_at (file ∷ files) (suc place) = content_at files place

-- what is left of the file that is read, nothing where none is
abbrev pub left_of : List (String Global × Vec ℕ Global) → Option Reading → List ℕ
left_of files None = []
left_of files (Some reading) = drop reading.offset (content_at files reading.place)

-- Inputs in memory: the files, the calls that shall fail, the most bytes of a read, how many calls
-- were made and how many of them failed, and what is left of the file that is read.
pub record Script : Type 0 where
  pub files : Files
  pub fails : List ℕ
  pub piece : ℕ
  pub calls : ℕ
  pub faults : ℕ
  pub left : List ℕ

-- one more call was made, and all that was given stays
pub record Called (old new : Script) : Type 0 where
  pub calls : new.calls ≡ one_more old.calls
  pub files : new.files ≡ old.files
  pub fails : new.fails ≡ old.fails
  pub piece : new.piece ≡ old.piece

-- A sink in memory: its room in bytes, the calls that shall fail, the most bytes of a write, how
-- many calls were made and how many of them failed, and what was written.
pub record Record : Type 0 where
  pub room : ℕ
  pub fails : List ℕ
  pub piece : ℕ
  pub calls : ℕ
  pub faults : ℕ
  pub written : List ℕ

-- the place of the file of this name, where there is one: what is left once it starts is its bytes
abbrev pub IsPlaceOf : List (String Global × Vec ℕ Global) → List ℕ → Option ℕ → Type 0
IsPlaceOf files name result = MatchOption result (has_file (files_of files) name ≡ false) (λ place.
    (has_file (files_of files) name ≡ true)
    × (content_at files place ≡ bytes_of (files_of files) name))

-- a call failed where it is listed, or where nothing of the kind that it asks for is there
abbrev pub FailsAsListed : {T E : Type 0} → Script → Bool → Result T E → Type 0
FailsAsListed old missing result = is_err result ≡ (is_listed old.fails old.calls || missing)

-- a write failed where it is listed, or where all of the room is used and the piece isn't empty
abbrev pub SinkFails : {T E : Type 0} → Record → List ℕ → Result T E → Type 0
SinkFails old piece result =
    is_err result ≡ (is_listed old.fails old.calls
    || (length old.written == old.room && nat_lt 0 (length piece)))

-- one more call was made, and all that was given stays
pub record SinkCalled (old new : Record) : Type 0 where
  pub calls : new.calls ≡ one_more old.calls
  pub room : new.room ≡ old.room
  pub fails : new.fails ≡ old.fails
  pub piece : new.piece ≡ old.piece

-- Inputs in memory that never fail: the files, and what is left of the one that is read.
pub record Shelf : Type 0 where
  pub files : Files
  pub left : List ℕ
