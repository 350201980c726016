-- The words that a run is given: when they are the command, and what they then ask for.
use Rattle.std.specs.Prelude.{◌≡◌, ◌≤◌, ⊤, ℕ, Bool, true, false, ◌&&◌, if◌then◌else◌, bytes_eq, codes, List, [], ◌∷◌, length, map, nat_lt, nat_le, Option, Some, None, is_some, unwrap_or, String, string_bytes}
use Rattle.std.specs.Char.{is_ascii_digit}
use Rattle.std.specs.List.{list_all}
use Rattle.std.specs.Option.{option_map_or}
use Rattle.std.specs.Str.Parse.{digits_value}
use Rattle.std.specs.declared.alloc.Global.{Global}
use Rattle.clap.specs.Words.{App, Kinds, Row, Rule, all_of, fault_of, first_of, matches_of, new_app, new_rule, with_rule}
use Rattle.clap.specs.declared.builder.action.ArgAction.TheVariants.{Append, Set}
use Rattle.clap.specs.declared.error.kind.ErrorKind.{ErrorKind}
use Rattle.clap.specs.declared.error.kind.ErrorKind.TheVariants.{OutOfMemory}
use Rattle.dedup.specs.declared.command.Command.{Command}
use Rattle.dedup.specs.declared.command.Listing.{Listing}
use Rattle.dedup.specs.declared.command.Listing.TheVariants.{Keep, Ids, Count}
use Rattle.dedup.specs.declared.fault.Fault.{Fault}
use Rattle.dedup.specs.declared.fault.Fault.TheVariants.{BadWords}
use Rattle.dedup.specs.declared.fault.Fault.TheVariants as fault
use Rattle.idfiles.specs.declared.fault.IdFault.TheVariants.{NoMemory}
use Rattle.dedup.specs.Limits.{most_files, most_room, most_room_digits, most_workers, most_workers_digits, usual_room, usual_workers}

-- the words as bytes
abbrev pub texts : List (String Global) → List (List ℕ)
texts words = map string_bytes words

-- an option that is given once at most, as `--NAME VALUE` or as `--NAME=VALUE`
abbrev pub option_rule : List ℕ → Rule
option_rule name = record (new_rule name) { long = Some name; action = Some Set }

-- FILE, any number of times: each other word, and each word behind `--`
abbrev pub file_rule : Rule
file_rule = record (new_rule (codes "FILE")) { action = Some Append }

-- the command as `clap` reads it, with any values:
-- `dedup [--workers N] [--way WAY] [--room WORDS] [--list LIST] FILE...`
unfoldable pub dedup_app : App
dedup_app = with_rule (with_rule (with_rule (with_rule (with_rule (new_app (codes "dedup"))
    (option_rule (codes "workers"))) (option_rule (codes "way"))) (option_rule (codes "room")))
    (option_rule (codes "list"))) file_rule

-- whether there is no fault
abbrev pub is_faultless : Kinds → Bool
is_faultless [] = true
is_faultless (kind ∷ rest) = false

-- whether `clap` has no fault to find in the words
unfoldable pub is_read : List (List ℕ) → Bool
is_read words = is_faultless (fault_of dedup_app words)

-- what the words give for each option and for FILE
unfoldable pub rows_in : List (List ℕ) → List Row
rows_in words = matches_of dedup_app words

-- whether a value is 1 to so many digits and no other byte
abbrev pub is_numeral : ℕ → List ℕ → Bool
is_numeral digits value = nat_lt 0 (length value)
    && (nat_le (length value) digits && list_all is_ascii_digit value)

-- the number that a value writes in 1 to so many digits, where it is one from `least` to `most`
abbrev pub number_in : ℕ → ℕ → ℕ → List ℕ → Option ℕ
number_in digits least most value = if is_numeral digits value
    && (nat_le least (digits_value 10 value) && nat_le (digits_value 10 value) most)
    then Some (digits_value 10 value) else None

-- the number of workers that a value writes
abbrev pub workers_written : List ℕ → Option ℕ
workers_written value = number_in most_workers_digits 1 most_workers value

-- whether a value names the way in which calls are made, of which there is one
abbrev pub is_way : List ℕ → Bool
is_way value = bytes_eq value (codes "try")

-- the room that a value writes, in words of 64 bits
abbrev pub room_written : List ℕ → Option ℕ
room_written value = number_in most_room_digits 0 most_room value

-- the list that a value names
abbrev pub listing_named : List ℕ → Option Listing
listing_named value = if bytes_eq value (codes "keep") then Some Keep else
    (if bytes_eq value (codes "ids") then Some Ids else
    (if bytes_eq value (codes "count") then Some Count else None))

-- the number of workers that is asked for, the default where none is given
abbrev pub workers_in : List Row → Option ℕ
workers_in rows =
    option_map_or workers_written (first_of (codes "workers") rows) (Some usual_workers)

-- whether the way is the one that there is, as it also is where none is given
abbrev pub has_one_way : List Row → Bool
has_one_way rows = option_map_or is_way (first_of (codes "way") rows) true

-- the room of a round that is asked for, the default where none is given
abbrev pub room_in : List Row → Option ℕ
room_in rows = option_map_or room_written (first_of (codes "room") rows) (Some usual_room)

-- the list that is asked for, `keep` where none is given
abbrev pub listing_in : List Row → Option Listing
listing_in rows = option_map_or listing_named (first_of (codes "list") rows) (Some Keep)

-- the FILEs, in the order of the words
abbrev pub files_in : List Row → List (List ℕ)
files_in rows = unwrap_or (all_of (codes "FILE") rows) []

-- whether so many FILEs may stand in the command
abbrev pub is_file_count : ℕ → Bool
is_file_count count = nat_lt 0 count && nat_le count most_files

-- whether each option and FILE has the values that it takes
abbrev pub are_values : List Row → Bool
are_values rows = has_one_way rows && (is_some (workers_in rows) && (is_some (room_in rows)
    && (is_some (listing_in rows) && is_file_count (length (files_in rows)))))

-- Whether the words are the command. The first of them is the program's name, whatever it is.
abbrev pub is_command : List (List ℕ) → Bool
is_command words = is_read words && are_values (rows_in words)

-- the number of workers that the command asks for
abbrev pub workers_asked : List (List ℕ) → ℕ
workers_asked words = unwrap_or (workers_in (rows_in words)) usual_workers

-- the room of a round that the command asks for
abbrev pub room_asked : List (List ℕ) → ℕ
room_asked words = unwrap_or (room_in (rows_in words)) usual_room

-- the list that the command asks for
abbrev pub list_asked : List (List ℕ) → Listing
list_asked words = unwrap_or (listing_in (rows_in words)) Keep

-- the files that it names
abbrev pub files_named : List (List ℕ) → List (List ℕ)
files_named words = files_in (rows_in words)

-- what a command asks for keeps to the limits
pub record KeepsLimits (asked : Command) : Type 0 where
  pub some_worker : 1 ≤ asked.workers
  pub workers : asked.workers ≤ most_workers
  pub room : asked.room ≤ most_room
  pub files : length asked.files.items ≤ most_files

-- the fault of a run whose words `clap` answers with an error
abbrev pub fault_of_kind : ErrorKind → Fault
fault_of_kind OutOfMemory = fault.Ids NoMemory
fault_of_kind other = BadWords

-- the faults of reading words: want of memory at any time, bad words only where the test fails
abbrev pub MayRefuse : Bool → Fault → Type 0
MayRefuse test BadWords = test ≡ false
MayRefuse test (fault.Ids NoMemory) = ⊤
MayRefuse test other = ⊥
