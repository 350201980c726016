-- Which keys the published blocks of a round hold, by their cells.
use Rattle.std.specs.Prelude.{◌≡◌, ℕ, ◌==◌, ◌||◌, Bool, false, if◌then◌else◌, List, Option, Some, None}
use Rattle.set_model.specs.Call.{members_after_call}
use Rattle.set_model.specs.History.{members_after}
use Rattle.set_model.specs.Keys.{is_in}
use Rattle.set_model.specs.declared.call.Call.{Call}
use Rattle.set_model.specs.declared.call.Call.TheVariants.{Insert, Remove}
use Rattle.set_model.specs.declared.entry.Entry.{Entry}
use Rattle.step_core.specs.Content.{bucket_of, spot_of}
use Rattle.step_core.specs.Fits.{predecessor_of}
use Rattle.step_core.specs.Format.{row_address}
use Rattle.step_core.specs.declared.published.Published.{Published}
use Rattle.step_core.specs.declared.published.Published.TheVariants.{Generation, Row, Op}
use Rattle.step_core.specs.declared.published.RowBlock.{RowBlock}
use Rattle.step_core.specs.declared.published.OpBlock.{OpBlock}

-- the call that an operation makes
abbrev pub call_of : OpBlock → Call
call_of op = if op.insert then Insert else Remove

-- the cell of the spot's bucket, where a generation has these cells
abbrev pub cell_of : Option Published → (ℕ → ℕ) → ℕ → ℕ
cell_of None cells spot = 0
cell_of (Some (Generation generation)) cells spot = cells (bucket_of generation.exponent spot)
cell_of (Some (Row row)) cells spot = 0
cell_of (Some (Op op)) cells spot = 0

-- the cell of the spot's bucket of the generation at the address
abbrev pub bucket_cell : (ℕ → Option Published) → (ℕ → ℕ → ℕ) → ℕ → ℕ → ℕ
bucket_cell blocks cells at spot = cell_of (blocks at) (cells at) spot

-- the cell of the head's bucket of the spot or, where that is nil, of its predecessor's
unfoldable pub live_cell : ℕ → (ℕ → Option Published) → (ℕ → ℕ → ℕ) → ℕ → ℕ
live_cell head blocks cells spot =
    if bucket_cell blocks cells head spot == 0
    then bucket_cell blocks cells (predecessor_of (blocks head)) spot
    else bucket_cell blocks cells head spot

-- keys, as a test, with an operation of this result applied, where that decides it: 1 or 2
abbrev pub keys_with_op : Option Published → ℕ → (ℕ → Bool) → ℕ → Bool
keys_with_op None result keys = keys
keys_with_op (Some (Generation generation)) result keys = keys
keys_with_op (Some (Row row)) result keys = keys
keys_with_op (Some (Op op)) result keys =
    if result == 1 || result == 2 then members_after_call (call_of op) op.key keys else keys

-- the content of a row: its keys, with its operation applied where that is decided
unfoldable pub row_content : (ℕ → Option Published) → (ℕ → ℕ → ℕ) → RowBlock → ℕ → Bool
row_content blocks cells row =
    if row.op == 0 then is_in row.keys
    else keys_with_op (blocks row.op) (cells row.op 0) (is_in row.keys)

-- the content of what is published there, if it is a row
abbrev pub content_at : (ℕ → Option Published) → (ℕ → ℕ → ℕ) → Option Published → ℕ → Bool
content_at blocks cells None key = false
content_at blocks cells (Some (Generation generation)) key = false
content_at blocks cells (Some (Row row)) key = row_content blocks cells row key
content_at blocks cells (Some (Op op)) key = false

-- the key is a member: it is in the content of its live row
abbrev pub is_held : ℕ → (ℕ → Option Published) → (ℕ → ℕ → ℕ) → ℕ → Bool
is_held head blocks cells key =
    content_at blocks cells (blocks (row_address (live_cell head blocks cells (spot_of key)))) key

-- the members are those of the set after the history, which begins with the keys
abbrev pub HoldsMembers : List ℕ → ℕ → (ℕ → Option Published) → (ℕ → ℕ → ℕ) → List Entry → Type 0
HoldsMembers keys head blocks cells history =
    (key : ℕ) → is_held head blocks cells key ≡ members_after (is_in keys) history key
