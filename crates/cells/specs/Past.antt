-- The history of a round, and what each pass has of it.
use Rattle.std.specs.Prelude.{true, ◌≡◌, ℕ, ◌<◌, ◌==◌, ◌||◌, Bool, nat_eq, nat_lt, if◌then◌else◌, List, [], ◌∷◌, ◌++◌, length, map, All, Option, Some, None}
use Rattle.std.specs.List.{filter}
use Rattle.std.specs.List.Sorted.{IsStrictlyIncreasing}
use mathlib.Core.List.{IsPrefix}
use mathlib.Core.Option.{some}
use lib.ListN.{get_elem?}
use Rattle.set_model.specs.History.{IsLegal}
use Rattle.set_model.specs.Keys.{is_in}
use Rattle.set_model.specs.declared.call.Call.{Call}
use Rattle.set_model.specs.declared.call.Call.TheVariants.{Insert, Remove, Contains}
use Rattle.set_model.specs.declared.entry.Entry.{Entry}
use Rattle.step_core.specs.Members.{call_of}
use Rattle.step_core.specs.States.{Each}
use Rattle.step_core.specs.declared.published.Published.{Published}
use Rattle.step_core.specs.declared.published.Published.TheVariants.{Generation, Row, Op}
use Rattle.step_core.specs.declared.published.OpBlock.{OpBlock}
use Rattle.step_core.specs.declared.published.RowBlock.{RowBlock}
use Rattle.step_core.specs.declared.views.Known.{Known}
use Rattle.step_core.specs.declared.views.PassView.{PassView}
use Rattle.step_core.specs.declared.views.RoundFacts.{RoundFacts}

-- the entries of one pass, in order
abbrev pub entries_by : ℕ → List Entry → List Entry
entries_by pass history = filter (λ entry. nat_eq entry.who pass) history

-- the entry of an operation that is decided with this answer
abbrev pub entry_of : OpBlock → Bool → Entry
entry_of op answer = record {
  who = op.who;
  serial = op.serial;
  call = call_of op;
  key = op.key;
  answer = answer;
}

-- the entry of what is published there, if it is an operation and its result decides it
abbrev pub decided_entry : Option Published → ℕ → List Entry
decided_entry None result = []
decided_entry (Some (Generation generation)) result = []
decided_entry (Some (Row row)) result = []
decided_entry (Some (Op op)) result =
    if result == 1 || result == 2 then entry_of op (result == 2) ∷ [] else []

-- the entry of an operation in flight, where it is decided already
abbrev pub flying_entry : (ℕ → Option Published) → (ℕ → ℕ → ℕ) → Option ℕ → List Entry
flying_entry blocks cells None = []
flying_entry blocks cells (Some at) = decided_entry (blocks at) (cells at 0)

-- a pass's entries in the history are those of its answered calls, and behind them that of its
-- operation in flight, where others decided it
abbrev pub OwnsEntries : (ℕ → Option Published) → (ℕ → ℕ → ℕ) → List Entry → ℕ → PassView → Type 0
OwnsEntries blocks cells history pass view =
    entries_by pass history ≡ view.mine ++ flying_entry blocks cells view.flight

-- the longer of two fronts
abbrev pub longer : List Entry → List Entry → List Entry
longer front other = if nat_lt (length front) (length other) then other else front

-- the longest front of some passes
abbrev pub longest_front : List PassView → List Entry
longest_front [] = []
longest_front (view ∷ others) = longer view.front (longest_front others)

-- what the pass has seen, what it took from a note, and what its steps met are fronts of the history
pub record BeginsHistory (history : List Entry) (pass : ℕ) (view : PassView) : Type 0 where
  pub front : IsPrefix view.front history
  pub heard : IsPrefix view.heard history
  pub horizon : IsPrefix view.horizon history

-- some pass has seen it all
pub record IsSeenWhole (history : List Entry) (views : List PassView) : Type 0 where
  pub pass : ℕ
  pub view : PassView
  pub is_view : get_elem? views pass ≡ some view
  pub all : view.front ≡ history

-- an entry is that of one of so many passes
abbrev pub IsOfPasses : ℕ → Entry → Type 0
IsOfPasses seats entry = entry.who < seats

-- a pass's entries stand in the order of its calls
abbrev pub IsInOrder : List Entry → ℕ → Type 0
IsInOrder history pass = IsStrictlyIncreasing (map (λ entry. entry.serial) (entries_by pass history))

-- their serials are used
abbrev pub UsesSerials : List Entry → ℕ → PassView → Type 0
UsesSerials history pass view =
    All (λ entry. entry.serial < view.used) (entries_by pass history)

-- inserted keys with that of one call more in front
abbrev pub inserted_by : Call → ℕ → List ℕ → List ℕ
inserted_by Insert key keys = key ∷ keys
inserted_by Remove key keys = keys
inserted_by Contains key keys = keys

-- the keys that a history inserts, in order
abbrev pub inserted_keys : List Entry → List ℕ
inserted_keys [] = []
inserted_keys (entry ∷ entries) = inserted_by entry.call entry.key (inserted_keys entries)

-- the key is one of the opening, or was inserted
abbrev pub IsGiven : List ℕ → List Entry → ℕ → Type 0
IsGiven keys history key = is_in (keys ++ inserted_keys history) key ≡ true

-- so are the keys of a row
abbrev pub HasGivenKeys : List ℕ → List Entry → RowBlock → Type 0
HasGivenKeys keys history row = All (IsGiven keys history) row.keys

-- a known block, if it is a row, has opening keys and such as this front inserts
abbrev pub IsGivenBlock : List ℕ → List Entry → Known → Type 0
IsGivenBlock keys front known = (row : RowBlock) → known.block ≡ Row row → HasGivenKeys keys front row

-- so has each row that a pass knows: its steps met the inserts of all its keys
abbrev pub KnowsGiven : List ℕ → ℕ → PassView → Type 0
KnowsGiven keys pass view = All (IsGivenBlock keys view.horizon) view.known

-- the one history of the round
pub record HoldsHistory (facts : RoundFacts) (blocks : ℕ → Option Published) (cells : ℕ → ℕ → ℕ)
    (views : List PassView) (history : List Entry) : Type 0 where
  pub legal : IsLegal (is_in facts.keys) history
  pub begun : Each (BeginsHistory history) views
  pub whole : IsSeenWhole history views
  pub own : Each (OwnsEntries blocks cells history) views
  pub who : All (IsOfPasses facts.seats) history
  pub ordered : (pass : ℕ) → IsInOrder history pass
  pub used : Each (UsesSerials history) views
  pub given : Each (KnowsGiven facts.keys) views
