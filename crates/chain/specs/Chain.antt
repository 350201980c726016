-- The chain of a run: its rounds, one behind the other, each with its whole history and the calls that
-- were settled behind it. It is one legal history of a plain set: each record's call has its entry
-- there, or was a reading of a set that stood in it.
use Rattle.std.specs.Prelude.{◌≡◌, ◌⊎◌, ℕ, ◌+◌, ◌<◌, ◌≤◌, Bool, true, false, not, List, [], ◌∷◌, ◌++◌, flat_map, length, map, take, slice_index, slice_index_or, All, ⊤, is_some}
use Rattle.std.specs.List.{Any, range_with_len}
use Rattle.std.specs.List.Sorted.{IsPermutation, IsStrictlyIncreasing}
use Rattle.set_model.specs.History.{IsLegal, members_after}
use Rattle.set_model.specs.Keys.{is_in}
use Rattle.set_model.specs.declared.call.Call.{Call}
use Rattle.set_model.specs.declared.call.Call.TheVariants.{Insert, Remove, Contains}
use Rattle.set_model.specs.declared.entry.Entry.{Entry}
use Rattle.cells.specs.Past.{IsInOrder}
use Rattle.rounds.specs.Closings.{AccountValue, ClosingValue, account_at}

-- a call that a record asks for
pub record Asked : Type 0 where
  pub call : Call
  pub key : ℕ

-- the call of no record
abbrev pub no_call : Asked
no_call = record { call = Insert; key = 0 }

-- the call of the record with the number, from 0
abbrev pub asked_at : List Asked → ℕ → Asked
asked_at asked number = slice_index_or asked number no_call

-- a round of a run: its closing, the calls that were settled behind it, and for each of its workers
-- the numbers of the records whose calls it began, in order
pub record RoundEnd : Type 0 where
  pub closing : ClosingValue
  pub settled : List Entry
  pub made : List (List ℕ)

-- what the round adds to the chain
abbrev pub entries_of : RoundEnd → List Entry
entries_of round = round.closing.front ++ round.settled

-- the chain of the rounds
abbrev pub chain_of : List RoundEnd → List Entry
chain_of rounds = flat_map entries_of rounds

-- the numbers of the records whose calls the worker began
abbrev pub numbers_by : List (List ℕ) → ℕ → List ℕ
numbers_by made worker = slice_index_or made worker []

-- those of all workers
abbrev pub numbers_in : List (List ℕ) → List ℕ
numbers_in made = flat_map (λ numbers. numbers) made

-- those of all rounds
abbrev pub begun_in : List RoundEnd → List ℕ
begun_in rounds = flat_map (λ round. numbers_in round.made) rounds

-- the number of the record whose call an entry is: its worker's call of that serial
abbrev pub number_of_entry : List (List ℕ) → Entry → ℕ
number_of_entry made entry = slice_index (numbers_by made entry.who) entry.serial

-- a set without keys, as a test
abbrev pub no_key : ℕ → Bool
no_key key = false

-- it is so with each round, from the members before it on
abbrev pub AllFrom : ((ℕ → Bool) → RoundEnd → Type 0) → (ℕ → Bool) → List RoundEnd → Type 0
AllFrom Fact members [] = ⊤
AllFrom Fact members (round ∷ rounds) =
    Fact members round × AllFrom Fact (members_after members (entries_of round)) rounds

-- a worker of the round began a call with this serial
pub record HasBegunCall (made : List (List ℕ)) (who serial : ℕ) : Type 0 where
  pub worker : who < length made
  pub begun : serial < length (numbers_by made who)

-- the entry is the call of the record that its worker began with its serial
pub record IsOfRecord (asked : List Asked) (made : List (List ℕ)) (entry : Entry) : Type 0 where
  pub begun : HasBegunCall made entry.who entry.serial
  pub call : entry.call ≡ (asked_at asked (number_of_entry made entry)).call
  pub key : entry.key ≡ (asked_at asked (number_of_entry made entry)).key

-- the entry is of this worker's call with this serial
pub record IsEntryOf (who serial : ℕ) (entry : Entry) : Type 0 where
  pub worker : entry.who ≡ who
  pub call : entry.serial ≡ serial

-- a call that finds its key present, or absent, leaves the set as it is
abbrev pub changes_nothing : Call → Bool → Bool
changes_nothing Insert present = present
changes_nothing Remove present = not present
changes_nothing Contains present = true

-- the call was a reading of a set that stood in the round's history: at a place there it changed
-- nothing
pub record WasReading (members : ℕ → Bool) (front : List Entry) (call : Asked) : Type 0 where
  pub place : ℕ
  pub within : place ≤ length front
  pub reading : changes_nothing call.call (members_after members (take place front) call.key) ≡ true

-- each call that a worker began has its entry in the round's part of the chain, or was a reading
abbrev pub AnswersEachCall : List Asked → (ℕ → Bool) → RoundEnd → Type 0
AnswersEachCall asked members round = (who serial : ℕ) → HasBegunCall round.made who serial
    → Any (IsEntryOf who serial) (entries_of round)
    ⊎ WasReading members round.closing.front
    (asked_at asked (slice_index (numbers_by round.made who) serial))

-- the closing's keys are the members after its history
abbrev pub HasKeysAfter : (ℕ → Bool) → RoundEnd → Type 0
HasKeysAfter members round = (key : ℕ)
    → is_in round.closing.keys key ≡ members_after members round.closing.front key

-- a settled call was the last that its worker began, and has no entry in the round's history
pub record IsLastCall (round : RoundEnd) (entry : Entry) : Type 0 where
  pub last : entry.serial + 1 ≡ length (numbers_by round.made entry.who)
  pub refused : Any (IsEntryOf entry.who entry.serial) round.closing.front → ⊥

-- so it is with each, and they are in the order of their workers, of each of which there is one at
-- most
pub record SettlesLast (round : RoundEnd) : Type 0 where
  pub once : IsStrictlyIncreasing (map (λ entry. entry.who) round.settled)
  pub each : All (IsLastCall round) round.settled

-- the account shows why a call was refused: the pass is spent, or lost as many turns as its plan has
abbrev pub ShowsCause : ℕ → AccountValue → Type 0
ShowsCause turns account = (is_some account.spent ≡ true) ⊎ (turns ≤ account.lost)

-- each settled call's worker shows such a cause in the closing
abbrev pub ShowCauses : ℕ → RoundEnd → Type 0
ShowCauses turns round =
    All (λ entry. ShowsCause turns (account_at round.closing.accounts entry.who)) round.settled

-- the round's closing counts the calls that each worker began
abbrev pub CountsCalls : RoundEnd → Type 0
CountsCalls round = map (λ account. account.calls) round.closing.accounts ≡ map length round.made

-- the round's history has each worker's entries in the order of its calls, so no call has two
abbrev pub HasOrder : RoundEnd → Type 0
HasOrder round = (who : ℕ) → IsInOrder round.closing.front who

-- The rounds are a chain over the records, whose plan has so many turns; these numbers are those of
-- the records still to come.
pub record IsRunChain (asked : List Asked) (turns : ℕ) (rounds : List RoundEnd) (left : List ℕ)
    : Type 0 where
  -- it is one legal history of a plain set
  pub legal : IsLegal no_key (chain_of rounds)
  -- each entry is the call of a record
  pub recorded : All (λ round. All (IsOfRecord asked round.made) (entries_of round)) rounds
  pub order : All HasOrder rounds
  -- each record's call was begun once, or is still to come
  pub once : IsPermutation (begun_in rounds ++ left) (range_with_len 0 (length asked))
  pub counted : All CountsCalls rounds
  pub keys : AllFrom HasKeysAfter no_key rounds
  -- settled is at most the last call of a worker, which was refused for a cause that shows
  pub last : All SettlesLast rounds
  pub shown : All (ShowCauses turns) rounds
  -- and every call was answered
  pub answered : AllFrom (AnswersEachCall asked) no_key rounds

-- the same of one round, behind a chain that leaves these members
pub record IsRunRound (asked : List Asked) (turns : ℕ) (members : ℕ → Bool) (round : RoundEnd)
    : Type 0 where
  pub legal : IsLegal members (entries_of round)
  pub recorded : All (IsOfRecord asked round.made) (entries_of round)
  pub order : HasOrder round
  pub counted : CountsCalls round
  pub keys : HasKeysAfter members round
  pub last : SettlesLast round
  pub shown : ShowCauses turns round
  pub answered : AnswersEachCall asked members round
