-- The rounds of a run: how one ends, and what stands between two.
use Rattle.std.specs.Prelude.{◌≡◌, ℕ, ◌<◌, ◌≤◌, List, [], ◌∷◌, ◌++◌, flat_map, length, map, All, Vec}
use Rattle.std.specs.FinSet as set
use Rattle.std.specs.List.{filter}
use Rattle.std.specs.List.Sorted.{IsPermutation, IsStrictlyIncreasing}
use Rattle.std.specs.declared.alloc.Global.{Global}
use Rattle.cells.specs.Tokens.{PassValue, RoundValue}
use Rattle.set_model.specs.History.{members_after, set_after}
use Rattle.set_model.specs.Keys.{is_in, keys_set}
use Rattle.set_model.specs.declared.entry.Entry.{Entry}
use Rattle.chain.specs.Chain.{IsRunChain, IsRunRound, RoundEnd, chain_of, entries_of, no_key, number_of_entry, numbers_in}
use Rattle.chain.specs.Changing.{changing_in, changing_of, is_changing}
use Rattle.chain.specs.Workers.{AreSettled}
use Rattle.idfiles.specs.declared.id_record.IdRecord.{IdRecord}
use Rattle.rounds.specs.Closings.{Closes, ClosingValue}
use Rattle.rounds.specs.Halts.{HaltedValue, Halts}
use Rattle.step_core.specs.Limits.{max_keys}
use Rattle.step_core.specs.Plans.{IsPlan}
use Rattle.step_core.specs.declared.layout.Plan.{Plan}
use Rattle.dedup.specs.Limits.{most_room, tried_turns}
use Rattle.dedup.specs.LoneRun.{IsLoneRound, IsLoneRun, ids_left, keys_left}
use Rattle.dedup.specs.Records.{asked_of, ids_at, ids_of}
use Rattle.dedup.specs.Settling.{handed_in, lists_of}
use Rattle.dedup.specs.declared.worker.Hand.{Hand}
use Rattle.dedup.specs.declared.one_round.EndedRound.{EndedRound}

-- a list of lists as it stands in vectors
abbrev pub lists_in : Vec (Vec ℕ Global) Global → List (List ℕ)
lists_in lists = map (λ list. list.items) lists.items

-- a round of a run
abbrev pub round_of : ClosingValue → Vec Entry Global → Vec (Vec ℕ Global) Global → RoundEnd
round_of closing settled made =
    record { closing = closing; settled = settled.items; made = lists_in made }

-- the rounds whose closings, settled calls and records stand in three lists
abbrev pub rounds_of : List ClosingValue → List (Vec Entry Global)
    → List (Vec (Vec ℕ Global) Global) → List RoundEnd
rounds_of (closing ∷ closings) (settled ∷ others) (made ∷ lists) =
    round_of closing settled made ∷ rounds_of closings others lists
rounds_of closings settled made = []

-- the round of a run that ended so
abbrev pub round_ended : EndedRound → RoundEnd
round_ended ended = round_of ended.closing ended.settled ended.made

-- so many workers were in the round
abbrev pub HasWorkers : ℕ → RoundEnd → Type 0
HasWorkers count round = length round.made ≡ count

-- the plan of a run's rounds for so many workers and so much room
abbrev pub plan_of : ℕ → ℕ → Plan
plan_of workers room = record { seats = workers; fast = tried_turns; turns = 0; room = room }

-- the plan of a run's rounds: none of its calls is announced, and its room is at most 2^27 words
pub record IsRunPlan (plan : Plan) : Type 0 where
  pub fits : IsPlan plan
  pub tried : plan.turns ≡ 0
  pub room : plan.room ≤ most_room

-- some records are still to come, and these are their numbers
pub record IsLeft (records : List IdRecord) (left : List ℕ) : Type 0 where
  pub some : 0 < length left
  pub numbers : All (λ number. number < length records) left
  pub few : length left ≤ max_keys

-- these passes' round was halted and ended so
pub record ClosesRound (round : RoundValue) (passes : List PassValue) (closing : ClosingValue)
    : Type 0 where
  pub halted : HaltedValue
  pub halts : Halts round passes halted
  pub closes : Closes halted closing

-- The calls that a round's workers were refused are settled on the keys of its closing.
pub record SettlesRound (records : List IdRecord) (closing : ClosingValue) (hands : List Hand)
    (left : List ℕ) (ended : EndedRound) : Type 0 where
  pub closing_is : ended.closing ≡ closing
  pub settled : AreSettled (asked_of records) (map handed_in hands)
      (set.contains (keys_set closing.keys)) ended.settled.items
  pub made_is : lists_in ended.made ≡ lists_of hands
  pub changed_is : ended.changed.items ≡ flat_map (λ hand. hand.changed.items) hands
      ++ map (number_of_entry (lists_of hands)) (filter is_changing ended.settled.items)
  pub keys_are : keys_set ended.keys.items ≡ set_after (keys_set closing.keys) ended.settled.items
  pub rising : IsStrictlyIncreasing ended.keys.items
  pub left_is : ended.left.items ≡ left

-- A round with one worker ended as its ledger makes it, and so did what it leaves for the next one.
pub record LeavesLone (records : List IdRecord) (room : ℕ) (keys left : List ℕ) (ended : EndedRound)
    : Type 0 where
  pub round : IsLoneRound room keys (ids_at records left) (round_ended ended)
  pub keys_are : ended.keys.items ≡ keys_left (round_ended ended)
  pub left_are : ids_at records ended.left.items ≡ ids_left room keys (ids_at records left)

-- A round of the plan that began with the keys, while the records with the numbers in `left` were still
-- to come: it is one of a chain, how many workers it had, and what it leaves for the next one.
pub record AddsRound (records : List IdRecord) (plan : Plan) (keys left : List ℕ)
    (ended : EndedRound) : Type 0 where
  pub round : IsRunRound (asked_of records) plan.fast (is_in keys) (round_ended ended)
  pub keys_are : (key : ℕ) → is_in ended.keys.items key
      ≡ members_after (is_in keys) (entries_of (round_ended ended)) key
  pub rising : IsStrictlyIncreasing ended.keys.items
  pub left_are : IsPermutation left (numbers_in (lists_in ended.made) ++ ended.left.items)
  pub fewer : length ended.left.items < length left
  pub changing : IsPermutation (changing_in (round_ended ended)) ended.changed.items
  pub workers : HasWorkers plan.seats (round_ended ended)
  pub lone : plan.seats ≡ 1 → LeavesLone records plan.room keys left ended

-- These rounds of the plan are a chain over the records, of which those in `left` are still to come,
-- and with one worker they are what its ledgers make of the records.
pub record IsRunSoFar (records : List IdRecord) (plan : Plan) (rounds : List RoundEnd)
    (left : List ℕ) : Type 0 where
  pub chain : IsRunChain (asked_of records) plan.fast rounds left
  pub lone : plan.seats ≡ 1 → (keys : List ℕ)
      × IsLoneRun plan.room [] (ids_of records) rounds keys (ids_at records left)

-- So it is with these rounds. The set has the keys, and these are the numbers of the records whose
-- insert changed it.
pub record HasInserted (records : List IdRecord) (plan : Plan) (rounds : List RoundEnd)
    (keys left changing : List ℕ) : Type 0 where
  pub chain : IsRunChain (asked_of records) plan.fast rounds left
  pub lone : plan.seats ≡ 1
      → IsLoneRun plan.room [] (ids_of records) rounds keys (ids_at records left)
  pub keys_are : (key : ℕ) → is_in keys key ≡ members_after no_key (chain_of rounds) key
  pub rising : IsStrictlyIncreasing keys
  pub changing_are : IsPermutation (changing_of rounds) changing
