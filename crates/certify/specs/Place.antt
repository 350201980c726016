-- What is wrong with a number at a place of an order, by the calls, the numbers at the earlier
-- places, and the plain set.
use Rattle.std.specs.Prelude.{◌≡◌, ◌≢◌, ◌⊎◌, ℕ, zero, suc, ◌-◌, ◌<◌, ◌≤◌, true, false, ◌==◌, List, [], ◌∷◌, ◌++◌, length, map, count_by, take, slice_index, Option, None, Some}
use Rattle.std.specs.List.{slice_get}
use Rattle.std.specs.Option.{option_map, option_to_list}
use Rattle.std.specs.FinSet as set
use Rattle.set_model.specs.Call.{answer_of}
use Rattle.set_model.specs.History.{set_after}
use Rattle.set_model.specs.Keys.{is_in}
use Rattle.set_model.specs.declared.entry.Entry.{Entry}
use Rattle.certify.specs.declared.claimed.Claimed.{Claimed}

-- who made each call
abbrev pub callers : List Claimed → List ℕ
callers calls = map (λ claimed. claimed.who) calls

-- who made the call of this number, from 1
abbrev pub caller_of : List Claimed → ℕ → ℕ
caller_of calls number = slice_index (callers calls) (number - 1)

-- a call as an entry of a history: its serial is how many calls its caller had made before
abbrev pub entry_claimed : List Claimed → Claimed → Entry
entry_claimed earlier claimed = record {
  who = claimed.who;
  serial = count_by (λ other. other.who == claimed.who) earlier;
  call = claimed.call;
  key = claimed.key;
  answer = claimed.answer;
}

-- the call of this number, from 1, as an entry, where there is one
abbrev pub entry_numbered : List Claimed → ℕ → Option Entry
entry_numbered calls zero = None
entry_numbered calls (suc index) =
    option_map (entry_claimed (take index calls)) (slice_get calls index)

-- the calls of these numbers, in their order, as a history
abbrev pub history_of : List Claimed → List ℕ → List Entry
history_of calls [] = []
history_of calls (number ∷ numbers) =
    option_to_list (entry_numbered calls number) ++ history_of calls numbers

-- no call has the number
abbrev pub IsUnknown : List Claimed → ℕ → Type 0
IsUnknown calls number = (number ≡ 0) ⊎ (length calls < number)

-- an earlier place has the same number
abbrev pub IsRepeated : List ℕ → ℕ → Type 0
IsRepeated earlier number = is_in earlier number ≡ true

-- a call of the same caller with a smaller number stands at no earlier place
pub record IsEarly (calls : List Claimed) (earlier : List ℕ) (number : ℕ) : Type 0 where
  pub smaller : ℕ
  pub some : 0 < smaller
  pub below : smaller < number
  pub caller : caller_of calls smaller ≡ caller_of calls number
  pub absent : is_in earlier smaller ≡ false

-- its answer isn't that of the plain set after the calls at the earlier places, from the empty set
pub record IsWrong (calls : List Claimed) (earlier : List ℕ) (number : ℕ) : Type 0 where
  pub entry : Entry
  pub numbered : entry_numbered calls number ≡ Some entry
  pub wrong : entry.answer
      ≢ answer_of entry.call entry.key (set_after set.empty (history_of calls earlier))

-- none of these
pub record IsFine (calls : List Claimed) (earlier : List ℕ) (number : ℕ) : Type 0 where
  pub known : ¬ IsUnknown calls number
  pub once : ¬ IsRepeated earlier number
  pub ready : ¬ IsEarly calls earlier number
  pub right : ¬ IsWrong calls earlier number

-- each of the four as the first of them that holds
abbrev pub FirstRepeated : List Claimed → List ℕ → ℕ → Type 0
FirstRepeated calls earlier number = (¬ IsUnknown calls number) × IsRepeated earlier number

abbrev pub FirstEarly : List Claimed → List ℕ → ℕ → Type 0
FirstEarly calls earlier number =
    (¬ IsUnknown calls number) × (¬ IsRepeated earlier number) × IsEarly calls earlier number

abbrev pub FirstWrong : List Claimed → List ℕ → ℕ → Type 0
FirstWrong calls earlier number =
    (¬ IsUnknown calls number) × (¬ IsRepeated earlier number) × (¬ IsEarly calls earlier number)
    × IsWrong calls earlier number

-- among the first so many calls the last of this caller, by its number from 1, or 0 where there is
-- none
pub record IsLast (callers : List ℕ) (count caller number : ℕ) : Type 0 where
  pub within : number ≤ count
  pub made_by : 0 < number → slice_index callers (number - 1) ≡ caller
  pub none : (k : ℕ) → number ≤ k → k < count → slice_index callers k ≢ caller
