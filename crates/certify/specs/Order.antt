-- What a claimed order is found to be, and when it is legal.
use Rattle.std.specs.Prelude.{◌≡◌, ℕ, ◌+◌, ◌-◌, ◌<◌, ◌≤◌, true, false, List, length, take, slice_index}
use Rattle.std.specs.FinSet as set
use Rattle.set_model.specs.History.{IsLegalFrom}
use Rattle.set_model.specs.Keys.{is_in}
use Rattle.certify.specs.Place.{IsUnknown, IsFine, FirstRepeated, FirstEarly, FirstWrong, caller_of, history_of}
use Rattle.certify.specs.declared.claimed.Claimed.{Claimed}
use Rattle.certify.specs.declared.verdict.Verdict.{Verdict}
use Rattle.certify.specs.declared.verdict.Verdict.TheVariants.{Legal, Unknown, Repeated, Early, Wrong, Missing}

-- the order has this place, from 1
abbrev pub IsPlace : List ℕ → ℕ → Type 0
IsPlace order place = (0 < place) × (place ≤ length order)

-- the number at a place
abbrev pub number_at : List ℕ → ℕ → ℕ
number_at order place = slice_index order (place - 1)

-- the numbers at the places before it
abbrev pub numbers_before : List ℕ → ℕ → List ℕ
numbers_before order place = take (place - 1) order

-- nothing is wrong at the first so many places
abbrev pub AreFine : List Claimed → List ℕ → ℕ → Type 0
AreFine calls order count = (place : ℕ) → 0 < place → place ≤ count
    → IsFine calls (numbers_before order place) (number_at order place)

-- the order has this place, and nothing is wrong at the places before it
abbrev pub IsReached : List Claimed → List ℕ → ℕ → Type 0
IsReached calls order place = IsPlace order place × AreFine calls order (place - 1)

-- each call below this number stands at some place
abbrev pub StandBelow : List ℕ → ℕ → Type 0
StandBelow order count = (number : ℕ) → 0 < number → number < count → is_in order number ≡ true

-- the verdict: the least place at which something is wrong, and there what comes first; else the
-- least number that stands at no place; else legal
abbrev pub IsVerdict : List Claimed → List ℕ → Verdict → Type 0
IsVerdict calls order (Unknown place) =
    IsReached calls order place × IsUnknown calls (number_at order place)
IsVerdict calls order (Repeated place) =
    IsReached calls order place
    × FirstRepeated calls (numbers_before order place) (number_at order place)
IsVerdict calls order (Early place) =
    IsReached calls order place
    × FirstEarly calls (numbers_before order place) (number_at order place)
IsVerdict calls order (Wrong place) =
    IsReached calls order place
    × FirstWrong calls (numbers_before order place) (number_at order place)
IsVerdict calls order (Missing number) =
    AreFine calls order (length order) × StandBelow order number
    × (0 < number) × (number ≤ length calls) × (is_in order number ≡ false)
IsVerdict calls order Legal =
    AreFine calls order (length order) × StandBelow order (length calls + 1)

-- The order has each call once, keeps each caller's order, and its calls are a legal history from
-- the empty set.
pub record IsLegalOrder (calls : List Claimed) (order : List ℕ) : Type 0 where
  pub known : (place : ℕ) → IsPlace order place
      → (0 < number_at order place) × (number_at order place ≤ length calls)
  pub once : (place other : ℕ) → IsPlace order place → IsPlace order other
      → number_at order place ≡ number_at order other → place ≡ other
  pub each : (number : ℕ) → 0 < number → number ≤ length calls
      → (place : ℕ) × IsPlace order place × (number_at order place ≡ number)
  pub callers : (place later : ℕ) → IsPlace order place → IsPlace order later → place < later
      → caller_of calls (number_at order place) ≡ caller_of calls (number_at order later)
      → number_at order place < number_at order later
  pub legal : IsLegalFrom set.empty (history_of calls order)
