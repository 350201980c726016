-- What is kept while an order is judged place by place.
use Rattle.std.specs.Prelude.{◌≡◌, ℕ, ◌+◌, ◌-◌, ◌<◌, ◌≤◌, Bool, true, false, nat_eq, List, length, slice_index, slice_index_or, Option, None, Some}
use Rattle.std.specs.HashSet.{HashSet, contains}
use Rattle.std.specs.declared.hash.FoldHasher.{FoldHasher}
use Rattle.std.specs.declared.hash.BuildHasherDefault.{BuildHasherDefault}
use Rattle.std.specs.FinSet as set
use Rattle.set_model.specs.History.{set_after}
use Rattle.set_model.specs.Keys.{is_in, IsTestOf}
use Rattle.certify.specs.Place.{IsUnknown, IsFine, FirstRepeated, FirstEarly, FirstWrong, callers, history_of}
use Rattle.certify.specs.declared.claimed.Claimed.{Claimed}
use Rattle.certify.specs.declared.verdict.Verdict.{Verdict}
use Rattle.certify.specs.declared.verdict.Verdict.TheVariants as verdict
use Rattle.certify.specs.declared.order.Judged.{Judged}
use Rattle.certify.specs.declared.order.Judged.TheVariants.{Fine, Unknown, Repeated, Early, Wrong}

-- the flag of each call tells whether its number is among these; with a call its caller's earlier
-- ones are; and the members are those of the plain set after their calls
pub record HasJudged (calls : List Claimed) (earlier : List ℕ) (seen : List Bool)
    (members : HashSet ℕ (BuildHasherDefault FoldHasher)) : Type 0 where
  pub flags : (k : ℕ) → k < length calls → slice_index_or seen k false ≡ is_in earlier (k + 1)
  pub callers : (k j : ℕ) → k < j → j < length calls
      → slice_index (callers calls) k ≡ slice_index (callers calls) j
      → slice_index_or seen j false ≡ true → slice_index_or seen k false ≡ true
  pub held : IsTestOf (contains nat_eq members) (set_after set.empty (history_of calls earlier))

-- what is wrong with the number first, if anything
abbrev pub IsJudged : List Claimed → List ℕ → ℕ → Judged → Type 0
IsJudged calls earlier number Fine = IsFine calls earlier number
IsJudged calls earlier number Unknown = IsUnknown calls number
IsJudged calls earlier number Repeated = FirstRepeated calls earlier number
IsJudged calls earlier number Early = FirstEarly calls earlier number
IsJudged calls earlier number Wrong = FirstWrong calls earlier number

-- the verdict on an order in which this is found at the place first
abbrev pub verdict_at : ℕ → Judged → Option Verdict
verdict_at place Fine = None
verdict_at place Unknown = Some (verdict.Unknown place)
verdict_at place Repeated = Some (verdict.Repeated place)
verdict_at place Early = Some (verdict.Early place)
verdict_at place Wrong = Some (verdict.Wrong place)

-- the verdict where nothing is wrong at any place: the first call without a flag is missing
abbrev pub IsFirstMissing : List Bool → Verdict → Type 0
IsFirstMissing seen (verdict.Missing number) =
    (0 < number) × (number ≤ length seen) × (slice_index_or seen (number - 1) false ≡ false)
    × ((k : ℕ) → k + 1 < number → slice_index_or seen k false ≡ true)
IsFirstMissing seen verdict.Legal = (k : ℕ) → k < length seen → slice_index_or seen k false ≡ true
IsFirstMissing seen other = ⊥
