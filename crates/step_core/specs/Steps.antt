-- The table of steps: each step's word, what becomes of it, and the number given.
use Rattle.std.specs.Prelude.{ℕ, ◌+◌, ◌<◌, ◌≤◌, ◌^◌, ◌==◌, if◌then◌else◌, List, length, slice_index, slice_set}
use Rattle.step_core.specs.Format.{next_of, frozen_word}
use Rattle.step_core.specs.declared.format.TheConstants.{HEAD, NEXT}
use Rattle.step_core.specs.declared.kinds.Step.{Step}
use Rattle.step_core.specs.declared.kinds.Step.TheVariants.{LoadHead, LoadSealed, LoadBucket, Draw, Write, SwapRow, InitBucket, Freeze, SwapHead}

-- the place of the word that the step works on
abbrev pub place_of : Step → ℕ
place_of LoadHead = HEAD
place_of (LoadSealed at) = at
place_of (LoadBucket at) = at
place_of (Draw len) = NEXT
place_of (Write at value) = at
place_of (SwapRow at old new) = at
place_of (InitBucket at new) = at
place_of (Freeze at) = at
place_of (SwapHead old new) = HEAD

-- what the step leaves of that word
abbrev pub becomes : Step → ℕ → ℕ
becomes LoadHead word = word
becomes (LoadSealed at) word = word
becomes (LoadBucket at) word = word
becomes (Draw len) word = word + len
becomes (Write at value) word = value
becomes (SwapRow at old new) word = if word == old then new else word
becomes (InitBucket at new) word = if word == 0 then new else word
becomes (Freeze at) word = frozen_word word
becomes (SwapHead old new) word = if word == old then new else word

-- the number that the step gives, from the word as it was
abbrev pub gives : Step → ℕ → ℕ
gives LoadHead word = word
gives (LoadSealed at) word = word
gives (LoadBucket at) word = word
gives (Draw len) word = word
gives (Write at value) word = value
gives (SwapRow at old new) word = word
gives (InitBucket at new) word = word
gives (Freeze at) word = word
gives (SwapHead old new) word = word

-- the words after the step: one may be new, the others stay
abbrev pub after_step : Step → List ℕ → List ℕ
after_step step words =
    slice_set words (place_of step) (becomes step (slice_index words (place_of step)))

-- the step works on one of the words
abbrev pub IsInRange : Step → List ℕ → Type 0
IsInRange step words = place_of step < length words

-- the sum that a draw leaves in NEXT doesn't pass 2^63
abbrev pub SumFits : Step → List ℕ → Type 0
SumFits LoadHead words = Unit {0}
SumFits (LoadSealed at) words = Unit {0}
SumFits (LoadBucket at) words = Unit {0}
SumFits (Draw len) words = next_of words + len ≤ 2 ^ 63
SumFits (Write at value) words = Unit {0}
SumFits (SwapRow at old new) words = Unit {0}
SumFits (InitBucket at new) words = Unit {0}
SumFits (Freeze at) words = Unit {0}
SumFits (SwapHead old new) words = Unit {0}
