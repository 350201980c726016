-- How a resize ends.
use Rattle.std.specs.Prelude.{◌≡◌, ◌≢◌, ℕ, ◌+◌, ◌⊎◌, ◌≤◌, List, ◌∷◌, ◌++◌, length, replicate, None}
use Rattle.arena.specs.Hands.{words_at}
use Rattle.step_core.specs.Limits.{max_exponent}
use Rattle.step_core.specs.declared.format.TheConstants.{FIRST_BUCKET}
use Rattle.step_core.specs.declared.views.NilBucket.{NilBucket}
use Rattle.step_core.specs.declared.views.PassView.{PassView}
use Rattle.cells.specs.Frames.{OnlyDraws, after_reads}
use Rattle.cells.specs.HeadSwaps.{LosesHead, SwapsHead}
use Rattle.cells.specs.Steps.{LoadsHead}
use Rattle.fset.specs.Frames.{KeepsOwn, Spends}
use Rattle.fset.specs.Rows.{IsOutOfWords, OverdrewAfter, WasSpent}
use Rattle.buckets.specs.Filling.{FillsFirst, buckets_of, nils_cost}
use Rattle.buckets.specs.declared.outcomes.Resized.{Resized}
use Rattle.buckets.specs.declared.resizing.Way.{Way}
use Rattle.buckets.specs.declared.resizing.Way.TheVariants.{Grow, Shrink}
use Rattle.buckets.specs.declared.outcomes.Resized.TheVariants.{Changed, Moved, AtLimit, Full}

-- twice, and half, as many buckets
abbrev pub IsTwice : ℕ → ℕ → Type 0
IsTwice before after = after ≡ before + 1

abbrev pub IsHalf : ℕ → ℕ → Type 0
IsHalf before after = before ≡ after + 1

abbrev pub IsNextBy : Way → ℕ → ℕ → Type 0
IsNextBy Grow before after = IsTwice before after
IsNextBy Shrink before after = IsHalf before after

-- the exponent that none comes next to
abbrev pub limit_of : Way → ℕ
limit_of Grow = max_exponent
limit_of Shrink = 0

-- the words of a generation of the exponent
abbrev pub generation_cost : ℕ → ℕ
generation_cost exponent = FIRST_BUCKET + buckets_of exponent

-- the most words that a resize to the exponent draws which finds so many buckets nil, by the widest row
-- that it read or wrote
abbrev pub resize_cost : ℕ → ℕ → ℕ → ℕ
resize_cost nils exponent width = nils_cost nils width + generation_cost exponent

-- The head at the address was loaded, and its exponent.
pub record LoadsExponent (at exponent : ℕ) (old new : PassView) : Type 0 where
  pub between : PassView
  pub loads : LoadsHead old at between
  pub here : loads.generation.exponent ≡ exponent
  pub same : new ≡ after_reads 1 between

-- the exponent is that of the head which was loaded
abbrev pub IsExponent : ℕ → PassView → PassView → Type 0
IsExponent exponent old new = (at : ℕ) × LoadsExponent at exponent old new

-- A generation of the exponent with nil buckets, which follows the one at `head`, was drawn, and its
-- first two words written.
pub record BuildsNext (head exponent at : ℕ) (old new : PassView) : Type 0 where
  pub only : OnlyDraws old new
  pub built : words_at new.hands at ≡ exponent ∷ head ∷ replicate (buckets_of exponent) 0
  pub drawn : new.drawn ≡ old.drawn + generation_cost exponent
  pub unspent : old.spent ≡ None
  pub spent : new.spent ≡ old.spent
  pub made : new.made ≡ record old.made { draws = old.made.draws + 1; writes = old.made.writes + 2 }

-- No block for it was to be had.
pub record RefusesNext (exponent : ℕ) (old new : PassView) : Type 0 where
  pub only : OnlyDraws old new
  pub words : ℕ
  pub drawn : new.drawn ≡ old.drawn + words
  pub bound : words ≤ generation_cost exponent
  pub full : IsOutOfWords words old new
  pub same : (new.nils ≡ old.nils) × (new.made.head_swaps ≡ old.made.head_swaps)

-- A resize before its exchange: the head was loaded and so was each of its buckets, those that were nil
-- were filled, and the generation that comes next was built.
pub record IsPrepared (IsNext : ℕ → ℕ → Type 0) (head exponent at : ℕ) (old new : PassView) : Type 0
  where
    pub start : PassView
    pub before : ℕ
    pub loads : LoadsExponent head before old start
    pub next : IsNext before exponent
    pub small : exponent ≤ max_exponent
    pub filled : PassView
    pub fills : FillsFirst head before (buckets_of before) start filled
    pub builds : BuildsNext head exponent at filled new

-- No call took effect by it, and it found so many buckets nil and drew that much for them and for a
-- generation of the exponent. At most the turn that it opened was lost.
pub record Resizes (exponent : ℕ) (old new : PassView) : Type 0 where
  pub nils : List NilBucket
  pub found : new.nils ≡ nils ++ old.nils
  pub losses : ℕ
  pub few : losses ≤ 1
  pub spends : Spends (resize_cost (length nils) exponent) losses old new
  pub own : KeepsOwn old new

-- The call's exchange put the generation in the place of the head.
pub record ChangesHead (IsNext : ℕ → ℕ → Type 0) (exponent : ℕ) (old new : PassView) : Type 0 where
  pub head : ℕ
  pub at : ℕ
  pub ready : PassView
  pub is_prepared : IsPrepared IsNext head exponent at old ready
  pub swaps : SwapsHead head at ready new
  pub resizes : Resizes exponent old new
  pub unspent : old.spent ≡ None
  pub spent : new.spent ≡ old.spent

-- The exchange found another head, which a pass had put there since the call loaded the one that it
-- would have replaced.
pub record FindsMoved (IsNext : ℕ → ℕ → Type 0) (found : ℕ) (old new : PassView) : Type 0 where
  pub head : ℕ
  pub moved : found ≢ head
  pub exponent : ℕ
  pub at : ℕ
  pub ready : PassView
  pub is_prepared : IsPrepared IsNext head exponent at old ready
  pub loses : LosesHead head ready new
  pub resizes : Resizes exponent old new
  pub unspent : old.spent ≡ None
  pub spent : new.spent ≡ old.spent
  pub others : old.facts.seats ≢ 1

-- No block was to be had for a row that a nil bucket was to be filled with, or for the generation: the
-- pass was spent before, and the call drew nothing; or its last draw passed the end.
pub record RefusesResize (IsNext : ℕ → ℕ → Type 0) (old new : PassView) : Type 0 where
  pub head : ℕ
  pub before : ℕ
  pub start : PassView
  pub loads : LoadsExponent head before old start
  pub exponent : ℕ
  pub next : IsNext before exponent
  pub small : exponent ≤ max_exponent
  pub resizes : Resizes exponent old new
  pub first : ℕ
  pub last : ℕ
  pub words : resizes.spends.words ≡ first + last
  pub full : WasSpent resizes.spends.words old new ⊎ OverdrewAfter first last old new
  pub no_exchange : new.made.head_swaps ≡ old.made.head_swaps

-- how a resize ends that goes to the next exponent, but not past the limit
abbrev pub EndsResize : ℕ → (ℕ → ℕ → Type 0) → Resized → PassView → PassView → Type 0
EndsResize limit IsNext (Changed exponent) old new = ChangesHead IsNext exponent old new
EndsResize limit IsNext (Moved head) old new = FindsMoved IsNext head old new
EndsResize limit IsNext AtLimit old new = IsExponent limit old new
EndsResize limit IsNext Full old new = RefusesResize IsNext old new
