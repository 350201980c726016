-- Loading each bucket of the head, and filling those that are nil.
use Rattle.std.specs.Prelude.{◌≡◌, ◌≢◌, ℕ, ◌+◌, ◌*◌, ◌^◌, ◌<◌, ◌≤◌, ◌⊎◌, true, List, ◌++◌, length, None}
use Rattle.step_core.specs.declared.published.GenerationBlock.{GenerationBlock}
use Rattle.step_core.specs.declared.views.NilBucket.{NilBucket}
use Rattle.step_core.specs.declared.views.PassView.{PassView}
use Rattle.step_core.specs.declared.views.StepCounts.{StepCounts}
use Rattle.cells.specs.Known.{KnowsGeneration}
use Rattle.cells.specs.Lone.{is_among}
use Rattle.fset.specs.Frames.{IsBehind, KeepsOwn, Spends}
use Rattle.fset.specs.Rows.{IsOutOfWords, OverdrewAfter, WasSpent}

-- the pass knows the generation at the address, which has this exponent
pub record KnowsExponent (view : PassView) (at exponent : ℕ) : Type 0 where
  pub generation : GenerationBlock
  pub known : KnowsGeneration view at generation
  pub here : generation.exponent ≡ exponent

-- the bucket of the known generation isn't nil: the pass knows so, or there is none to fill it from
abbrev pub IsFilledBucket : PassView → ℕ → GenerationBlock → ℕ → Type 0
IsFilledBucket view at generation bucket =
    (is_among view.filled at bucket ≡ true) ⊎ (generation.predecessor ≡ 0)

-- a generation of the exponent has so many buckets
abbrev pub buckets_of : ℕ → ℕ
buckets_of exponent = 2 ^ exponent

-- the most words that so many nil buckets are filled with, by the widest row that was read or written
abbrev pub nils_cost : ℕ → ℕ → ℕ
nils_cost nils width = nils * (2 * width + 5)

-- at most the turn was lost that was open, and none is open then
abbrev pub LosesOpenTurn : ℕ → PassView → PassView → Type 0
LosesOpenTurn losses old new = ((losses ≡ 0) × (old.turn ≡ None → new.turn ≡ None))
    ⊎ ((losses ≡ 1) × (old.turn ≢ None) × (new.turn ≡ None))

-- of the steps that are counted, for so many buckets one load each, and for so many of these that were
-- nil at most one draw, one exchange and two freezes each
pub record AreFills (buckets nils : ℕ) (before after : StepCounts) : Type 0 where
  pub only : after ≡ record before {
    sealed_loads = after.sealed_loads;
    bucket_loads = before.bucket_loads + buckets;
    draws = after.draws;
    writes = after.writes;
    fills = after.fills;
    freezes = after.freezes;
  }
  pub draws : after.draws ≤ before.draws + nils
  pub fills : after.fills ≤ before.fills + nils
  pub freezes : after.freezes ≤ before.freezes + 2 * nils
  -- where none was nil, nothing was written
  pub none : nils ≡ 0 → after ≡ record before { bucket_loads = before.bucket_loads + buckets }

-- So many buckets of generations were loaded, and those that were found nil filled, or the last of them
-- not. No call took effect.
pub record Fills (buckets : ℕ) (old new : PassView) : Type 0 where
  pub nils : List NilBucket
  pub found : new.nils ≡ nils ++ old.nils
  pub losses : ℕ
  pub few : LosesOpenTurn losses old new
  pub spends : Spends (nils_cost (length nils)) losses old new
  pub own : KeepsOwn old new
  pub heads : new.heads ≡ old.heads
  pub filled : IsBehind old.filled new.filled
  pub steps : AreFills buckets (length nils) old.made new.made

-- The bucket of the generation at the address is known not to be nil.
pub record FillsOne (at bucket : ℕ) (old new : PassView) : Type 0 where
  pub fills : Fills 1 old new
  pub unspent : (old.spent ≡ None) ⊎ (fills.spends.words ≡ 0)
  pub spent : new.spent ≡ old.spent
  pub filled : (generation : GenerationBlock) → KnowsGeneration old at generation
      → IsFilledBucket new at generation bucket

-- No block was to be had for a row to fill it with.
pub record RefusesOne (old new : PassView) : Type 0 where
  pub fills : Fills 1 old new
  pub full : IsOutOfWords fills.spends.words old new

-- The first buckets of the generation, so many, are known not to be nil.
pub record FillsFirst (at exponent count : ℕ) (old new : PassView) : Type 0 where
  pub fills : Fills count old new
  pub unspent : (old.spent ≡ None) ⊎ (fills.spends.words ≡ 0)
  pub spent : new.spent ≡ old.spent
  pub generation : GenerationBlock
  pub known : KnowsGeneration old at generation
  pub here : generation.exponent ≡ exponent
  pub none_nil : (bucket : ℕ) → bucket < count → IsFilledBucket new at generation bucket

-- No block was to be had for a row that one of the generation's buckets was to be filled with.
pub record RefusesFirst (exponent : ℕ) (old new : PassView) : Type 0 where
  pub buckets : ℕ
  pub within : buckets ≤ buckets_of exponent
  pub fills : Fills buckets old new
  pub before : ℕ
  pub last : ℕ
  pub words : fills.spends.words ≡ before + last
  pub full : WasSpent fills.spends.words old new ⊎ OverdrewAfter before last old new
