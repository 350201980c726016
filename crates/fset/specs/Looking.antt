-- Looking up the row of a key: in the head or, where its bucket isn't filled there yet, in the generation
-- before.
use Rattle.std.specs.Prelude.{◌≡◌, ℕ, ◌+◌, ◌*◌, ◌≤◌, ◌⊎◌, List, ◌∷◌, Some}
use mathlib.Core.List.{IsPrefix}
use Rattle.step_core.specs.Buckets.{key_bucket}
use Rattle.step_core.specs.Format.{IsNil, row_address}
use Rattle.step_core.specs.declared.published.GenerationBlock.{GenerationBlock}
use Rattle.step_core.specs.declared.published.RowBlock.{RowBlock}
use Rattle.step_core.specs.declared.views.FilledBucket.{FilledBucket}
use Rattle.step_core.specs.declared.views.HeadLoad.{HeadLoad}
use Rattle.step_core.specs.declared.views.Known.{Known}
use Rattle.step_core.specs.declared.views.NilBucket.{NilBucket}
use Rattle.step_core.specs.declared.views.PassView.{PassView}
use Rattle.cells.specs.Known.{row_at, KnowsGeneration}
use Rattle.cells.specs.Lone.{SameLedger}
use Rattle.cells.specs.Steps.{LoadsSealed}
use Rattle.fset.specs.Content.{Agrees}
use Rattle.fset.specs.Frames.{Grows, KeepsOwn, latest_row}
use Rattle.fset.specs.Seeking.{LoadsBucketOf}
use Rattle.fset.specs.Seen.{IsSeen}
use Rattle.fset.specs.declared.seeking.LoadedBucket.{LoadedBucket}
use Rattle.fset.specs.declared.seen.Seen.{Seen}

-- the row is that of the key's bucket in the head, which isn't nil
pub record MeetsInHead (head key : ℕ) (old : PassView) (at : ℕ) (new : PassView) : Type 0 where
  pub bucket : LoadedBucket
  pub loads : LoadsBucketOf head key old bucket new
  pub filled : ¬ IsNil bucket.word
  pub row : at ≡ row_address bucket.word

-- that bucket is nil, and the row is that of the key's bucket in the generation before
pub record MeetsBefore (head key : ℕ) (old : PassView) (at : ℕ) (new : PassView) : Type 0 where
  pub nil : LoadedBucket
  pub found : PassView
  pub finds : LoadsBucketOf head key old nil found
  pub is_nil : IsNil nil.word
  pub predecessor : ℕ
  pub named : PassView
  pub names : LoadsSealed (head + 1) found predecessor named
  pub bucket : LoadedBucket
  pub loads : LoadsBucketOf predecessor key named bucket new
  pub row : at ≡ row_address bucket.word

-- so one bucket was loaded in the head, and at most one in the generation before
abbrev pub MeetsRow : ℕ → ℕ → PassView → ℕ → PassView → Type 0
MeetsRow head key old at new = MeetsInHead head key old at new ⊎ MeetsBefore head key old at new

-- the bucket of a key in a generation, as one that isn't nil
abbrev pub key_bucket_at : ℕ → GenerationBlock → ℕ → FilledBucket
key_bucket_at at generation key =
    record { at = at; bucket = key_bucket generation.exponent key }

-- of all buckets only the key's in the head was loaded, once, and isn't nil
pub record LoadsInHead (head key : ℕ) (old new : PassView) : Type 0 where
  pub generation : GenerationBlock
  pub known : KnowsGeneration new head generation
  pub filled : new.filled ≡ key_bucket_at head generation key ∷ old.filled
  pub nils : new.nils ≡ old.nils
  pub loads : new.made.bucket_loads ≡ old.made.bucket_loads + 1

-- the key's bucket in the head was loaded, once, and found nil, and then its bucket in the generation
-- before, once, and no other
pub record LoadsBehind (head key : ℕ) (old new : PassView) : Type 0 where
  pub generation : GenerationBlock
  pub known : KnowsGeneration new head generation
  pub nil : NilBucket
  pub found : (nil.at ≡ head) × (nil.bucket ≡ key_bucket generation.exponent key)
  pub nils : new.nils ≡ nil ∷ old.nils
  pub source : GenerationBlock
  pub before : KnowsGeneration new generation.predecessor source
  pub filled : new.filled ≡ key_bucket_at generation.predecessor source key ∷ old.filled
  pub loads : new.made.bucket_loads ≡ old.made.bucket_loads + 2

-- so each of the two generations had at most one bucket loaded
abbrev pub LoadsEachOnce : ℕ → ℕ → PassView → PassView → Type 0
LoadsEachOnce head key old new = LoadsInHead head key old new ⊎ LoadsBehind head key old new

-- The row of a key was looked up and read, by one load of the head and of one bucket or two. Of the key
-- it says what the set after the pass's new front says, which isn't shorter than its front at the load of
-- the head. Nothing was drawn, no entry was made, and at most one turn was lost: one that was open.
pub record LooksUp (key : ℕ) (old : PassView) (found : Seen) (new : PassView) : Type 0 where
  pub learned : List Known
  pub losses : ℕ
  pub few : losses ≤ 1
  pub grows : Grows learned 0 losses old new
  pub own : KeepsOwn old new
  pub row : RowBlock
  pub latest : latest_row learned ≡ Some row
  pub is_row : row_at new.known found.at ≡ row
  pub seen : IsSeen new found
  pub agrees : Agrees new found key
  pub head : HeadLoad
  pub heads : new.heads ≡ head ∷ old.heads
  pub further : IsPrefix head.front new.front
  pub spent : new.spent ≡ old.spent
  pub hands : new.hands ≡ old.hands
  pub buckets : ℕ
  pub few_buckets : (buckets ≡ 1) ⊎ (buckets ≡ 2)
  pub each_once : LoadsEachOnce head.at key old new
  -- the exponent of each generation, the predecessor between two, and two words of the row
  pub sealed : ℕ
  pub few_sealed : sealed ≡ 2 * buckets + 1
  pub made : new.made ≡ record old.made {
    head_loads = old.made.head_loads + 1;
    sealed_loads = old.made.sealed_loads + sealed;
    bucket_loads = old.made.bucket_loads + buckets;
  }
  pub alone : old.facts.seats ≡ 1 → SameLedger old new
