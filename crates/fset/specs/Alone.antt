-- How the calls on buckets end for a pass that is the only one of its round: as its ledger says.
use Rattle.std.specs.Prelude.{◌≡◌, ℕ, ◌+◌, Bool, true, false}
use Rattle.set_model.specs.Keys.{is_in}
use Rattle.set_model.specs.declared.call.Call.{Call}
use Rattle.step_core.specs.Buckets.{key_bucket}
use Rattle.step_core.specs.Content.{InClass}
use Rattle.step_core.specs.Format.{IsMutable, row_address}
use Rattle.step_core.specs.Ledger.{answer_of, bucket_for, bucket_keys, draw_row, touch, touch_for, width_of, write}
use Rattle.step_core.specs.declared.format.TheConstants.{FIRST_BUCKET}
use Rattle.step_core.specs.declared.published.GenerationBlock.{GenerationBlock}
use Rattle.step_core.specs.declared.views.PassView.{PassView}
use Rattle.cells.specs.Known.{keys_at, IsBucketWord}
use Rattle.cells.specs.Lone.{head_generation, is_untouched, ledger_of, EndsAlone, EndsAs, IsNilOfHead, SameLedger}
use Rattle.fset.specs.declared.outcomes.Answered.{Answered}
use Rattle.fset.specs.declared.outcomes.Seek.{Seek}
use Rattle.fset.specs.declared.outcomes.Seek.TheVariants as seek
use Rattle.fset.specs.declared.outcomes.Turn.{Turn}
use Rattle.fset.specs.declared.outcomes.Turn.TheVariants as turn
use Rattle.fset.specs.declared.seeking.LoadedBucket.{LoadedBucket}
use Rattle.fset.specs.declared.seeking.Sought.{Sought}
use Rattle.fset.specs.declared.seen.Seen.{Seen}

-- A bucket was frozen and its row read. Where it is of the generation before the head's, the row has
-- those keys of the set that are of untouched buckets.
pub record ClosesAlone (at bucket : ℕ) (old : PassView) (seen : Seen) (new : PassView)
    : Type 0 where
  pub same : SameLedger old new
  pub agrees : (source : GenerationBlock)
      → IsBucketWord old (at + FIRST_BUCKET + bucket) at bucket source
      → (head_generation old).predecessor ≡ at
      → (key : ℕ) → InClass source.exponent bucket key
      → is_untouched old (key_bucket (head_generation old).exponent key) ≡ true
      → is_in (keys_at new seen.at) key ≡ is_in (ledger_of old).keys key

-- the row that a nil bucket of the head is filled with was built, or not
abbrev pub BuildsAlone : ℕ → ℕ → Bool → PassView → PassView → Type 0
BuildsAlone head bucket full old new =
    IsNilOfHead head bucket old → EndsAlone (draw_row bucket) full old new

-- a nil bucket of the head was filled, or not
abbrev pub FillsAlone : ℕ → ℕ → Bool → PassView → PassView → Type 0
FillsAlone head bucket full old new =
    IsNilOfHead head bucket old → EndsAlone (touch bucket) full old new

-- the row at the address has the keys of the set that are of the key's bucket
abbrev pub HasBucketKeys : ℕ → ℕ → PassView → Type 0
HasBucketKeys at key view =
    keys_at view at ≡ bucket_keys (bucket_for key (ledger_of view)) (ledger_of view)

-- the key's bucket was loaded, and filled first where it was nil
pub record LoadsAlone (key : ℕ) (old : PassView) (bucket : LoadedBucket) (new : PassView)
    : Type 0 where
  pub ends : EndsAs (touch_for key (ledger_of old)) false new
  pub mutable : IsMutable bucket.word
  pub keys : HasBucketKeys (row_address bucket.word) key new

-- its row was found
pub record FindsAlone (key : ℕ) (old : PassView) (sought : Sought) (new : PassView) : Type 0 where
  pub ends : EndsAs (touch_for key (ledger_of old)) false new
  pub keys : HasBucketKeys sought.row.at key new

-- how the seek of a key's row ends: it finds no frozen bucket
abbrev pub EndsSeekAlone : ℕ → Seek → PassView → PassView → Type 0
EndsSeekAlone key (seek.Found sought) old new = FindsAlone key old sought new
EndsSeekAlone key seek.Frozen old new = ⊥
EndsSeekAlone key seek.Full old new = EndsAs (touch_for key (ledger_of old)) true new

-- an insert or a remove was answered, with how many keys the key's bucket has after it
pub record AnswersAlone (call : Call) (key : ℕ) (answered : Answered) (old new : PassView)
    : Type 0 where
  pub ends : EndsAs (write call key (ledger_of old)) false new
  pub changed : answered.changed ≡ answer_of call key (ledger_of old)
  pub width : answered.width ≡ width_of key (ledger_of new)

-- how a turn ends: it isn't lost
abbrev pub EndsTurnAlone : Call → ℕ → Turn → PassView → PassView → Type 0
EndsTurnAlone call key (turn.Done answered) old new = AnswersAlone call key answered old new
EndsTurnAlone call key turn.Lost old new = ⊥
EndsTurnAlone call key turn.Full old new = EndsAs (write call key (ledger_of old)) true new
