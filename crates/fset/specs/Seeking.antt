-- The bucket of a key, as the open turn of a pass loaded it, and its row.
use Rattle.std.specs.Prelude.{◌≡◌, ℕ, ◌+◌, ◌*◌, ◌≤◌, ◌⊎◌, ◌∷◌, Contains, Some, None}
use Rattle.step_core.specs.Buckets.{key_bucket}
use Rattle.step_core.specs.Content.{InClass}
use Rattle.step_core.specs.Format.{IsNil, IsMutable, IsFrozen, row_address}
use Rattle.step_core.specs.declared.published.GenerationBlock.{GenerationBlock}
use Rattle.step_core.specs.declared.published.RowBlock.{RowBlock}
use Rattle.step_core.specs.declared.views.NilBucket.{NilBucket}
use Rattle.step_core.specs.declared.views.OpenTurn.{OpenTurn}
use Rattle.step_core.specs.declared.views.PassView.{PassView}
use Rattle.step_core.specs.declared.views.StepCounts.{StepCounts}
use Rattle.cells.specs.Exchanges.{load_of}
use Rattle.cells.specs.Frames.{after_reads}
use Rattle.cells.specs.Known.{IsBucketWord, KnowsGeneration, KnowsRow, row_at}
use Rattle.cells.specs.Marks.{IsMarkedFor}
use Rattle.cells.specs.Steps.{LoadsBucket}
use Rattle.fset.specs.Content.{Agrees}
use Rattle.fset.specs.Frames.{KeepsOwn, Spends, filling_cost, latest_row, row_cost}
use Rattle.fset.specs.Rows.{IsOutOfWords}
use Rattle.fset.specs.Seen.{IsSeen}
use Rattle.fset.specs.declared.outcomes.Seek.{Seek}
use Rattle.fset.specs.declared.outcomes.Seek.TheVariants.{Found, Frozen, Full}
use Rattle.fset.specs.declared.seeking.LoadedBucket.{LoadedBucket}
use Rattle.fset.specs.declared.seeking.Sought.{Sought}

-- the address is that of a known generation
abbrev pub KnowsGenerationAt : PassView → ℕ → Type 0
KnowsGenerationAt view at = (generation : GenerationBlock) × KnowsGeneration view at generation

-- the exponent of a known generation was loaded, and then the bucket of the key in it
pub record LoadsBucketOf (at key : ℕ) (old : PassView) (bucket : LoadedBucket) (new : PassView)
    : Type 0 where
  pub generation : GenerationBlock
  pub number : bucket.bucket ≡ key_bucket generation.exponent key
  pub is_word : IsBucketWord (after_reads 1 old) bucket.place at
      (key_bucket generation.exponent key) generation
  pub loads : LoadsBucket bucket.place (after_reads 1 old) bucket.word new

-- The open turn loaded the bucket of the key, in its head, and found this word of a mutable row.
-- That stays so until the turn is closed.
pub record HasKeyBucket (view : PassView) (key place word : ℕ) : Type 0 where
  pub turn : OpenTurn
  pub is_turn : view.turn ≡ Some turn
  pub generation : GenerationBlock
  pub is_word : IsBucketWord view place turn.head (key_bucket generation.exponent key) generation
  pub loaded : Contains turn.loads (load_of turn.head (key_bucket generation.exponent key) word)
  pub some_row : ¬ IsNil word
  pub mutable : IsMutable word

-- of the steps that are counted these were made to find the row of a key: one load of the head, one of
-- a bucket and one more for an exchange that fills it, and where it was nil those that fill it
pub record AreOneSeek (before after : StepCounts) : Type 0 where
  pub only : after ≡ record before {
    head_loads = before.head_loads + 1;
    sealed_loads = after.sealed_loads;
    bucket_loads = after.bucket_loads;
    draws = after.draws;
    writes = after.writes;
    fills = after.fills;
    freezes = after.freezes;
  }
  pub some_bucket : before.bucket_loads + 1 ≤ after.bucket_loads
  pub buckets : after.bucket_loads + before.fills ≤ before.bucket_loads + 1 + after.fills
  pub draws : after.draws ≤ before.draws + 1
  pub no_fewer : before.fills ≤ after.fills
  pub fills : after.fills ≤ before.fills + 1
  pub freezes : after.freezes ≤ before.freezes + 2

-- where no bucket was filled, none of these words was drawn, and the blocks in hand are the same
abbrev pub DrawsToFill : ℕ → PassView → PassView → Type 0
DrawsToFill words old new = new.made.fills ≡ old.made.fills
    → (words ≡ 0) × (new.hands ≡ old.hands)

-- draws and freezes were made to fill a bucket alone: for each exchange at most one draw and two freezes
pub record OnlyForFills (before after : StepCounts) : Type 0 where
  pub draws : after.draws + before.fills ≤ before.draws + after.fills
  pub freezes : after.freezes + 2 * before.fills ≤ before.freezes + 2 * after.fills

-- the bucket isn't frozen: the turn is open, and its row is marked for the key
pub record GoesOn (key : ℕ) (bucket : LoadedBucket) (losses : ℕ) (new : PassView) : Type 0 where
  pub none_lost : losses ≡ 0
  pub loaded : HasKeyBucket new key bucket.place bucket.word
  pub marked : IsMarkedFor new (row_address bucket.word) key

-- A turn was opened, and the key's bucket in its head loaded, which isn't nil. Its row is of the key's
-- class. Where it is frozen, the turn is lost. At most one row was drawn for: the one to fill it.
pub record LoadsKeyBucket (key : ℕ) (old : PassView) (bucket : LoadedBucket) (new : PassView)
    : Type 0 where
  pub losses : ℕ
  pub spends : Spends row_cost losses old new
  pub row : RowBlock
  pub latest : latest_row spends.learned ≡ Some row
  pub known : KnowsRow new (row_address bucket.word) row
  pub is_row : row_at new.known (row_address bucket.word) ≡ row
  pub home : InClass row.exponent row.bucket key
  pub own : KeepsOwn old new
  pub mutable : IsMutable bucket.word → GoesOn key bucket losses new
  pub frozen : IsFrozen bucket.word → (losses ≡ 1) × (new.turn ≡ None)
  pub unspent : (old.spent ≡ None) ⊎ (spends.words ≡ 0)
  pub unfilled : DrawsToFill spends.words old new
  pub for_fills : OnlyForFills old.made new.made
  pub spent : new.spent ≡ old.spent
  pub steps : AreOneSeek old.made new.made

-- A turn on its way from the load of the head to its exchange: what it drew is bounded, no turn was
-- lost and no entry made, the bucket of the key is loaded, and its row is read.
pub record IsUnderWay (key : ℕ) (cost : ℕ → ℕ) (old : PassView) (sought : Sought) (new : PassView)
    : Type 0 where
  pub spends : Spends cost 0 old new
  pub row : RowBlock
  pub own : KeepsOwn old new
  pub loaded : HasKeyBucket new key sought.place sought.word
  pub address : sought.row.at ≡ row_address sought.word
  pub seen : IsSeen new sought.row
  pub latest : latest_row spends.learned ≡ Some row
  pub is_row : row_at new.known sought.row.at ≡ row
  pub home : InClass row.exponent row.bucket key

-- The key's bucket and row were found in a turn, which is open. Of the key, the row says what the set
-- after the pass's front says.
pub record Seeks (key : ℕ) (old : PassView) (sought : Sought) (new : PassView) : Type 0 where
  pub under_way : IsUnderWay key row_cost old sought new
  pub agrees : Agrees new sought.row key
  pub unspent : (old.spent ≡ None) ⊎ (under_way.spends.words ≡ 0)
  pub unfilled : DrawsToFill under_way.spends.words old new
  pub for_fills : OnlyForFills old.made new.made
  pub spent : new.spent ≡ old.spent
  pub steps : AreOneSeek old.made new.made

-- The key's bucket was frozen when it was loaded, so the turn is lost, and none is open.
pub record FindsFrozen (old new : PassView) : Type 0 where
  pub spends : Spends row_cost 1 old new
  pub own : KeepsOwn old new
  pub closed : new.turn ≡ None
  pub unspent : (old.spent ≡ None) ⊎ (spends.words ≡ 0)
  pub unfilled : DrawsToFill spends.words old new
  pub for_fills : OnlyForFills old.made new.made
  pub spent : new.spent ≡ old.spent
  pub steps : AreOneSeek old.made new.made

-- The key's bucket was nil, and no block for a row to fill it with was to be had.
pub record FindsNil (key : ℕ) (old new : PassView) : Type 0 where
  pub nil : NilBucket
  pub nils : new.nils ≡ nil ∷ old.nils
  pub generation : GenerationBlock
  pub known : KnowsGeneration new nil.at generation
  pub class : InClass generation.exponent nil.bucket key
  pub spends : Spends filling_cost 0 old new
  pub own : KeepsOwn old new
  pub full : IsOutOfWords spends.words old new
  pub steps : AreOneSeek old.made new.made

-- how the seek of a key's row in a turn ends
abbrev pub EndsSeek : ℕ → Seek → PassView → PassView → Type 0
EndsSeek key (Found sought) old new = Seeks key old sought new
EndsSeek key Frozen old new = FindsFrozen old new
EndsSeek key Full old new = FindsNil key old new
