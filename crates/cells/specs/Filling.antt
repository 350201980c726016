-- The exchange that fills a nil bucket: when it may be made, and what it tells.
use Rattle.std.specs.Prelude.{◌≡◌, ℕ, ◌+◌, false, List, ◌∷◌, All}
use Rattle.std.specs.List.Sorted.{IsStrictlyIncreasing}
use Rattle.set_model.specs.Keys.{is_in}
use Rattle.arena.specs.Hands.{words_at, without}
use Rattle.step_core.specs.Content.{bucket_of, spot_of, InClass}
use Rattle.step_core.specs.Format.{IsFrozen, row_address, row_words}
use Rattle.step_core.specs.Ledger.{touched}
use Rattle.step_core.specs.declared.published.Published.TheVariants.{Row}
use Rattle.step_core.specs.declared.published.GenerationBlock.{GenerationBlock}
use Rattle.step_core.specs.declared.published.RowBlock.{RowBlock}
use Rattle.step_core.specs.declared.views.PassView.{PassView}
use Rattle.cells.specs.Exchanges.{content_keys, fixed_at, hand_keys, named_row, IsSettled}
use Rattle.cells.specs.Known.{known_block, generation_at, bucket_at, KnowsRow, KnowsGeneration, IsBucketWord}
use Rattle.cells.specs.Lone.{first_generation, generation_in, head_at, head_generation, is_untouched, ledger_of, SameLedger}
use Rattle.cells.specs.Steps.{filled_bucket}

-- the row of a bucket of which the pass knows that it is frozen
abbrev pub source_row : PassView → ℕ → ℕ → RowBlock
source_row view at bucket = named_row view (fixed_at view.fixed at bucket)

-- the pass knows that the bucket is frozen, and its row, whose operation isn't undecided
pub record KnowsClosed (view : PassView) (at bucket : ℕ) : Type 0 where
  pub frozen : IsFrozen (fixed_at view.fixed at bucket)
  pub known : KnowsRow view (row_address (fixed_at view.fixed at bucket)) (source_row view at bucket)
  pub settled : IsSettled view (source_row view at bucket)

-- The place is a bucket of a known generation that has a predecessor, and the row in hand may fill it:
-- the pass knows that the sources, the predecessor's buckets that share a spot with it, are closed, and
-- the row has of the bucket's class what they have.
pub record MayFill (view : PassView) (place at : ℕ) : Type 0 where
  pub head : ℕ
  pub bucket : ℕ
  pub generation : GenerationBlock
  pub is_word : IsBucketWord view place head bucket generation
  pub source : GenerationBlock
  pub before : KnowsGeneration view generation.predecessor source
  pub closed : (spot : ℕ) → bucket_of generation.exponent spot ≡ bucket
      → KnowsClosed view generation.predecessor (bucket_of source.exponent spot)
  pub keys : List ℕ
  pub built : words_at view.hands at ≡ row_words keys
  pub rising : IsStrictlyIncreasing keys
  pub class : All (InClass generation.exponent bucket) keys
  pub content : (key : ℕ) → InClass generation.exponent bucket key → is_in keys key
      ≡ is_in (content_keys view
      (source_row view generation.predecessor (bucket_of source.exponent (spot_of key)))) key

-- the row in hand, once it is published for the bucket at the place
abbrev pub filling_row : PassView → ℕ → ℕ → RowBlock
filling_row view place at = record {
  exponent = (generation_in view.known (generation_at view.known place)
      (first_generation view.facts)).exponent;
  bucket = bucket_at view.known place;
  op = 0;
  ans = 0;
  keys = hand_keys view at;
}

-- A won exchange: the row is published, and the bucket isn't nil. The front stays, since no call took
-- effect.
abbrev pub view_after_fill : ℕ → ℕ → PassView → PassView
view_after_fill place at view = record view {
  known = known_block at (Row (filling_row view place at)) ∷ view.known;
  hands = without at view.hands;
  filled = filled_bucket view place ∷ view.filled;
  made = record view.made { fills = view.made.fills + 1 };
}

-- A lost exchange: the bucket isn't nil, and the block stays in hand.
abbrev pub view_after_lost_fill : ℕ → PassView → PassView
view_after_lost_fill place view = record view {
  filled = filled_bucket view place ∷ view.filled;
  made = record view.made { fills = view.made.fills + 1 };
}

-- what a won exchange tells
pub record FillsBucket (place at : ℕ) (view new : PassView) : Type 0 where
  pub view_is : new ≡ view_after_fill place at view
  pub alone : view.facts.seats ≡ 1
      → ledger_of new ≡ touched (bucket_at view.known place) (ledger_of view)

-- what a lost exchange is to a pass that is the only one: the bucket wasn't untouched
pub record LosesKnownFill (place : ℕ) (view new : PassView) : Type 0 where
  pub same : SameLedger view new
  pub filled : (bucket : ℕ) → IsBucketWord view place (head_at view) bucket (head_generation view)
      → is_untouched view bucket ≡ false

-- what a lost exchange tells
pub record LosesFill (place : ℕ) (view new : PassView) : Type 0 where
  pub view_is : new ≡ view_after_lost_fill place view
  pub alone : view.facts.seats ≡ 1 → LosesKnownFill place view new
