-- The freeze of a bucket: when it may be made, and what it tells.
use Rattle.std.specs.Prelude.{◌≡◌, ℕ, ◌+◌, true, List, ◌∷◌}
use mathlib.Core.List.{IsPrefix}
use Rattle.set_model.specs.History.{members_after}
use Rattle.set_model.specs.Keys.{is_in}
use Rattle.set_model.specs.declared.entry.Entry.{Entry}
use Rattle.step_core.specs.Buckets.{key_bucket}
use Rattle.step_core.specs.Content.{InClass}
use Rattle.step_core.specs.Format.{IsNil, row_address, frozen_word}
use Rattle.step_core.specs.declared.published.Published.TheVariants.{Row}
use Rattle.step_core.specs.declared.published.GenerationBlock.{GenerationBlock}
use Rattle.step_core.specs.declared.published.RowBlock.{RowBlock}
use Rattle.step_core.specs.declared.views.FixedCell.{FixedCell}
use Rattle.step_core.specs.declared.views.PassView.{PassView}
use Rattle.cells.specs.Known.{known_block, generation_at, bucket_at, IsBucketWord, KnowsGeneration}
use Rattle.cells.specs.Lone.{head_generation, is_untouched, SameLedger}
use Rattle.cells.specs.Steps.{NamesOwnRow}

-- The place is a bucket word of a known generation that another is known to follow: so it isn't the
-- head's.
pub record MayFreeze (view : PassView) (place : ℕ) : Type 0 where
  pub at : ℕ
  pub bucket : ℕ
  pub generation : GenerationBlock
  pub is_word : IsBucketWord view place at bucket generation
  pub later : ℕ
  pub newer : GenerationBlock
  pub known : KnowsGeneration view later newer
  pub follows : newer.predecessor ≡ at

-- the bucket's cell, as it stays from then on
abbrev pub frozen_cell : PassView → ℕ → ℕ → FixedCell
frozen_cell view place word = record {
  at = generation_at view.known place;
  place = bucket_at view.known place;
  word = frozen_word word;
}

-- the bucket is known to be frozen, and so is its row
abbrev pub view_after_freeze : ℕ → ℕ → List Entry → RowBlock → PassView → PassView
view_after_freeze place word history row view = record view {
  horizon = history;
  known = known_block (row_address word) (Row row) ∷ view.known;
  fixed = frozen_cell view place word ∷ view.fixed;
  made = record view.made { freezes = view.made.freezes + 1 };
}

-- What a freeze tells a pass that is the only one: where the bucket is of the generation before the
-- head's, a row without an operation has those keys of the set that are of untouched buckets.
pub record FreezesAlone (place : ℕ) (old : PassView) (row : RowBlock) (new : PassView) : Type 0 where
  pub same : SameLedger old new
  pub agrees : (bucket : ℕ) (source : GenerationBlock)
      → IsBucketWord old place (head_generation old).predecessor bucket source → row.op ≡ 0
      → (key : ℕ) → InClass source.exponent bucket key
      → is_untouched old (key_bucket (head_generation old).exponent key) ≡ true
      → is_in row.keys key ≡ members_after (is_in old.facts.keys) old.front key

-- what a freeze tells of the bucket that had this word before
pub record FreezesBucket (place : ℕ) (old : PassView) (word : ℕ) (new : PassView) : Type 0 where
  pub history : List Entry
  pub row : RowBlock
  pub grows : IsPrefix old.front history
  pub some_row : ¬ IsNil word
  pub home : NamesOwnRow old place word row
  pub view : new ≡ view_after_freeze place word history row old
  pub alone : old.facts.seats ≡ 1 → FreezesAlone place old row new
