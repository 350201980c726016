-- Filling a bucket of a generation from the one before.
use Rattle.std.specs.Prelude.{◌≡◌, ℕ, ◌+◌, ◌≤◌, ◌⊎◌, true, List, [], ◌∷◌, ◌++◌, length, All, None}
use Rattle.step_core.specs.Content.{bucket_of}
use Rattle.step_core.specs.Format.{IsFrozen, row_address}
use Rattle.step_core.specs.declared.format.TheConstants.{FIRST_BUCKET}
use Rattle.step_core.specs.declared.published.Published.TheVariants.{Row}
use Rattle.step_core.specs.declared.published.GenerationBlock.{GenerationBlock}
use Rattle.step_core.specs.declared.published.RowBlock.{RowBlock}
use Rattle.step_core.specs.declared.views.FixedCell.{FixedCell}
use Rattle.step_core.specs.declared.views.PassView.{PassView}
use Rattle.step_core.specs.declared.views.StepCounts.{StepCounts}
use Rattle.cells.specs.Filling.{MayFill}
use Rattle.cells.specs.Known.{known_block, row_at, IsBucketWord, KnowsGeneration}
use Rattle.cells.specs.Lone.{is_among}
use Rattle.cells.specs.Tokens.{BlockValue}
use Rattle.fset.specs.Frames.{Grows, IsBehind, KeepsOwn, Spends, filling_cost, row_cost}
use Rattle.fset.specs.Rows.{IsOutOfWords}
use Rattle.fset.specs.Seen.{IsSeen}
use Rattle.fset.specs.declared.ensuring.Filling.{Filling}
use Rattle.fset.specs.declared.seen.Seen.{Seen}

-- the bucket is one of a known generation at the address
abbrev pub KnowsBucketAt : PassView → ℕ → ℕ → Type 0
KnowsBucketAt view at bucket = (generation : GenerationBlock)
    × IsBucketWord view (at + FIRST_BUCKET + bucket) at bucket generation

-- the bucket is one of a known generation that another is known to follow
pub record IsSource (view : PassView) (at bucket : ℕ) : Type 0 where
  pub generation : GenerationBlock
  pub is_word : IsBucketWord view (at + FIRST_BUCKET + bucket) at bucket generation
  pub later : ℕ
  pub newer : GenerationBlock
  pub known : KnowsGeneration view later newer
  pub follows : newer.predecessor ≡ at

-- freezing buckets and reading their rows changes at most the front and the horizon, what is known,
-- and what is noted of loads
abbrev pub OnlyCloses : PassView → PassView → Type 0
OnlyCloses old new = new ≡ record old {
  front = new.front;
  horizon = new.horizon;
  known = new.known;
  marks = new.marks;
  trials = new.trials;
  fixed = new.fixed;
  made = new.made;
}

-- the cell of a bucket, as it stays
abbrev pub cell_of : ℕ → ℕ → ℕ → FixedCell
cell_of at bucket word = record { at = at; place = bucket; word = word }

-- the row was published for this bucket of the generation
abbrev pub IsRowOf : GenerationBlock → ℕ → RowBlock → Type 0
IsRowOf generation bucket row = (row.exponent ≡ generation.exponent) × (row.bucket ≡ bucket)

-- The bucket was frozen, and its row read.
pub record ClosesBucket (at bucket : ℕ) (old : PassView) (seen : Seen) (new : PassView)
    : Type 0 where
  pub only : OnlyCloses old new
  pub word : ℕ
  pub frozen : IsFrozen word
  pub address : seen.at ≡ row_address word
  pub fixed : new.fixed ≡ cell_of at bucket word ∷ old.fixed
  pub row : RowBlock
  pub grows : Grows (known_block seen.at (Row row) ∷ []) 0 0 old new
  pub agrees : IsSeen new seen
  pub is_row : row_at new.known seen.at ≡ row
  pub home : (generation : GenerationBlock)
      → IsBucketWord old (at + FIRST_BUCKET + bucket) at bucket generation
      → IsRowOf generation bucket row
  pub made : new.made ≡ record old.made {
    sealed_loads = old.made.sealed_loads + 2;
    freezes = old.made.freezes + 1;
  }

-- the bucket is one of a known generation, and so is the one before it
pub record IsFilling (view : PassView) (filling : Filling) : Type 0 where
  pub generation : GenerationBlock
  pub is_word : IsBucketWord view (filling.head + FIRST_BUCKET + filling.bucket)
      filling.head filling.bucket generation
  pub source : GenerationBlock
  pub before : KnowsGeneration view filling.predecessor source
  pub predecessor : generation.predecessor ≡ filling.predecessor
  pub exponent : filling.exponent ≡ generation.exponent
  pub of_source : filling.before ≡ source.exponent

-- what was noted of loads of the head and of nil buckets stays, and buckets that were known to be
-- filled are so
pub record KeepsNotes (old new : PassView) : Type 0 where
  pub heads : new.heads ≡ old.heads
  pub nils : new.nils ≡ old.nils
  pub filled : IsBehind old.filled new.filled

-- of the steps that are counted only loads of sealed words, draws, writes, freezes and exchanges of
-- nil buckets were made
abbrev pub OnlyFillSteps : StepCounts → StepCounts → Type 0
OnlyFillSteps before after = after ≡ record before {
  sealed_loads = after.sealed_loads;
  draws = after.draws;
  writes = after.writes;
  fills = after.fills;
  freezes = after.freezes;
}

-- of those at most one draw, one exchange, and two freezes
pub record OnlyFills (before after : StepCounts) : Type 0 where
  pub only : OnlyFillSteps before after
  pub draws : after.draws ≤ before.draws + 1
  pub no_fewer : before.fills ≤ after.fills
  pub fills : after.fills ≤ before.fills + 1
  pub freezes : after.freezes ≤ before.freezes + 2

-- the cell is that of a source of the bucket: of the generation before, and of a bucket that shares a
-- spot with it
pub record IsSourceCell (view : PassView) (generation : GenerationBlock) (bucket : ℕ) (cell : FixedCell)
    : Type 0 where
  pub source : GenerationBlock
  pub known : KnowsGeneration view generation.predecessor source
  pub at : cell.at ≡ generation.predecessor
  pub spot : ℕ
  pub of_bucket : bucket_of generation.exponent spot ≡ bucket
  pub place : cell.place ≡ bucket_of source.exponent spot

-- each freeze was that of a source of the bucket
pub record FreezesSources (head bucket : ℕ) (old new : PassView) : Type 0 where
  pub generation : GenerationBlock
  pub known : KnowsGeneration new head generation
  pub cells : List FixedCell
  pub fixed : new.fixed ≡ cells ++ old.fixed
  pub freezes : new.made.freezes ≡ old.made.freezes + length cells
  pub sources : All (IsSourceCell new generation bucket) cells

-- The row that the bucket may be filled with was built.
pub record BuildsFilling (filling : Filling) (block : BlockValue) (old new : PassView)
    : Type 0 where
  pub may : MayFill new (filling.head + FIRST_BUCKET + filling.bucket) block.at
  pub spends : Spends row_cost 0 old new
  pub own : KeepsOwn old new
  pub turn : new.turn ≡ old.turn
  pub notes : KeepsNotes old new
  pub unspent : old.spent ≡ None
  pub spent : new.spent ≡ old.spent
  pub steps : OnlyFills old.made new.made
  pub frozen : FreezesSources filling.head filling.bucket old new
  pub unfilled : new.made.fills ≡ old.made.fills

-- No block for the row was to be had.
pub record RefusesFilling (head bucket : ℕ) (old new : PassView) : Type 0 where
  pub spends : Spends filling_cost 0 old new
  pub own : KeepsOwn old new
  pub turn : new.turn ≡ old.turn
  pub notes : KeepsNotes old new
  pub full : IsOutOfWords spends.words old new
  pub steps : OnlyFills old.made new.made
  pub frozen : FreezesSources head bucket old new
  pub unfilled : new.made.fills ≡ old.made.fills

-- The bucket isn't nil: it is known to be filled, or it is one of a generation without one before.
pub record EnsuresFilled (head bucket : ℕ) (old new : PassView) : Type 0 where
  pub generation : GenerationBlock
  pub known : KnowsGeneration old head generation
  pub filled : (is_among new.filled head bucket ≡ true) ⊎ (generation.predecessor ≡ 0)
  pub spends : Spends row_cost 0 old new
  pub own : KeepsOwn old new
  pub turn : new.turn ≡ old.turn
  pub notes : KeepsNotes old new
  pub unspent : (old.spent ≡ None) ⊎ (spends.words ≡ 0)
  pub spent : new.spent ≡ old.spent
  pub steps : OnlyFills old.made new.made
  pub frozen : FreezesSources head bucket old new
  -- an exchange was made, but where there is none before
  pub exchanged : (new.made.fills ≡ old.made.fills + 1) ⊎ (generation.predecessor ≡ 0)
  -- without an exchange nothing was drawn
  pub unfilled : new.made.fills ≡ old.made.fills
      → (spends.words ≡ 0) × (new.hands ≡ old.hands)
  -- without one before, only sealed words were loaded
  pub first : generation.predecessor ≡ 0 → new.made
      ≡ record old.made { sealed_loads = new.made.sealed_loads }
