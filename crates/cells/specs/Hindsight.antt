-- Hindsight: a row that a pass met may have been replaced since, and still says what the set had of its
-- keys at some time that the pass hasn't seen past.
use Rattle.std.specs.Prelude.{◌≡◌, ℕ, ◌<◌, ◌^◌, List, All, Option}
use mathlib.Core.List.{IsPrefix}
use Rattle.set_model.specs.History.{members_after}
use Rattle.set_model.specs.Keys.{is_in}
use Rattle.set_model.specs.declared.entry.Entry.{Entry}
use Rattle.step_core.specs.Content.{InClass}
use Rattle.step_core.specs.Format.{IsFrozen, row_address}
use Rattle.step_core.specs.Members.{row_content}
use Rattle.step_core.specs.States.{IsGeneration, IsRow}
use Rattle.step_core.specs.declared.published.Published.{Published}
use Rattle.step_core.specs.declared.published.GenerationBlock.{GenerationBlock}
use Rattle.step_core.specs.declared.published.RowBlock.{RowBlock}
use Rattle.step_core.specs.declared.views.HeadLoad.{HeadLoad}
use Rattle.step_core.specs.declared.views.Mark.{Mark}
use Rattle.step_core.specs.declared.views.NilBucket.{NilBucket}
use Rattle.step_core.specs.declared.views.PassView.{PassView}

-- the key is of both buckets of the mark
pub record InMark (mark : Mark) (key : ℕ) : Type 0 where
  pub first : InClass mark.exponent mark.bucket key
  pub second : InClass mark.other_exponent mark.other_bucket key

-- a mark on a row for all keys of a bucket
abbrev pub bucket_mark : ℕ → List Entry → ℕ → ℕ → Mark
bucket_mark row front exponent bucket = record {
  row = row;
  front = front;
  exponent = exponent;
  bucket = bucket;
  other_exponent = 0;
  other_bucket = 0;
}

-- a mark on a row for the keys that two buckets share
abbrev pub shared_mark : ℕ → List Entry → ℕ → ℕ → ℕ → ℕ → Mark
shared_mark row front exponent bucket other_exponent other_bucket = record {
  row = row;
  front = front;
  exponent = exponent;
  bucket = bucket;
  other_exponent = other_exponent;
  other_bucket = other_bucket;
}

-- The marked row stood: at some time, not before the mark's front, the set had of the mark's keys what
-- the row has. `past` is the history up to then.
pub record HasStood (keys : List ℕ) (blocks : ℕ → Option Published) (cells : ℕ → ℕ → ℕ)
    (history : List Entry) (mark : Mark) : Type 0 where
  pub row : RowBlock
  pub here : IsRow blocks mark.row row
  pub home : (key : ℕ) → InMark mark key → InClass row.exponent row.bucket key
  pub past : List Entry
  pub further : IsPrefix mark.front past
  pub begins : IsPrefix past history
  pub held : (key : ℕ) → InMark mark key
      → row_content blocks cells row key ≡ members_after (is_in keys) past key

-- each frozen bucket of a generation that was loaded as the head names a row that stood since
pub record StoodInHead (keys : List ℕ) (blocks : ℕ → Option Published) (cells : ℕ → ℕ → ℕ)
    (history : List Entry) (load : HeadLoad) : Type 0 where
  pub generation : GenerationBlock
  pub here : IsGeneration blocks load.at generation
  pub begins : IsPrefix load.front history
  pub frozen : (bucket : ℕ) → bucket < 2 ^ generation.exponent → IsFrozen (cells load.at bucket)
      → HasStood keys blocks cells history
      (bucket_mark (row_address (cells load.at bucket)) load.front generation.exponent bucket)

-- each frozen bucket of the generation before one of which a bucket was found nil names a row that stood
-- since, for the keys of both buckets
pub record StoodInSources (keys : List ℕ) (blocks : ℕ → Option Published) (cells : ℕ → ℕ → ℕ)
    (history : List Entry) (nil : NilBucket) : Type 0 where
  pub generation : GenerationBlock
  pub here : IsGeneration blocks nil.at generation
  pub source : GenerationBlock
  pub there : IsGeneration blocks generation.predecessor source
  pub begins : IsPrefix nil.front history
  pub frozen : (bucket : ℕ) → bucket < 2 ^ source.exponent
      → IsFrozen (cells generation.predecessor bucket)
      → HasStood keys blocks cells history
      (shared_mark (row_address (cells generation.predecessor bucket)) nil.front
      generation.exponent nil.bucket source.exponent bucket)

-- what a view noted of rows, heads and nil buckets is so
pub record HasHindsight (keys : List ℕ) (blocks : ℕ → Option Published) (cells : ℕ → ℕ → ℕ)
    (history : List Entry) (pass : ℕ) (view : PassView) : Type 0 where
  pub marks : All (HasStood keys blocks cells history) view.marks
  pub heads : All (StoodInHead keys blocks cells history) view.heads
  pub nils : All (StoodInSources keys blocks cells history) view.nils
