-- A row is published and a bucket that isn't frozen names it: what views know is so still, and what stood has stood.
use Rattle.std.proofs.Common.{◌≡◌, inl, ⊎_elim, ℕ, List, ◌∷◌, Option, Some, All, sym, ◌∙◌, subst, arith}
use mathlib.Core.List.{IsPrefix}
use Rattle.std.proofs.lemmas.List.Elements.{All-cons, All-weaker}
use Rattle.arena.proofs.laws.States.{updated-same}
use Rattle.set_model.specs.declared.entry.Entry.{Entry}
use Rattle.step_core.specs.Fits.{IsPublished}
use Rattle.step_core.specs.Format.{IsFrozen, mutable_word}
use Rattle.step_core.specs.declared.published.Published.{Published}
use Rattle.step_core.specs.declared.published.Published.TheVariants.{Generation, Row}
use Rattle.step_core.specs.declared.published.GenerationBlock.{GenerationBlock}
use Rattle.step_core.specs.declared.published.RowBlock.{RowBlock}
use Rattle.step_core.specs.declared.views.FilledBucket.{FilledBucket}
use Rattle.step_core.specs.declared.views.FixedCell.{FixedCell}
use Rattle.step_core.specs.declared.views.Known.{Known}
use Rattle.step_core.proofs.changes.Held.{content_same, ops_keep}
use Rattle.step_core.proofs.changes.Named.{Names, with_row, with_name, stays, filled_stays, frozen_stays, cell_cases}
use Rattle.cells.specs.Invariant.{IsFilled, IsFrozenCell}
use Rattle.cells.specs.Known.{known_block}
use Rattle.cells.specs.Past.{flying_entry}
use Rattle.cells.proofs.laws.Hindsight.{KeepsStanding}
use Rattle.cells.proofs.parts.Flying.{flying_same}

module _ {blocks : ℕ → Option Published} {cells : ℕ → ℕ → ℕ} {g bucket : ℕ} {generation : GenerationBlock} {at : ℕ} {row : RowBlock}
    (n : Names blocks cells g bucket generation at row) where
  -- what was published is so still,
  pub known_stays : (known : List Known) → All (IsPublished blocks) known → All (IsPublished (with_row n)) known
  known_stays known = All-weaker (IsPublished blocks) (IsPublished (with_row n)) (λ block here. stays n block.at block.block here) known

  -- and so is the row
  pub row_known : (known : List Known) → All (IsPublished blocks) known → All (IsPublished (with_row n)) (known_block at (Row row) ∷ known)
  row_known known here = All-cons (IsPublished (with_row n)) (known_block at (Row row)) known
      (updated-same blocks at (Some (Row row))) (known_stays known here)

  -- a bucket that was filled is so
  pub buckets_stay : (filled : List FilledBucket) → All (IsFilled cells) filled → All (IsFilled (with_name n)) filled
  buckets_stay filled = All-weaker (IsFilled cells) (IsFilled (with_name n))
      (λ full some_row. filled_stays n full.at full.bucket some_row) filled

  -- a frozen cell is so
  pub fixed_stay : (fixed : List FixedCell) → All (IsFrozenCell blocks cells) fixed → All (IsFrozenCell (with_row n) (with_name n)) fixed
  fixed_stay fixed = All-weaker (IsFrozenCell blocks cells) (IsFrozenCell (with_row n) (with_name n))
      (λ cell was. record {
        generation = was.generation;
        here = stays n cell.at (Generation was.generation) was.here;
        within = was.within;
        frozen = was.frozen;
        word = frozen_stays n cell.at cell.place (subst IsFrozen (sym was.word) was.frozen) ∙ was.word;
      }) fixed

  -- an operation in flight has the entry that it had
  pub flying_stays : (flight : Option ℕ) → flying_entry (with_row n) (with_name n) flight ≡ flying_entry blocks cells flight
  flying_stays = flying_same (ops_keep n)

  -- What stood has stood.
  pub named_stands : (keys : List ℕ) (history new_history : List Entry) → IsPrefix history new_history
      → KeepsStanding keys blocks cells history (with_row n) (with_name n) new_history
  named_stands keys history new_history grows = record {
    rows = λ from other here. stays n from (Row other) here;
    generations = λ from other here. stays n from (Generation other) here;
    contents = λ from other key here. content_same (ops_keep n) other key;
    grows = grows;
    frozen = λ from other k here within odd. ⊎_elim
        (λ (touched : (from ≡ g) × (k ≡ bucket) × (with_name n from k ≡ mutable_word at)). let is = touched.2 in absurd (omega arith))
        (λ (kept : with_name n from k ≡ cells from k). inl kept)
        (cell_cases n from k);
  }
