-- What the loads of the head and of a sealed word leave and tell, by fields of the view.
use Rattle.std.proofs.Common.{◌≡◌, ◌≢◌, ℕ, List, [], ◌∷◌, ◌++◌, Some, inl, inr, refl, sym, ap, ◌∙◌, subst}
use mathlib.Core.List.{IsPrefix}
use Rattle.set_model.specs.declared.entry.Entry.{Entry}
use Rattle.step_core.specs.declared.published.Published.{Published}
use Rattle.step_core.specs.declared.published.Published.TheVariants.{Generation, Row, Op}
use Rattle.step_core.specs.declared.published.GenerationBlock.{GenerationBlock}
use Rattle.step_core.specs.declared.published.RowBlock.{RowBlock}
use Rattle.step_core.specs.declared.published.OpBlock.{OpBlock}
use Rattle.step_core.specs.declared.views.Known.{Known}
use Rattle.step_core.specs.declared.views.PassView.{PassView}
use Rattle.cells.specs.Frames.{OnlyLoads, OnlyReads, after_reads}
use Rattle.cells.specs.Known.{known_block, KnowsBlock, KnowsGeneration, link_of, IsSealedWord}
use Rattle.cells.specs.Steps.{LoadsHead, LoadsSealed, view_after_load_sealed}
use Rattle.cells.proofs.laws.Known.{knows_first}

module _ (old : PassView) (word : ℕ) (new : PassView) (loads : LoadsHead old word new) where
  -- A load of the head keeps the rest, the lost turns too.
  pub load_head_keeps : OnlyLoads old new × (new.lost ≡ old.lost)
  load_head_keeps =
      let view = loads.view in (
        subst (OnlyLoads old) (sym view) refl,
        ap (λ (view : PassView). view.lost) view,
      )

  -- The front only grows.
  pub load_head_grows : IsPrefix old.front new.front
  load_head_grows =
      subst (λ (front : List Entry). IsPrefix old.front front) (sym (ap (λ (view : PassView). view.front) loads.view)) loads.grows

  -- One block more is known: the head generation.
  pub load_head_known : new.known ≡ (known_block word (Generation loads.generation) ∷ []) ++ old.known
  load_head_known = ap (λ (view : PassView). view.known) loads.view

  -- It is known at the word that was read.
  pub load_head_knows : KnowsGeneration new word loads.generation
  load_head_knows = knows_first word (Generation loads.generation) [] old new load_head_known

  -- A turn is open, with that head and no load yet.
  pub load_head_turn : new.turn ≡ Some (record { head = word; seen = loads.seen; loads = [] })
  load_head_turn = ap (λ (view : PassView). view.turn) loads.view

module _ (place : ℕ) (old : PassView) (word : ℕ) (new : PassView) (loads : LoadsSealed place old word new) where
  -- A load of a sealed word keeps the rest, the lost turns and the open turn too.
  pub load_sealed_keeps : OnlyReads old new
  load_sealed_keeps = subst (OnlyReads old) (sym loads.view) refl

  -- The front only grows.
  pub load_sealed_grows : IsPrefix old.front new.front
  load_sealed_grows =
      subst (λ (front : List Entry). IsPrefix old.front front) (sym (ap (λ (view : PassView). view.front) loads.view)) loads.grows

  -- What was known stays known.
  pub load_sealed_known : new.known ≡ loads.learned ++ old.known
  load_sealed_known = ap (λ (view : PassView). view.known) loads.view

  -- A word other than the second of its block leaves the whole view as it was, but for one load more.
  pub load_sealed_still : (at k : ℕ) (block : Published) → IsSealedWord old place at k block → k ≢ 1 → new ≡ after_reads 1 old
  load_sealed_still at k block sealed apart =
      loads.view
      ∙ (λ i. view_after_load_sealed (loads.nothing at k block sealed (inl apart) i) ((loads.stays at k block sealed (inl apart)).0 i)
      ((loads.stays at k block sealed (inl apart)).1 i) old)

  -- A second word that names nothing leaves all but the front as it was.
  pub load_sealed_names_nothing : (at : ℕ) (block : Published) → IsSealedWord old place at 1 block → link_of block ≡ 0
      → new.known ≡ old.known
  load_sealed_names_nothing at block sealed none =
      load_sealed_known ∙ ap (λ (learned : List Known). learned ++ old.known) (loads.nothing at 1 block sealed (inr none))

  -- what is the only block learned is known
  knows_only : (at : ℕ) (block : Published) → loads.learned ≡ known_block at block ∷ [] → KnowsBlock new at block
  knows_only at block only =
      knows_first at block [] old new (load_sealed_known ∙ ap (λ (learned : List Known). learned ++ old.known) only)

  -- The second word of a known row makes its operation known, if it isn't 0.
  pub load_sealed_op : (at : ℕ) (row : RowBlock) → IsSealedWord old place at 1 (Row row) → row.op ≢ 0
      → (op : OpBlock) × KnowsBlock new row.op (Op op)
  load_sealed_op at row sealed some =
      let learns = loads.op at row sealed some in (learns.0, knows_only row.op (Op learns.0) learns.1)

  -- The second word of a known generation makes its predecessor known, if it isn't 0.
  pub load_sealed_predecessor : (at : ℕ) (generation : GenerationBlock) → IsSealedWord old place at 1 (Generation generation)
      → generation.predecessor ≢ 0 → (other : GenerationBlock) × KnowsGeneration new generation.predecessor other
  load_sealed_predecessor at generation sealed some =
      let learns = loads.predecessor at generation sealed some in
      (learns.0, knows_only generation.predecessor (Generation learns.0) learns.1)
