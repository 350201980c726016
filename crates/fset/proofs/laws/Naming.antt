-- The load of a known generation's predecessor makes that known, if there is one, and tells nothing else.
use Rattle.std.proofs.Common.{◌≡◌, ◌≢◌, ℕ, ◌+◌, List, [], ◌++◌, inr, refl, sym, ap, ◌∙◌, subst, add-zero, arith}
use mathlib.Core.List.{IsPrefix}
use base.Growing.{prefix_refl}
use Rattle.set_model.specs.declared.entry.Entry.{Entry}
use Rattle.step_core.specs.declared.published.Published.TheVariants.{Generation}
use Rattle.step_core.specs.declared.published.GenerationBlock.{GenerationBlock}
use Rattle.step_core.specs.declared.views.Known.{Known}
use Rattle.step_core.specs.declared.views.PassView.{PassView}
use Rattle.cells.specs.Known.{IsSealedWord, KnowsGeneration}
use Rattle.cells.specs.Steps.{LoadsSealed}
use Rattle.cells.proofs.laws.HeadLoads.{load_sealed_known}
use Rattle.cells.proofs.laws.Known.{knows_first}
use Rattle.cells.proofs.laws.Sealed.{predecessor_word}
use Rattle.fset.specs.Frames.{Grows, KeepsOwn}

module _ (head : ℕ) (generation : GenerationBlock) (old : PassView) (predecessor : ℕ) (new : PassView)
    (known : KnowsGeneration old head generation) (names : LoadsSealed (head + 1) old predecessor new) where
  link : IsSealedWord old (head + 1) head 1 (Generation generation)
  link = record { known = known; sealed = omega arith; here = refl }

  -- It is the word behind the exponent.
  pub named_is : predecessor ≡ generation.predecessor
  named_is = predecessor_word old head generation known predecessor names.reads

  -- Reading it leaves the front as it was,
  pub front_still : new.front ≡ old.front
  front_still = ap (λ (view : PassView). view.front) names.view ∙ (names.stays head 1 (Generation generation) link (inr refl)).0

  -- and what the pass has,
  pub names_grow : Grows names.learned 0 0 old new
  names_grow = record {
    number = ap (λ (view : PassView). view.number) names.view;
    facts = ap (λ (view : PassView). view.facts) names.view;
    front = subst (λ (front : List Entry). IsPrefix old.front front) (sym front_still) (prefix_refl old.front);
    known = load_sealed_known (head + 1) old predecessor new names;
    fixed = ([], ap (λ (view : PassView). view.fixed) names.view);
    asked = ([], ap (λ (view : PassView). view.asked) names.view);
    drawn = ap (λ (view : PassView). view.drawn) names.view ∙ sym (add-zero old.drawn);
    lost = ap (λ (view : PassView). view.lost) names.view ∙ sym (add-zero old.lost);
  }

  pub names_own : KeepsOwn old new
  names_own = record {
    mine = ap (λ (view : PassView). view.mine) names.view;
    flight = ap (λ (view : PassView). view.flight) names.view;
    used = ap (λ (view : PassView). view.used) names.view;
  }

  -- and makes the predecessor known.
  pub names_predecessor : predecessor ≢ 0 → (other : GenerationBlock) × KnowsGeneration new predecessor other
  names_predecessor some =
      let learns = names.predecessor head generation link (λ none. some (named_is ∙ none)) in (
        learns.0,
        subst (λ (at : ℕ). KnowsGeneration new at learns.0) (sym named_is)
            (knows_first generation.predecessor (Generation learns.0) [] old new
            (load_sealed_known (head + 1) old predecessor new names ∙ ap (λ (learned : List Known). learned ++ old.known) learns.1)),
      )
