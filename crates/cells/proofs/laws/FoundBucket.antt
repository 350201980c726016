-- The word of a bucket of a known generation: where it stands, which row it names, and that the row has what the history leaves.
use Rattle.std.proofs.Common.{◌≡◌, ◌≢◌, ℕ, List, [], ◌∷◌, get_or, Bool, true, ◌&&◌, ◌||◌, not, nat_eq, ◌⊎◌, inl, inr, ⊎_elim, Some, All, sym, ap, ap₂, ◌∙◌, subst, arith}
use mathlib.Core.Option.{some}
use lib.ListN.{get_elem?}
use Rattle.std.proofs.lemmas.Bool.{cases_Bool}
use Rattle.std.proofs.lemmas.List.Elements.{All-head, All-tail, All-contains}
use Rattle.std.proofs.Math.Nat.{mod-eq_of_lt}
use Rattle.set_model.specs.History.{members_after}
use Rattle.set_model.specs.Keys.{is_in}
use Rattle.set_model.specs.declared.entry.Entry.{Entry}
use Rattle.step_core.specs.Content.{bucket_of, spot_of}
use Rattle.step_core.specs.Fits.{IsAtHome, IsPublished}
use Rattle.step_core.specs.Format.{IsNil, IsMutable, row_address}
use Rattle.step_core.specs.States.{RoundState, IsRow}
use Rattle.step_core.specs.declared.published.Published.TheVariants.{Generation}
use Rattle.step_core.specs.declared.published.GenerationBlock.{GenerationBlock}
use Rattle.step_core.specs.declared.published.RowBlock.{RowBlock}
use Rattle.step_core.specs.declared.views.FilledBucket.{FilledBucket}
use Rattle.step_core.specs.declared.views.PassView.{PassView}
use Rattle.step_core.specs.declared.views.RoundFacts.{RoundFacts}
use Rattle.step_core.proofs.seen.Held.{live_even, is_held-row, row_content-plain}
use Rattle.cells.specs.Invariant.{HoldsRound, IsFilled}
use Rattle.cells.specs.Known.{known_block, IsBucketWord, KnowsGeneration}
use Rattle.cells.specs.Lone.{head_at, head_generation, is_among, is_untouched}
use Rattle.cells.specs.Steps.{AgreesWithHistory}
use Rattle.cells.proofs.laws.Paid.{both_true, same_numbers}
use Rattle.cells.proofs.laws.Sound.{sound_view}

-- a bucket that is among those that are filled is
pub among_filled : (cells : ℕ → ℕ → ℕ) (filled : List FilledBucket) (at bucket : ℕ) → All (IsFilled cells) filled
    → is_among filled at bucket ≡ true → ¬ IsNil (cells at bucket)
among_filled cells [] at bucket all test = absurd (cc)
among_filled cells (first ∷ others) at bucket all test = elim (cases_Bool (nat_eq first.at at && nat_eq first.bucket bucket)) [
  | inl here ↦
      let both = both_true (nat_eq first.at at) (nat_eq first.bucket bucket) here in
      let same_at : first.at ≡ at = same_numbers first.at at both.0 in
      let same_bucket : first.bucket ≡ bucket = same_numbers first.bucket bucket both.1 in
      subst (λ (w : ℕ). ¬ IsNil w) (ap₂ cells same_at same_bucket) (All-head (IsFilled cells) first others all)
  | inr other ↦ among_filled cells others at bucket (All-tail (IsFilled cells) first others all)
      (sym (ap (λ (b : Bool). b || is_among others at bucket) other) ∙ test)
]

-- a bucket is untouched unless it is among those that are filled, or there is no predecessor
pub is_untouched-cases : (view : PassView) (bucket : ℕ)
    → ((is_among view.filled (head_at view) bucket ≡ true) ⊎ ((head_generation view).predecessor ≡ 0) → ⊥)
    → is_untouched view bucket ≡ true
is_untouched-cases view bucket neither = elim (cases_Bool (nat_eq (head_generation view).predecessor 0)) [
  | inl first ↦ absurd (neither (inr (same_numbers (head_generation view).predecessor 0 first)))
  | inr before ↦ elim (cases_Bool (is_among view.filled (head_at view) bucket)) [
    | inl filled ↦ absurd (neither (inl filled))
    | inr not_filled ↦ ap₂ (λ (a b : Bool). not a && not b) before not_filled
  ]
]

module _ {facts : RoundFacts} {words : List ℕ} {state : RoundState} {history : List Entry} (round : HoldsRound facts words state history)
    (old : PassView) (there : get_elem? state.views old.number ≡ some old) (place at bucket : ℕ) (generation : GenerationBlock)
    (is : IsBucketWord old place at bucket generation) where
  -- the word that is loaded
  abbrev pub word : ℕ
  word = get_or words place 0

  -- the generation is published
  pub published : state.blocks at ≡ Some (Generation generation)
  published = All-contains (IsPublished state.blocks) old.known (known_block at (Generation generation))
      (round.fits.known old.number old there) is.known

  -- its cell has the word
  pub word_is : word ≡ state.cells at bucket
  word_is = ap (λ (a : ℕ). get_or words a 0) is.here
      ∙ (round.fits.holds.laid.blocks at (Generation generation) published).cell_part.shown bucket is.within

  -- so it is by the bucket's own spot
  spot_is : state.cells at (bucket_of generation.exponent bucket) ≡ word
  spot_is = ap (state.cells at) (mod-eq_of_lt is.within) ∙ sym word_is

  -- a bucket that isn't nil names a row of its own
  pub row_there : ¬ IsNil word → IsAtHome state.blocks (row_address word) generation bucket
  row_there some_row =
      subst (λ (w : ℕ). IsAtHome state.blocks (row_address w) generation bucket) spot_is
      (round.fits.holds.chain.names at generation bucket published (subst (λ (w : ℕ). ¬ IsNil w) (sym spot_is) some_row))

  -- a bucket that is known to be filled, or has nothing to be filled from, isn't nil
  pub finds_filled : (is_among old.filled at bucket ≡ true) ⊎ (generation.predecessor ≡ 0) → ¬ IsNil word
  finds_filled reason = ⊎_elim
      (λ (known : is_among old.filled at bucket ≡ true). subst (λ (w : ℕ). ¬ IsNil w) (sym word_is)
      (among_filled state.cells old.filled at bucket (round.filled old.number old there) known))
      (λ (first : generation.predecessor ≡ 0). subst (λ (w : ℕ). ¬ IsNil w) spot_is
      (round.fits.holds.chain.filled at generation bucket published (inr first)))
      reason

  -- a generation that another is known to follow isn't the head,
  pub followed_before : (later : ℕ) (newer : GenerationBlock) → KnowsGeneration old later newer → newer.predecessor ≡ at
      → at ≢ state.head
  followed_before later newer known behind same =
      let low = ((sound_view round old.number old there).blocks at (Generation generation) is.known).behind_base in
      let follows = round.fits.holds.chain.follows later newer
      (All-contains (IsPublished state.blocks) old.known (known_block later (Generation newer))
      (round.fits.known old.number old there) known)
      (λ none. let at_none : at ≡ 0 = sym behind ∙ none in absurd (omega (arith, low, at_none))) in
      follows.not_head (behind ∙ same)

  -- so its bucket isn't nil
  pub finds_followed : (later : ℕ) (newer : GenerationBlock) → KnowsGeneration old later newer → newer.predecessor ≡ at → ¬ IsNil word
  finds_followed later newer known behind =
      subst (λ (w : ℕ). ¬ IsNil w) spot_is
      (round.fits.holds.chain.filled at generation bucket published (inl (followed_before later newer known behind)))

  -- a mutable row without an operation agrees on its class with the set after the history
  pub row_agrees : (row : RowBlock) → (¬ IsNil word → IsRow state.blocks (row_address word) row) → row.exponent ≡ generation.exponent
      → row.bucket ≡ bucket → AgreesWithHistory old word history row
  row_agrees row named exponent number filled even plain key class =
      let spot : ℕ = spot_of key in
      let in_bucket : bucket_of generation.exponent spot ≡ bucket =
      ap (λ (e : ℕ). bucket_of e spot) (sym exponent) ∙ class ∙ number in
      let cell : state.cells at (bucket_of generation.exponent spot) ≡ word = ap (state.cells at) in_bucket ∙ sym word_is in
      let live = live_even state.head state.blocks state.cells round.fits.holds.chain at spot generation published
      (subst (λ (w : ℕ). ¬ IsNil w) (sym cell) filled) (subst (λ (w : ℕ). IsMutable w) (sym cell) even) ∙ cell in
      sym (row_content-plain state.head state.blocks state.cells row key plain)
      ∙ sym (is_held-row state.head state.blocks state.cells key word row live (named filled))
      ∙ round.members key
      ∙ ap (λ (facts : RoundFacts). members_after (is_in facts.keys) history key)
      (sym (round.fits.numbered old.number old there).same_round)
