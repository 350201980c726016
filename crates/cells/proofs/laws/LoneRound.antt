-- In a round with one pass that pass has seen the whole history, its draws are all draws, and it has lost no turn.
use Rattle.std.proofs.Common.{◌≡◌, ℕ, zero, suc, ◌≤◌, List, [], ◌∷◌, length, sym, ap, ◌∙◌, arith, sum_by}
use mathlib.Core.Option.{some, some-injective, some-ne-none}
use lib.ListN.{get_elem?}
use Rattle.std.proofs.lemmas.List.Sums.{sum_by-cons}
use Rattle.set_model.specs.declared.entry.Entry.{Entry}
use Rattle.step_core.specs.States.{RoundState}
use Rattle.step_core.specs.declared.views.PassView.{PassView}
use Rattle.step_core.specs.declared.views.RoundFacts.{RoundFacts}
use Rattle.cells.specs.Invariant.{HoldsRound}
use Rattle.cells.specs.Paid.{wins_of}
use Rattle.cells.specs.Steps.{FindsNext}

-- the only view of a list is at each place that has one
only_view : (views : List PassView) (one other : ℕ) (view second : PassView) → length views ≡ 1 → get_elem? views one ≡ some view
    → get_elem? views other ≡ some second → view ≡ second
only_view [] one other view second alone there too = absurd (omega arith)
only_view (first ∷ []) zero zero view second alone there too = sym (some-injective first view there) ∙ some-injective first second too
only_view (first ∷ []) (suc one) other view second alone there too = absurd (some-ne-none view (sym there))
only_view (first ∷ []) zero (suc other) view second alone there too = absurd (some-ne-none second (sym too))
only_view (first ∷ next ∷ others) one other view second alone there too = absurd (omega arith)

-- a sum over one view is its own part,
only_sum : (count : PassView → ℕ) (views : List PassView) (number : ℕ) (view : PassView) → length views ≡ 1
    → get_elem? views number ≡ some view → sum_by count views ≡ count view
only_sum count [] number view alone there = absurd (omega arith)
only_sum count (first ∷ []) zero view alone there =
    let same = ap count (some-injective first view there) in
    omega (arith, same, sum_by-cons count first [])
only_sum count (first ∷ []) (suc number) view alone there = absurd (some-ne-none view (sym there))
only_sum count (first ∷ next ∷ others) number view alone there = absurd (omega arith)

-- and no sum is less than a part of it
sum_by-least : (count : PassView → ℕ) (views : List PassView) (number : ℕ) (view : PassView) → get_elem? views number ≡ some view
    → count view ≤ sum_by count views
sum_by-least count [] number view there = absurd (some-ne-none view (sym there))
sum_by-least count (first ∷ views) zero view there =
    let same = ap count (some-injective first view there) in
    omega (arith, same, sum_by-cons count first views)
sum_by-least count (first ∷ views) (suc number) view there =
    omega (arith, sum_by-least count views number view there, sum_by-cons count first views)

module _ {facts : RoundFacts} {words : List ℕ} {state : RoundState} {history : List Entry} (round : HoldsRound facts words state history)
    (number : ℕ) (view : PassView) (there : get_elem? state.views number ≡ some view) where
  -- the only pass has seen the whole history
  pub lone_front : facts.seats ≡ 1 → view.front ≡ history
  lone_front alone =
      let whole = round.past.whole in
      ap (λ (view : PassView). view.front)
      (only_view state.views number whole.pass view whole.view (round.fits.passes ∙ alone) there whole.is_view) ∙ whole.all

  -- all exchanges that were won are its own,
  pub lone_wins : facts.seats ≡ 1 → wins_of state.views ≡ view.won
  lone_wins alone = only_sum (λ view. view.won) state.views number view (round.fits.passes ∙ alone) there

  -- so it has lost no turn
  pub lone_lost : facts.seats ≡ 1 → view.lost ≡ 0
  lone_lost alone = omega (arith, lone_wins alone, (round.paid number view there).lost)

  -- its draws and those of others lie before the next place
  pub finds_next : view.facts ≡ facts → FindsNext view state.next
  finds_next same =
      let opened = ap (λ (facts : RoundFacts). facts.opened) same in
      let sum = round.fits.account.sum in
      let least = sum_by-least (λ view. view.drawn) state.views number view there in
      record {
        behind = omega arith;
        alone = λ alone.
            let all = only_sum (λ view. view.drawn) state.views number view
            (round.fits.passes ∙ ap (λ (facts : RoundFacts). facts.seats) (sym same) ∙ alone) there in
            omega arith;
      }
