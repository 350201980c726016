-- A draw of a pass that is the only one ends as its ledger says.
use Rattle.std.proofs.Common.{◌≡◌, ℕ, ◌+◌, ◌<◌, ◌≤◌, nat_le, Bool, true, false, Option, Some, None, is_some, refl, sym, ap, ◌∙◌, subst, arith, add_assoc}
use Rattle.std.proofs.lemmas.Bool.Decides.{nat_tests}
use Rattle.atomic_table.specs.Table.{Step as TableStep}
use Rattle.step_core.specs.Ledger.{Ledger, Outcome, drawing, drawing_where}
use Rattle.step_core.specs.declared.views.PassView.{PassView}
use Rattle.cells.specs.Lone.{ledger_of, EndsAs}
use Rattle.cells.specs.Moves.{DrawTells}

-- how the draw ends, where this is known of the ledger
drawing_is : (ledger : Ledger) (len : ℕ) (spent : Option ℕ) (fits : Bool) → ledger.spent ≡ spent
    → nat_le (ledger.next + len) ledger.cap ≡ fits → drawing len ledger ≡ drawing_where spent fits len ledger
drawing_is ledger len spent fits is_spent test = λ i. drawing_where (is_spent i) (test i) len ledger

-- an outcome as a call's end
ends_as : (outcome known : Outcome) (full : Bool) (new : PassView) → outcome ≡ known → full ≡ known.full → ledger_of new ≡ known.ledger
    → EndsAs outcome full new
ends_as outcome known full new is is_full ledger = subst (λ (o : Outcome). EndsAs o full new) (sym is)
    (record { is_full = is_full; ledger = ledger })

-- a spent pass draws nothing
spent_ends : (view : PassView) (len : ℕ) (spent : Option ℕ) → view.spent ≡ spent → is_some spent ≡ true
    → EndsAs (drawing len (ledger_of view)) true view
unfolding ledger_of
spent_ends view len None is some_place = absurd (cc)
spent_ends view len (Some place) is some_place =
    let ledger : Ledger = ledger_of view in
    ends_as (drawing len ledger) (drawing_where (Some place) true len ledger) true view
    (λ i. drawing_where (is i) (nat_le (ledger.next + len) ledger.cap) len ledger) refl refl

-- a pass whose draw passed the end draws no more
pub draw_spent : (view : PassView) (len : ℕ) → is_some view.spent ≡ true → EndsAs (drawing len (ledger_of view)) true view
draw_spent view len some_place = spent_ends view len view.spent refl some_place

module _ (old new : PassView) (step : TableStep ℕ) (at : ℕ) (unspent : old.spent ≡ None) (tells : DrawTells old step at new)
    (alone : old.facts.seats ≡ 1) where
  -- the words drawn, counted one way or the other
  counted : old.facts.opened + (old.drawn + step.first) ≡ old.facts.opened + old.drawn + step.first
  counted = sym (add_assoc old.facts.opened old.drawn step.first)

  -- a draw within the arena ends so,
  pub draw_within : at + step.first ≤ old.facts.cap → EndsAs (drawing step.first (ledger_of old)) false new
  unfolding ledger_of
  draw_within within =
      let ledger : Ledger = ledger_of old in
      let place = tells.found.alone alone in
      let test : nat_le (ledger.next + step.first) ledger.cap ≡ true = grind (arith, nat_tests) in
      ends_as (drawing step.first ledger) (drawing_where None true step.first ledger) false new
      (drawing_is ledger step.first None true unspent test) refl
      (ap ledger_of (tells.within within) ∙ (λ i. record ledger { next = counted i }))

  -- and so does one that passes its end
  pub draw_past : old.facts.cap < at + step.first → EndsAs (drawing step.first (ledger_of old)) true new
  unfolding ledger_of
  draw_past past =
      let ledger : Ledger = ledger_of old in
      let place : at ≡ ledger.next = tells.found.alone alone in
      let test : nat_le (ledger.next + step.first) ledger.cap ≡ false = grind (arith, nat_tests) in
      ends_as (drawing step.first ledger) (drawing_where None false step.first ledger) true new
      (drawing_is ledger step.first None false unspent test) refl
      (ap ledger_of (tells.past past) ∙ (λ i. record ledger { next = counted i; spent = Some (place i) }))
