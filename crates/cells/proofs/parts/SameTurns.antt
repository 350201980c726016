-- A view that knows as much of buckets and turns, and has answered and won as much, owes only what it has seen and knows of blocks.
use Rattle.std.proofs.Common.{◌≡◌, ℕ, List, Option, All, refl, sym, subst}
use mathlib.Core.List.{IsPrefix}
use mathlib.Core.Option.{some}
use lib.ListN.{get_elem?}
use base.Growing.{prefix_refl}
use Rattle.set_model.specs.declared.entry.Entry.{Entry}
use Rattle.arena.specs.declared.held.Held.{Held}
use Rattle.step_core.specs.Fits.{KnowsPublished}
use Rattle.step_core.specs.States.{RoundState}
use Rattle.step_core.specs.declared.views.PassView.{PassView}
use Rattle.step_core.specs.declared.views.RoundFacts.{RoundFacts}
use Rattle.step_core.specs.declared.views.StepCounts.{StepCounts}
use Rattle.cells.specs.Hindsight.{HasStood}
use Rattle.cells.specs.Invariant.{HoldsRound}
use Rattle.cells.specs.Lone.{head_at, generation_in, first_generation, head_generation}
use Rattle.cells.specs.Paid.{wins_of}
use Rattle.cells.specs.Past.{IsGivenBlock}
use Rattle.cells.proofs.laws.Lone.{is_untouched-same, table_stays}
use Rattle.cells.proofs.parts.StillPaid.{paid_same}
use Rattle.cells.proofs.parts.PutView.{Goes}

-- the view with another's fronts, known blocks, marks, blocks in hand, draws and counts of steps
abbrev seen_view : PassView → PassView → PassView
seen_view old new = record old {
  front = new.front;
  heard = new.heard;
  known = new.known;
  marks = new.marks;
  hands = new.hands;
  drawn = new.drawn;
  spent = new.spent;
  made = new.made;
}

module _ {facts : RoundFacts} {words : List ℕ} {state : RoundState} {history : List Entry} (round : HoldsRound facts words state history)
    (old new : PassView) (there : get_elem? state.views old.number ≡ some old) where
  -- where at most these are others, the view owes that its fronts begin the history, that the own one reaches no less far,
  -- that what it knows is published and given, that the rows that it marked stood, and where it is the only one that it finds the head's
  -- generation still
  pub sees_goes : new ≡ seen_view old new → IsPrefix old.front new.front → IsPrefix new.front history → IsPrefix new.heard history
      → KnowsPublished state.blocks old.number new → All (IsGivenBlock facts.keys old.horizon) new.known
      → All (HasStood facts.keys state.blocks state.cells history) new.marks
      → (facts.seats ≡ 1 → generation_in new.known (head_at old) (first_generation old.facts) ≡ head_generation old)
      → Goes facts state.head state.blocks state.cells history (wins_of state.views) old new
  sees_goes only grows front heard known given marks generation =
      subst (Goes facts state.head state.blocks state.cells history (wins_of state.views) old) (sym only) (record {
        number = refl;
        same_round = refl;
        known = known;
        filled = round.filled old.number old there;
        fixed = round.fixed old.number old there;
        grows = grows;
        front = front;
        heard = heard;
        horizon = (round.past.begun old.number old there).horizon;
        mine = refl;
        flight = refl;
        used = refl;
        won = refl;
        paid = paid_same (wins_of state.views) state.head state.cells old (seen_view old new) refl refl refl
            (round.paid old.number old there);
        alone = λ alone. table_stays old (seen_view old new) refl (generation alone)
            (is_untouched-same old (seen_view old new) refl (generation alone) refl) state.head state.blocks state.cells refl
            (round.alone old.number old there alone);
        hindsight =
            let was = round.hindsight old.number old there in
            record { marks = marks; heads = was.heads; nils = was.nils };
        given = given;
      })

module _ {facts : RoundFacts} {words : List ℕ} {state : RoundState} {history : List Entry} (round : HoldsRound facts words state history)
    (old : PassView) (there : get_elem? state.views old.number ≡ some old) (hands : List Held) (drawn : ℕ) (spent : Option ℕ)
    (made : StepCounts) where
  -- after a draw or a write the view owes nothing
  pub draws_go : Goes facts state.head state.blocks state.cells history (wins_of state.views) old
      (record old { hands = hands; drawn = drawn; spent = spent; made = made })
  draws_go =
      let begun = round.past.begun old.number old there in
      sees_goes round old (record old { hands = hands; drawn = drawn; spent = spent; made = made }) there refl (prefix_refl old.front)
      begun.front begun.heard (round.fits.known old.number old there) (round.past.given old.number old there)
      (round.hindsight old.number old there).marks (λ alone. refl)
