-- An exchange of HEAD that finds another head keeps the invariant: no turn is open, and the block stays in hand.
use Rattle.std.proofs.Common.{◌≡◌, ◌≢◌, ℕ, List, get_or, set, refl, sym, ap, ◌∙◌}
use mathlib.Core.Option.{some}
use lib.ListN.{get_elem?}
use base.Growing.{prefix_refl}
use Rattle.set_model.specs.declared.entry.Entry.{Entry}
use Rattle.step_core.specs.States.{RoundState}
use Rattle.step_core.specs.declared.format.TheConstants.{HEAD}
use Rattle.step_core.specs.declared.views.PassView.{PassView}
use Rattle.step_core.specs.declared.views.RoundFacts.{RoundFacts}
use Rattle.cells.specs.HeadSwaps.{LosesHead, view_after_lost_head}
use Rattle.cells.specs.Invariant.{HoldsRound}
use Rattle.cells.specs.Lone.{head_at}
use Rattle.cells.specs.Moves.{Moved}
use Rattle.cells.specs.Paid.{wins_of}
use Rattle.cells.proofs.laws.Lone.{is_untouched-same, table_stays}
use Rattle.cells.proofs.parts.NoWord.{load_moved}
use Rattle.cells.proofs.parts.PutState.{each_sees}
use Rattle.cells.proofs.parts.PutView.{Goes}

module _ {facts : RoundFacts} {words : List ℕ} {state : RoundState} {history : List Entry} (round : HoldsRound facts words state history)
    (old : PassView) (there : get_elem? state.views old.number ≡ some old) (head : ℕ) (differs : get_or words HEAD 0 ≢ head) where
  -- the view after an exchange that found another head owes nothing
  lost_goes : Goes facts state.head state.blocks state.cells history (wins_of state.views) old (view_after_lost_head old)
  lost_goes =
      let was = each_sees round old.number old there in
      record {
        number = refl;
        same_round = refl;
        known = was.known;
        filled = was.filled;
        fixed = was.fixed;
        grows = prefix_refl old.front;
        front = was.begun.front;
        heard = was.begun.heard;
        horizon = was.begun.horizon;
        mine = refl;
        flight = refl;
        used = refl;
        won = refl;
        paid = record { lost = was.paid.lost; turn = λ turn is. absurd (cc) };
        alone = λ alone. table_stays old (view_after_lost_head old) refl refl
            (is_untouched-same old (view_after_lost_head old) refl refl refl) state.head state.blocks state.cells refl (was.alone alone);
        hindsight = record { marks = was.hindsight.marks; heads = was.hindsight.heads; nils = was.hindsight.nils };
        given = was.given;
      }

  -- a pass that is the only one knows the head, so it expected another
  not_expected : old.facts.seats ≡ 1 → head_at old ≢ head
  not_expected alone same =
      let seats = ap (λ (facts : RoundFacts). facts.seats) (sym (round.fits.numbered old.number old there).same_round) ∙ alone in
      differs (round.fits.holds.laid.fixed_words.head_shown ∙ sym (round.alone old.number old there seats).head_is ∙ same)

  -- so the exchange moves the round
  pub lost_moved : (told : PassView → Type 0) → (LosesHead head old (view_after_lost_head old) → told (view_after_lost_head old))
      → Moved facts (set words HEAD (get_or words HEAD 0)) state history old told
  lost_moved told tells = load_moved round old (view_after_lost_head old) there lost_goes refl refl refl HEAD told
      (tells (record { view_is = refl; alone = not_expected }))
