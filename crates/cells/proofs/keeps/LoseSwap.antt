-- An exchange that finds another word keeps the invariant: the turn is lost, and another pass won the exchange that pays for it.
use Rattle.std.proofs.Common.{◌≡◌, ◌≢◌, ℕ, ◌+◌, ◌<◌, ◌≤◌, List, get_or, set, refl, sym, ap, ◌∙◌, arith}
use mathlib.Core.Option.{some}
use lib.ListN.{get_elem?}
use base.Growing.{prefix_refl}
use Rattle.std.proofs.lemmas.List.Elements.{All-contains}
use Rattle.set_model.specs.declared.entry.Entry.{Entry}
use Rattle.step_core.specs.States.{RoundState}
use Rattle.step_core.specs.declared.views.PassView.{PassView}
use Rattle.step_core.specs.declared.views.RoundFacts.{RoundFacts}
use Rattle.cells.specs.Exchanges.{MaySwapRow, LosesSwap, load_of, view_after_lost_swap}
use Rattle.cells.specs.Invariant.{HoldsRound}
use Rattle.cells.specs.Moves.{Moved}
use Rattle.cells.specs.Paid.{PaysLoad, IsPaid, wins_of}
use Rattle.cells.proofs.laws.FoundBucket.{word_is}
use Rattle.cells.proofs.laws.Lone.{is_untouched-same, table_stays}
use Rattle.cells.proofs.laws.LoneRound.{lone_wins}
use Rattle.cells.proofs.parts.NoWord.{load_moved}
use Rattle.cells.proofs.parts.PutView.{Goes}

module _ {facts : RoundFacts} {words : List ℕ} {state : RoundState} {history : List Entry} (round : HoldsRound facts words state history)
    (old : PassView) (there : get_elem? state.views old.number ≡ some old) (place word at : ℕ) (may : MaySwapRow old place word at)
    (differs : get_or words place 0 ≢ word) where
  -- the view after it
  abbrev new_view : PassView
  new_view = view_after_lost_swap old

  -- the bucket has another word than the open turn loaded, so the turn was overtaken
  overtaken : may.turn.seen + old.won < wins_of state.views
  overtaken =
      let turn = (round.paid old.number old there).turn may.turn may.is_turn in
      All-contains (PaysLoad (wins_of state.views) state.cells old may.turn) may.turn.loads
      (load_of may.turn.head may.bucket word) turn.loads may.loaded refl may.some_row may.mutable
      (λ same. differs (word_is round old there place may.turn.head may.bucket may.generation may.is_word ∙ same))

  -- and the exchange that overtook it pays for it
  few : old.lost + 1 + old.won ≤ wins_of state.views
  few = omega (arith, overtaken, ((round.paid old.number old there).turn may.turn may.is_turn).before)

  paid : IsPaid (wins_of state.views) state.head state.cells new_view
  paid = record { lost = few; turn = λ turn is. absurd (cc) }

  -- the view owes nothing
  goes : Goes facts state.head state.blocks state.cells history (wins_of state.views) old new_view
  goes =
      let begun = round.past.begun old.number old there in
      record {
        number = refl;
        same_round = refl;
        known = round.fits.known old.number old there;
        filled = round.filled old.number old there;
        fixed = round.fixed old.number old there;
        grows = prefix_refl old.front;
        front = begun.front;
        heard = begun.heard;
        horizon = begun.horizon;
        mine = refl;
        flight = refl;
        used = refl;
        won = refl;
        paid = paid;
        alone = λ alone. table_stays old new_view refl refl (is_untouched-same old new_view refl refl refl)
            state.head state.blocks state.cells refl (round.alone old.number old there alone);
        hindsight =
            let was = round.hindsight old.number old there in
            record { marks = was.marks; heads = was.heads; nils = was.nils };
        given = round.past.given old.number old there;
      }

  -- a pass that is the only one loses no exchange
  others : old.facts.seats ≢ 1
  others alone =
      let seats = ap (λ (facts : RoundFacts). facts.seats) (sym (round.fits.numbered old.number old there).same_round) ∙ alone in
      absurd (omega (arith, few, lone_wins round old.number old there seats))

  -- so the exchange moves the round
  pub lost_moved : (told : PassView → Type 0) → (LosesSwap old new_view → told new_view)
      → Moved facts (set words place (get_or words place 0)) state history old told
  lost_moved told tells =
      load_moved round old new_view there goes refl refl refl place told (tells (record { view_is = refl; others = others }))
