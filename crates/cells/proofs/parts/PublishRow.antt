-- A row that a pass wrote into a block in hand is published, and a bucket of a generation names it: the words show the state then.
use Rattle.std.proofs.Common.{◌≡◌, ℕ, ◌+◌, ◌<◌, ◌^◌, List, length, set, None, sym, ap, ◌∙◌, subst, arith, append-nil}
use mathlib.Core.Option.{some}
use lib.ListN.{get_elem?}
use Rattle.set_model.specs.declared.entry.Entry.{Entry}
use Rattle.arena.specs.Hands.{words_at, without, KeepsFronts}
use Rattle.arena.specs.LaidOut.{IsRange}
use Rattle.arena.specs.Laws.{IsReady}
use Rattle.arena.specs.Moves.{with_cell, after_publish}
use Rattle.arena.specs.Owners.{hand}
use Rattle.arena.proofs.keeps.Cell.{cell_keeps}
use Rattle.arena.proofs.keeps.Publish.{publish_keeps}
use Rattle.arena.proofs.laws.Apart.{hands_are_new}
use Rattle.step_core.specs.Format.{mutable_word, sealed_words, open_words}
use Rattle.step_core.specs.States.{RoundState, AreLaidOut, hands_of}
use Rattle.step_core.specs.declared.format.TheConstants.{FIRST_BUCKET}
use Rattle.step_core.specs.declared.published.Published.TheVariants.{Generation, Row}
use Rattle.step_core.specs.declared.published.GenerationBlock.{GenerationBlock}
use Rattle.step_core.specs.declared.published.RowBlock.{RowBlock}
use Rattle.step_core.specs.declared.views.PassView.{PassView}
use Rattle.step_core.specs.declared.views.RoundFacts.{RoundFacts}
use Rattle.step_core.proofs.changes.Named.{Names, stays}
use Rattle.step_core.proofs.seen.Shown.{some_word}
use Rattle.cells.specs.Invariant.{HoldsRound}
use Rattle.cells.proofs.laws.Sound.{sound_view}

module _ {facts : RoundFacts} {words : List ℕ} {state : RoundState} {history : List Entry} (round : HoldsRound facts words state history)
    (old : PassView) (there : get_elem? state.views old.number ≡ some old) (at : ℕ) (row : RowBlock)
    (in_hand : words_at old.hands at ≡ sealed_words (Row row)) where
  -- the block in hand has words, as a row has
  long : 0 < length (words_at old.hands at)
  long = omega (arith, ap length in_hand)

  -- nothing is published there yet,
  pub hand_unpublished : state.blocks at ≡ None
  hand_unpublished = hands_are_new sealed_words open_words hands_of round.fits.holds.laid some_word old.number at
      (record { view = old; is_view = there; begun = omega arith; within = omega (arith, long) })

  -- and it isn't the first word
  pub hand_place : 0 < at
  hand_place =
      let inside = (sound_view round old.number old there).hands at at (record { begun = omega arith; within = omega (arith, long) }) in
      omega (arith, inside.behind_base)

  -- the row's words are those in hand
  ready : IsReady sealed_words open_words words state.owners old.number at (Row row)
  ready = record {
    in_hand = subst (λ (list : List ℕ). IsRange words state.owners at list (hand old.number at))
        (in_hand ∙ sym (append-nil (sealed_words (Row row)))) (round.fits.holds.laid.hands old.number old there at);
    some_word = omega arith;
  }

  module _ {g bucket : ℕ} {generation : GenerationBlock} (names : Names state.blocks state.cells g bucket generation at row)
      (within : bucket < 2 ^ generation.exponent) (new : PassView) (hands : KeepsFronts (without at old.hands) new.hands) where
    -- the state with the row, which the bucket names
    abbrev pub with_hand_row : RoundState
    with_hand_row = with_cell (after_publish sealed_words open_words state old.number new at (Row row)) g bucket (mutable_word at)

    -- The words show it.
    pub hand_row_laid : AreLaidOut (length words) facts.seats (set words (g + FIRST_BUCKET + bucket) (mutable_word at)) with_hand_row
    hand_row_laid =
        let shown = publish_keeps sealed_words open_words hands_of round.fits.holds.laid old.number new at (Row row) ready
        (record { old = old; is_view = there; fronts = hands }) in
        cell_keeps sealed_words open_words hands_of shown g bucket (mutable_word at) (Generation generation)
        (stays names g (Generation generation) names.here) within
