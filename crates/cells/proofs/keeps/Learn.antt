-- Learning which of its own front and that of a note is longer keeps the invariant: both are fronts of the one history.
use Rattle.std.proofs.Common.{◌≡◌, ℕ, get_or, refl, sym, ap, ◌∙◌}
use Rattle.atomic_table.specs.Table.{Step as TableStep}
use Rattle.step_core.specs.declared.format.TheConstants.{HEAD}
use Rattle.step_core.specs.declared.kinds.Step.TheVariants.{LoadHead}
use Rattle.step_core.specs.declared.views.PassView.{PassView}
use Rattle.step_core.specs.declared.views.RoundFacts.{RoundFacts}
use Rattle.cells.specs.Moves.{Moves, LearnTells, view_after_learn}
use Rattle.cells.proofs.laws.Fronts.{longer-own, longer-other, longer-begins}
use Rattle.cells.proofs.laws.Lone.{is_untouched-same, same_ledger}
use Rattle.cells.proofs.laws.LoneRound.{lone_front}
use Rattle.cells.proofs.parts.NoWord.{load_moved}
use Rattle.cells.proofs.parts.PutView.{stays_whole}
use Rattle.cells.proofs.parts.SameTurns.{sees_goes}

-- whatever the round is, the pass may load a word and learn which front is longer
pub learn_moves : (facts : RoundFacts) (old : PassView) (step : TableStep ℕ) → Moves facts old LoadHead (LearnTells old step)
learn_moves facts old step words state history round there small =
    let begun = round.past.begun old.number old there in
    let new : PassView = view_after_learn old in
    let own = longer-own old.front old.heard history begun.front begun.heard in
    let begins = longer-begins old.front old.heard history begun.front begun.heard in
    let goes = sees_goes round old new there refl own begins (history, refl) (round.fits.known old.number old there)
    (round.past.given old.number old there)
    (round.hindsight old.number old there).marks (λ alone. refl) in
    let stays : old.facts.seats ≡ 1 → new.front ≡ old.front = λ alone.
    let seats : facts.seats ≡ 1 =
    ap (λ (facts : RoundFacts). facts.seats) (sym (round.fits.numbered old.number old there).same_round) ∙ alone in
    stays_whole old.front new.front history (lone_front round old.number old there seats) own begins
    ∙ sym (lone_front round old.number old there seats) in
    load_moved round old new there goes refl refl refl HEAD (LearnTells old step (get_or words HEAD 0)) (record {
      own = own;
      other = longer-other old.front old.heard history begun.front begun.heard;
      view = refl;
      alone = λ alone. same_ledger old new refl refl (is_untouched-same old new refl refl refl) (stays alone) refl refl;
    })
