-- A write into a block in hand keeps the invariant: the word is the pass's own.
use Rattle.std.proofs.Common.{◌≡◌, ℕ, ◌+◌, ◌<◌, List, [], length, get_or, set, refl, ap, ◌∙◌, length-set}
use mathlib.Core.Option.{none, some}
use lib.ListN.{get_elem?}
use Rattle.atomic_table.specs.Table.{Me, Allows, step}
use Rattle.atomic_table.specs.Table.{Step as TableStep}
use Rattle.set_model.specs.declared.entry.Entry.{Entry}
use Rattle.arena.specs.Owners.{hand}
use Rattle.arena.specs.Hands.{words_at, written}
use Rattle.arena.proofs.laws.Hands.{KeepsFronts-refl}
use Rattle.arena.proofs.keeps.Write.{write_keeps}
use Rattle.step_core.specs.Format.{sealed_words, open_words}
use Rattle.step_core.specs.States.{RoundState, hands_of}
use Rattle.step_core.specs.declared.kinds.Step.TheVariants.{Write}
use Rattle.step_core.specs.declared.views.PassView.{PassView}
use Rattle.step_core.specs.declared.views.RoundFacts.{RoundFacts}
use Rattle.cells.specs.Invariant.{HoldsRound}
use Rattle.cells.specs.declared.rule.SeatView.{SeatView}
use Rattle.cells.specs.Moves.{Moves, Tells, write_tells}
use Rattle.cells.specs.Paid.{wins_of}
use Rattle.cells.specs.Seats.{IsRuled, pass_of, pass_seat}
use Rattle.cells.specs.Steps.{view_after_write}
use Rattle.cells.proofs.laws.Seats.{pass_allows}
use Rattle.cells.proofs.parts.SameTurns.{draws_go}
use Rattle.cells.proofs.parts.PutView.{Goes, put, put_view, put_moved, account_stays}

module _ {facts : RoundFacts} {words : List ℕ} {state : RoundState} {history : List Entry} (round : HoldsRound facts words state history)
    (old : PassView) (there : get_elem? state.views old.number ≡ some old) (place value : ℕ) where
  -- the view with the word written
  abbrev new_view : PassView
  new_view = view_after_write place value old

  -- it owes nothing
  goes : Goes facts state.head state.blocks state.cells history (wins_of state.views) old new_view
  goes = draws_go round old there new_view.hands old.drawn old.spent new_view.made

  -- the invariant holds with it
  write_holds : (at : ℕ) → state.owners place ≡ hand old.number at
      → HoldsRound facts (set words place value) (put round old new_view there goes state.owners state.next) history
  write_holds at owned =
      put_view round old new_view there goes (set words place value) state.owners state.next (length-set words place value)
      (write_keeps sealed_words open_words hands_of round.fits.holds.laid old.number new_view at place value owned
      (record { old = old; is_view = there; fronts = KeepsFronts-refl (written place value old.hands) }))
      (account_stays state.views old.number old new_view there facts state.next state.ticket refl refl round.fits.account)

-- whatever the round is, the pass may write into a block in its hands
pub write_moves : (facts : RoundFacts) (old : PassView) (made : TableStep ℕ) (at offset : ℕ) → made.word ≡ at + offset
    → offset < length (words_at old.hands at)
    → Moves facts old (Write made.word made.first) (λ word view. write_tells old made word view)
write_moves facts old made at offset place within words state history round there small =
    let owned : state.owners made.word ≡ hand old.number at =
    ap state.owners place ∙ (round.fits.holds.laid.hands old.number old there at).owned offset within in
    let new : PassView = view_after_write made.word made.first old in
    put_moved round old new there (goes round old there made.word made.first) (set words made.word made.first) state.owners state.next
    (write_holds round old there made.word made.first at owned) (write_tells old made (get_or words made.word 0)) refl

-- so the table allows it
pub write_allows : (facts : RoundFacts) (slots id : ℕ) (me : Me ℕ SeatView) (at offset value : ℕ) → me ≡ (pass_seat (pass_of me.0), [])
    → offset < length (words_at (pass_of me.0).hands at)
    → Allows (IsRuled facts) slots id me (at + offset) (λ word. value)
    (λ word. Tells write_tells (step slots (at + offset) value 0 none) me value)
write_allows facts slots id me at offset value one within table ruled homes is_me small =
    let made = step slots (at + offset) value 0 none in
    let allowed = pass_allows facts slots id me (at + offset) (λ word. value) (Write (at + offset) value) write_tells made one refl
    (λ words state history round. refl) (write_moves facts (pass_of me.0) made at offset refl within) table ruled homes is_me small in
    let tells = allowed.4 in (
      allowed.0,
      allowed.1,
      allowed.2,
      allowed.3,
      record {
        view = tells.view;
        seat = tells.seat;
        number = tells.number;
        same_round = tells.same_round;
        sound = tells.sound;
        tells = tells.tells;
      },
    )
