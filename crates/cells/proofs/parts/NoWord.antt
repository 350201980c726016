-- A step that changes no word and takes no block: the invariant holds where the new view owes nothing.
use Rattle.std.proofs.Common.{◌≡◌, ℕ, List, get_or, set, sym, subst, length-set}
use mathlib.Core.Option.{some}
use lib.ListN.{get_elem?}
use Rattle.set_model.specs.declared.entry.Entry.{Entry}
use Rattle.arena.specs.declared.held.Held.{Held}
use Rattle.arena.specs.Hands.{KeepsFronts}
use Rattle.arena.proofs.laws.Hands.{KeepsFronts-refl}
use Rattle.arena.proofs.keeps.Load.{load_keeps}
use Rattle.arena.proofs.keeps.View.{view_keeps}
use Rattle.step_core.specs.Format.{sealed_words, open_words}
use Rattle.step_core.specs.States.{RoundState, hands_of}
use Rattle.step_core.specs.declared.views.PassView.{PassView}
use Rattle.step_core.specs.declared.views.RoundFacts.{RoundFacts}
use Rattle.cells.specs.Invariant.{HoldsRound}
use Rattle.cells.specs.Moves.{Moved}
use Rattle.cells.specs.Paid.{wins_of}
use Rattle.cells.proofs.parts.PutView.{Goes, put, put_view, put_moved, account_stays}

module _ {facts : RoundFacts} {words : List ℕ} {state : RoundState} {history : List Entry} (round : HoldsRound facts words state history)
    (old new : PassView) (there : get_elem? state.views old.number ≡ some old)
    (goes : Goes facts state.head state.blocks state.cells history (wins_of state.views) old new)
    (hands : new.hands ≡ old.hands) (drawn : new.drawn ≡ old.drawn) (spent : new.spent ≡ old.spent) where
  -- the word that is loaded stays, and so does all else but the view
  pub load_view : (place : ℕ)
      → HoldsRound facts (set words place (get_or words place 0)) (put round old new there goes state.owners state.next) history
  load_view place =
      let fronts : KeepsFronts old.hands new.hands =
      subst (λ (list : List Held). KeepsFronts old.hands list) (sym hands) (KeepsFronts-refl old.hands) in
      put_view round old new there goes (set words place (get_or words place 0)) state.owners state.next
      (length-set words place (get_or words place 0))
      (view_keeps sealed_words open_words hands_of
      (load_keeps sealed_words open_words hands_of round.fits.holds.laid place) old.number new
      (record { old = old; is_view = there; fronts = fronts }))
      (account_stays state.views old.number old new there facts state.next state.ticket drawn spent round.fits.account)

  -- so the pass may load the word and have that view, if it tells what the load does
  pub load_moved : (place : ℕ) (told : PassView → Type 0) → told new
      → Moved facts (set words place (get_or words place 0)) state history old told
  load_moved place told tells =
      put_moved round old new there goes (set words place (get_or words place 0)) state.owners state.next (load_view place) told tells
