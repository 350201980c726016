-- How the calls on the set end for a pass that is the only one of its round: as its ledger says.
use Rattle.std.specs.Prelude.{◌≡◌, ℕ, Bool, true}
use Rattle.set_model.specs.Keys.{is_in}
use Rattle.set_model.specs.declared.call.Call.{Call}
use Rattle.step_core.specs.Ledger.{write}
use Rattle.step_core.specs.declared.views.PassView.{PassView}
use Rattle.cells.specs.Lone.{ledger_of, EndsAs, SameLedger}
use Rattle.fset.specs.Alone.{AnswersAlone}
use Rattle.fset.specs.declared.outcomes.Outcome.{Outcome}
use Rattle.fset.specs.declared.outcomes.Outcome.TheVariants.{Done, Busy, Full}

-- how an insert or a remove ends: it isn't Busy
abbrev pub EndsCallAlone : Call → ℕ → Outcome → PassView → PassView → Type 0
EndsCallAlone call key (Done answered) old new = AnswersAlone call key answered old new
EndsCallAlone call key Busy old new = ⊥
EndsCallAlone call key Full old new = EndsAs (write call key (ledger_of old)) true new

-- a look-up is answered by the ledger, which stays
pub record LooksAlone (key : ℕ) (answer : Bool) (old new : PassView) : Type 0 where
  pub same : SameLedger old new
  pub is_answer : answer ≡ is_in (ledger_of old).keys key
