-- Which table seat speaks for which pass. A table seat that speaks for none has no part in
-- the invariant but that its front begins the history.
use Rattle.std.specs.Prelude.{◌≡◌, ℕ, List, [], ◌∷◌, All}
use mathlib.Core.List.{IsPrefix}
use mathlib.Core.Option.{some}
use lib.ListN.{get_elem?}
use Rattle.set_model.specs.declared.entry.Entry.{Entry}
use Rattle.atomic_table.specs.Table.{State}
use Rattle.step_core.specs.States.{RoundState, fresh_view, fresh_views}
use Rattle.step_core.specs.declared.views.PassView.{PassView}
use Rattle.step_core.specs.declared.views.RoundFacts.{RoundFacts}
use Rattle.cells.specs.declared.rule.SeatView.{SeatView}
use Rattle.cells.specs.declared.rule.Setup.{Setup}
use Rattle.cells.specs.Invariant.{HoldsRound}
use Rattle.cells.specs.Begins.{facts_from}

-- the table seat of one pass
abbrev pub pass_seat : PassView → SeatView
pass_seat view = record { front = []; rights = view ∷ [] }

-- the table seat of a note
abbrev pub note_seat : List Entry → SeatView
note_seat front = record { front = front; rights = [] }

-- the table seat of several passes
abbrev pub gathered_seat : List PassView → SeatView
gathered_seat views = record { front = []; rights = views }

-- the view of a pass as its round begins: a table seat is cut off for such a pass alone
abbrev pub fresh_of : PassView → PassView
fresh_of view = fresh_view view.facts view.number

-- what is left of a table seat that another took in
abbrev pub spent_seat : SeatView
spent_seat = note_seat []

-- no pass
abbrev pub no_pass : PassView
no_pass = fresh_view (record { seats = 0; cap = 0; opened = 0; keys = [] }) 0

-- the first pass that a table seat speaks for
abbrev pub first_pass : List PassView → PassView
first_pass [] = no_pass
first_pass (view ∷ others) = view

-- the others
abbrev pub other_passes : List PassView → List PassView
other_passes [] = []
other_passes (view ∷ others) = others

-- the pass that a pass's table seat speaks for
abbrev pub pass_of : SeatView → PassView
pass_of seat = first_pass seat.rights

-- the table seat speaks for the pass: it has the pass's view, and is the one that does
pub record SpeaksFor (views : List PassView) (owner : ℕ → ℕ) (seat : ℕ) (view : PassView)
    : Type 0 where
  pub is_view : get_elem? views view.number ≡ some view
  pub only : owner view.number ≡ seat

-- a table seat's front begins the history, and it speaks for the passes that it has the right to
pub record IsSeat (views : List PassView) (history : List Entry) (owner : ℕ → ℕ) (number : ℕ)
    (seat : SeatView) : Type 0 where
  pub front : IsPrefix seat.front history
  pub rights : All (SpeaksFor views owner number) seat.rights

-- so it is with every table seat, and no pass has two
pub record AreSeated (views : List PassView) (history : List Entry) (seats : List SeatView)
    : Type 0 where
  pub owner : ℕ → ℕ
  pub each : (number : ℕ) (seat : SeatView) → get_elem? seats number ≡ some seat
      → IsSeat views history owner number seat

-- the rule of a round's table: its words stand for a state that meets the invariant, with these
-- table seats
pub record IsRuled (facts : RoundFacts) (table : State ℕ SeatView) : Type 0 where
  pub state : RoundState
  pub history : List Entry
  pub holds : HoldsRound facts table.words state history
  pub seated : AreSeated state.views history table.views

-- what never changes, by the key of the table
abbrev pub facts_of : Setup → RoundFacts
facts_of setup = facts_from setup.seats setup.words.value

-- the first table seat speaks for all passes
abbrev pub first_seat : Setup → SeatView
first_seat setup = record { front = []; rights = fresh_views (facts_of setup) }
