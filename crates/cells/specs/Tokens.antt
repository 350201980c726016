-- A round, a pass and a block as contracts see them.
use Rattle.std.specs.Prelude.{◌≡◌, ℕ, ◌<◌, ◌≤◌, List, map, All}
use Rattle.std.specs.List.{range_with_len}
use Rattle.atomic_table.specs.Seated.{TableId}
use Rattle.set_model.specs.declared.entry.Entry.{Entry}
use Rattle.step_core.specs.Plans.{IsPlan}
use Rattle.step_core.specs.States.{fresh_view}
use Rattle.step_core.specs.declared.layout.Layout.{Layout}
use Rattle.step_core.specs.declared.layout.Plan.{Plan}
use Rattle.step_core.specs.declared.views.PassView.{PassView}
use Rattle.step_core.specs.declared.views.RoundFacts.{RoundFacts}

-- a round: which table it is, and what never changes in it
pub record RoundValue : Type 0 where
  pub table : TableId
  pub facts : RoundFacts
  pub layout : Layout
  pub plan : Plan

-- a pass: whose round it is of, what it knows, and how many calls it has begun
pub record PassValue : Type 0 where
  pub table : TableId
  pub view : PassView
  pub calls : ℕ

-- a block: where it begins, and how many words it has
pub record BlockValue : Type 0 where
  pub at : ℕ
  pub len : ℕ

-- a note: whose round it is of, and how far its pass had seen the history
pub record NoteValue : Type 0 where
  pub table : TableId
  pub front : List Entry

-- a round's layout and plan are those of its facts
pub record IsPlanned (round : RoundValue) : Type 0 where
  pub cap : round.facts.cap ≡ round.layout.cap
  pub seats : round.facts.seats ≡ round.layout.seats
  pub plan : IsPlan round.plan
  pub planned : round.plan.seats ≡ round.layout.seats

-- the pass was made by the round
pub record IsPassOf (round : RoundValue) (pass : PassValue) : Type 0 where
  pub table : pass.table ≡ round.table
  pub facts : pass.view.facts ≡ round.facts

-- it has begun the calls of all its entries and operations
pub record HasBegunCalls (pass : PassValue) : Type 0 where
  pub serials : All (λ entry. entry.serial < pass.calls) pass.view.mine
  pub used : pass.view.used ≤ pass.calls

-- it has begun a call that has no entry and no operation yet
abbrev pub HasNewCall : PassValue → Type 0
HasNewCall pass = pass.view.used < pass.calls

-- it is the same pass of the same round, and has begun no call more
pub record IsSamePass (old new : PassValue) : Type 0 where
  pub table : new.table ≡ old.table
  pub number : new.view.number ≡ old.view.number
  pub facts : new.view.facts ≡ old.view.facts
  pub calls : new.calls ≡ old.calls

-- a pass as its round begins
abbrev pub fresh_pass : RoundValue → ℕ → PassValue
fresh_pass round number =
    record { table = round.table; view = fresh_view round.facts number; calls = 0 }

-- the passes of a round as it begins, by their numbers
abbrev pub fresh_passes : RoundValue → List PassValue
fresh_passes round = map (fresh_pass round) (range_with_len 0 round.facts.seats)
