-- How a round ends.
use Rattle.std.specs.Prelude.{◌≡◌, ℕ, List, map, All}
use Rattle.std.specs.List.{range_with_len}
use Rattle.std.specs.List.Sorted.{IsPermutation}
use mathlib.Core.Option.{some}
use lib.ListN.{get_elem?}
use Rattle.set_model.specs.declared.entry.Entry.{Entry}
use Rattle.set_model.specs.History.{set_after}
use Rattle.set_model.specs.Keys.{keys_set}
use Rattle.step_core.specs.Content.{HasMembers}
use Rattle.step_core.specs.Plain.{HasPlainRows}
use Rattle.step_core.specs.States.{RoundState}
use Rattle.step_core.specs.declared.views.RoundFacts.{RoundFacts}
use Rattle.cells.specs.Invariant.{HoldsRound}
use Rattle.cells.specs.Tokens.{RoundValue, PassValue, IsPassOf, HasBegunCalls}

-- the passes are all of the round, each once
pub record AreAllPasses (round : RoundValue) (passes : List PassValue) : Type 0 where
  pub ours : All (IsPassOf round) passes
  pub once : IsPermutation (map (λ pass. pass.view.number) passes)
      (range_with_len 0 round.facts.seats)

-- the pass's view is the one that the state has for its number
abbrev pub HasView : RoundState → PassValue → Type 0
HasView state pass = get_elem? state.views pass.view.number ≡ some pass.view

-- These are the last words of the round, and its whole history: with the very views of these passes
-- they meet the invariant together.
pub record EndsRound (facts : RoundFacts) (passes : List PassValue) (words : List ℕ)
    (history : List Entry) : Type 0 where
  pub state : RoundState
  pub holds : HoldsRound facts words state history
  pub views : All (HasView state) passes
  -- and there is no other view
  pub all : IsPermutation (map (λ pass. pass.view) passes) state.views
  pub serials : All HasBegunCalls passes
  -- the members of the words are the set after the history
  pub members : HasMembers words (set_after (keys_set facts.keys) history)
  -- so far no row of them has an operation
  pub plain : HasPlainRows words
