-- How a round is halted.
use Rattle.std.specs.Prelude.{◌≡◌, ℕ, List, map, All, None}
use Rattle.std.specs.List.Sorted.{IsNonDecreasingBy, IsPermutation}
use Rattle.std.specs.List.{range_with_len}
use Rattle.set_model.specs.declared.entry.Entry.{Entry}
use Rattle.cells.specs.Ends.{EndsRound}
use Rattle.cells.specs.Tokens.{RoundValue, PassValue}

-- a round that was halted: which it was, its last words, its whole history, and its passes, by
-- number, as they then were
pub record HaltedValue : Type 0 where
  pub round : RoundValue
  pub words : List ℕ
  pub front : List Entry
  pub passes : List PassValue

-- the number of a pass
abbrev pub number_of : PassValue → ℕ
number_of pass = pass.view.number

-- `ordered` has the passes in the order of their numbers
pub record ByNumber (passes ordered : List PassValue) : Type 0 where
  pub same : IsPermutation passes ordered
  pub order : IsNonDecreasingBy number_of ordered

-- at each place below the number of passes stands the one of that number
abbrev pub AreNumbered : RoundValue → List PassValue → Type 0
AreNumbered round passes = map number_of passes ≡ range_with_len 0 round.facts.seats

-- no operation of these passes is in flight
abbrev pub AreAtRest : List PassValue → Type 0
AreAtRest passes = All (λ pass. pass.view.flight ≡ None) passes

-- the running round was halted with these passes: the words are its last, the history is whole
pub record Halts (running : RoundValue) (passes : List PassValue) (halted : HaltedValue)
    : Type 0 where
  pub round : halted.round ≡ running
  pub same : IsPermutation passes halted.passes
  pub numbered : AreNumbered running halted.passes
  pub ends : EndsRound running.facts passes halted.words halted.front
