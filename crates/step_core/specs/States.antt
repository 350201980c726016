-- What the words of a round stand for, its history apart: fixed words, published blocks, cells and
-- the passes' views.
use Rattle.std.specs.Prelude.{◌≡◌, ℕ, ◌-◌, List, [], map, Option, Some, None}
use Rattle.std.specs.List.{range_with_len}
use mathlib.Core.Option.{some}
use lib.ListN.{get_elem?}
use Rattle.arena.specs.States.{ArenaState}
use Rattle.arena.specs.LaidOut.{IsLaidOut}
use Rattle.arena.specs.declared.held.Held.{Held}
use Rattle.step_core.specs.Format.{sealed_words, open_words}
use Rattle.step_core.specs.declared.published.Published.{Published}
use Rattle.step_core.specs.declared.published.Published.TheVariants.{Generation, Row, Op}
use Rattle.step_core.specs.declared.published.GenerationBlock.{GenerationBlock}
use Rattle.step_core.specs.declared.published.RowBlock.{RowBlock}
use Rattle.step_core.specs.declared.published.OpBlock.{OpBlock}
use Rattle.step_core.specs.declared.views.PassView.{PassView}
use Rattle.step_core.specs.declared.views.RoundFacts.{RoundFacts}
use Rattle.step_core.specs.declared.views.StepCounts.{StepCounts}

-- its published blocks by address, its cells by block and place, and its views by the number of the
-- pass
abbrev pub RoundState : Type 0
RoundState = ArenaState Published PassView

-- the blocks in the hands of a view's pass
abbrev pub hands_of : PassView → List Held
hands_of view = view.hands

-- of `cap` words the state says what each is and whose: no two blocks share a word
abbrev pub AreLaidOut : ℕ → ℕ → List ℕ → RoundState → Type 0
AreLaidOut cap seats words state = IsLaidOut sealed_words open_words hands_of cap seats words state

-- the generation is published at the address
abbrev pub IsGeneration : (ℕ → Option Published) → ℕ → GenerationBlock → Type 0
IsGeneration blocks at generation = blocks at ≡ Some (Generation generation)

-- the row is
abbrev pub IsRow : (ℕ → Option Published) → ℕ → RowBlock → Type 0
IsRow blocks at row = blocks at ≡ Some (Row row)

-- the operation is
abbrev pub IsOp : (ℕ → Option Published) → ℕ → OpBlock → Type 0
IsOp blocks at op = blocks at ≡ Some (Op op)

-- what holds of each view and the number of its pass
abbrev pub Each : (ℕ → PassView → Type 0) → List PassView → Type 0
Each P views = (number : ℕ) (view : PassView) → get_elem? views number ≡ some view → P number view

-- no step has been made
abbrev pub no_steps : StepCounts
no_steps = record {
  head_loads = 0;
  sealed_loads = 0;
  bucket_loads = 0;
  draws = 0;
  writes = 0;
  row_swaps = 0;
  fills = 0;
  freezes = 0;
  head_swaps = 0;
  notes = 0;
  learned = 0;
}

-- what a pass knows as its round begins: nothing but the round's facts and its own number
abbrev pub fresh_view : RoundFacts → ℕ → PassView
fresh_view facts number = record {
  facts = facts;
  number = number;
  front = [];
  heard = [];
  horizon = [];
  known = [];
  hands = [];
  drawn = 0;
  spent = None;
  tickets = [];
  flight = None;
  mine = [];
  used = 0;
  won = 0;
  lost = 0;
  turn = None;
  asked = [];
  marks = [];
  heads = [];
  nils = [];
  trials = [];
  fixed = [];
  filled = [];
  events = [];
  begun = 0;
  won_since = 0;
  won_before = 0;
  lost_before = 0;
  cursor = facts.seats - 1;
  made = no_steps;
}

-- the views of a round's passes as it begins
abbrev pub fresh_views : RoundFacts → List PassView
fresh_views facts = map (fresh_view facts) (range_with_len 0 facts.seats)
