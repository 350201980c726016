-- A view may change, and give up blocks in hand: the words and the rest of the state stay.
use Rattle.std.proofs.Common.{ℕ, List}
use Rattle.arena.specs.declared.held.Held.{Held}
use Rattle.arena.specs.States.{ArenaState}
use Rattle.arena.specs.LaidOut.{IsLaidOut}
use Rattle.arena.specs.Laws.{ViewKeeps}
use Rattle.arena.proofs.laws.Views.{hands_stand}

module _ {B V : Type 0} (sealed_words : B → List ℕ) (open_words : B → ℕ) (hands_of : V → List Held)
    {cap seats : ℕ} {words : List ℕ} {state : ArenaState B V}
    (laid : IsLaidOut sealed_words open_words hands_of cap seats words state) where
  pub view_keeps : ViewKeeps sealed_words open_words hands_of cap seats words state
  view_keeps holder new changes = record {
    size = laid.size;
    fixed_words = laid.fixed_words;
    bounds = laid.bounds;
    rest = laid.rest;
    blocks = laid.blocks;
    no_cells = laid.no_cells;
    hands = hands_stand hands_of words state.owners state.views holder new changes
        (laid.hands holder changes.old changes.is_view) (λ i view apart is_view. laid.hands i view is_view);
  }
