-- A word that is read is as it was.
use Rattle.std.proofs.Common.{ℕ, List}
use Rattle.std.proofs.lemmas.List.{set-get_or}
use Rattle.arena.specs.declared.held.Held.{Held}
use Rattle.arena.specs.States.{ArenaState}
use Rattle.arena.specs.LaidOut.{IsLaidOut}
use Rattle.arena.specs.Laws.{LoadKeeps}

module _ {B V : Type 0} (sealed_words : B → List ℕ) (open_words : B → ℕ) (hands_of : V → List Held)
    {cap seats : ℕ} {words : List ℕ} {state : ArenaState B V}
    (laid : IsLaidOut sealed_words open_words hands_of cap seats words state) where
  pub load_keeps : LoadKeeps sealed_words open_words hands_of cap seats words state
  load_keeps place = rw (set-get_or words place 0) laid
