-- The smallest arena: one holder, and blocks of one sealed word and one cell. Its opening has one
-- block, and two words to draw. A second block is then drawn, written, published and set, and
-- becomes the head.
use Rattle.std.specs.Prelude.{ℕ, List, [], ◌∷◌, Some, None, nat_lt, if◌then◌else◌}
use Rattle.arena.specs.declared.held.Held.{Held}
use Rattle.arena.specs.Owners.{free, fixed, claimed, block_owner}
use Rattle.arena.specs.Hands.{drawn_block, written}
use Rattle.arena.specs.States.{ArenaState, updated, cells_with}
use Rattle.arena.specs.LaidOut.{IsLaidOut}
use Rattle.arena.specs.Moves.{after_draw, with_view, after_publish, with_cell, with_head}

-- a block is its sealed words, a view its blocks in hand
abbrev pub SmallState : Type 0
SmallState = ArenaState (List ℕ) (List Held)

-- the eight words of an arena with one seat show the state; each block has one cell
abbrev pub ShowsSmall : List ℕ → SmallState → Type 0
ShowsSmall words state = IsLaidOut (λ block. block) (λ _. 1) (λ hands. hands) 8 1 words state

-- the block [7] at 4, with its cell at 9
abbrev pub small_words : List ℕ
small_words = 4 ∷ 6 ∷ 0 ∷ 0 ∷ 7 ∷ 9 ∷ 0 ∷ 0 ∷ []

-- their state: one block is published, and nothing is in hand
abbrev pub small_opening : SmallState
small_opening = record {
  head = 4;
  next = 6;
  ticket = 0;
  announced = λ _. 0;
  owners = claimed (λ a. if nat_lt a 4 then fixed else free) 4 2 (block_owner 4 1);
  blocks = updated (λ _. None) 4 (Some (7 ∷ []));
  cells = cells_with (λ _ _. 0) 4 0 9;
  views = [] ∷ [];
}

-- the opening's words show its state
abbrev pub OpeningShows : Type 0
OpeningShows = ShowsSmall small_words small_opening

-- what the holder has in hand after a draw of two words
abbrev pub small_hand : List Held
small_hand = drawn_block 6 2 ∷ []

-- two words are drawn,
abbrev pub small_draw : SmallState
small_draw = after_draw small_opening 0 small_hand 2

-- 5 is written to the first,
abbrev pub small_write : SmallState
small_write = with_view small_draw 0 (written 6 5 small_hand)

-- and the block is published
abbrev pub small_publish : SmallState
small_publish = after_publish (λ block. block) (λ _. 1) small_write 0 [] 6 (5 ∷ [])

-- its cell is set to 3, and it becomes the head
abbrev pub small_ending : SmallState
small_ending = with_head (with_cell small_publish 6 0 3) 6

-- the last words show the last state
abbrev pub EndingShows : Type 0
EndingShows = ShowsSmall (6 ∷ 8 ∷ 0 ∷ 0 ∷ 7 ∷ 9 ∷ 5 ∷ 3 ∷ []) small_ending

-- words with another sealed word don't show the opening
abbrev pub DamageShowsNot : Type 0
DamageShowsNot = ShowsSmall (4 ∷ 6 ∷ 0 ∷ 0 ∷ 8 ∷ 9 ∷ 0 ∷ 0 ∷ []) small_opening → ⊥
