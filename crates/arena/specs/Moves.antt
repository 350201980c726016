-- The state after each move. What a move doesn't name stays.
use Rattle.std.specs.Prelude.{ℕ, ◌+◌, List, length, slice_set, Some}
use Rattle.arena.specs.Owners.{hand, claimed, block_owner}
use Rattle.arena.specs.States.{ArenaState, updated, cells_with}
use Rattle.arena.specs.LaidOut.{block_size}

module _ {B V : Type 0} where
  -- the holder has another view
  abbrev pub with_view : ArenaState B V → ℕ → V → ArenaState B V
  with_view state holder view = record state { views = slice_set state.views holder view }

  -- the holder drew `count` words, which its view now has in hand
  abbrev pub after_draw : ArenaState B V → ℕ → V → ℕ → ArenaState B V
  after_draw state holder view count = record state {
    next = state.next + count;
    owners = claimed state.owners state.next count (λ _. hand holder state.next);
    views = slice_set state.views holder view;
  }

  -- the next place is another: a draw past the end leaves the words with nobody
  abbrev pub with_next : ArenaState B V → ℕ → ArenaState B V
  with_next state next = record state { next = next }

  -- the next ticket is another
  abbrev pub with_ticket : ArenaState B V → ℕ → ArenaState B V
  with_ticket state ticket = record state { ticket = ticket }

  -- the head is another
  abbrev pub with_head : ArenaState B V → ℕ → ArenaState B V
  with_head state head = record state { head = head }

  -- the holder's announce word is another
  abbrev pub with_announced : ArenaState B V → ℕ → ℕ → ArenaState B V
  with_announced state holder value =
      record state { announced = updated state.announced holder value }

  -- cell `k` of the block at `at` is another
  abbrev pub with_cell : ArenaState B V → ℕ → ℕ → ℕ → ArenaState B V
  with_cell state at k value = record state { cells = cells_with state.cells at k value }

  -- the block at `at` is published, and the view has it in hand no more
  abbrev pub after_publish : (B → List ℕ) → (B → ℕ)
      → ArenaState B V → ℕ → V → ℕ → B → ArenaState B V
  after_publish sealed_words open_words state holder view at block = record state {
    owners = claimed state.owners at (block_size sealed_words open_words block)
        (block_owner at (length (sealed_words block)));
    blocks = updated state.blocks at (Some block);
    views = slice_set state.views holder view;
  }
