-- What the memory layer promises of words that show a state: each move keeps them together, and
-- blocks lie inside the arena and apart.
use Rattle.std.specs.Prelude.{◌≡◌, ℕ, ◌+◌, ◌<◌, ◌≤◌, List, ◌∷◌, length, slice_index, slice_set, Option, Some, None}
use mathlib.Core.Option.{some}
use lib.ListN.{get_elem?}
use Rattle.arena.specs.declared.layout.TheConstants.{HEAD, NEXT, TICKET, ANNOUNCED}
use Rattle.arena.specs.declared.held.Held.{Held}
use Rattle.arena.specs.Owners.{Owner, hand}
use Rattle.arena.specs.Hands.{words_at, drawn_block, written, without, KeepsFronts}
use Rattle.arena.specs.States.{ArenaState}
use Rattle.arena.specs.LaidOut.{base, block_size, published_words, IsRange, IsLaidOut}
use Rattle.arena.specs.Moves.{with_view, after_draw, with_next, with_ticket, with_head, with_announced, with_cell, after_publish}

-- the holder's view becomes `new`, whose blocks in hand are fronts of what `change` makes of those
-- before
pub record ChangesView {V : Type 0} (hands_of : V → List Held) (views : List V) (holder : ℕ)
    (change : List Held → List Held) (new : V) : Type 0 where
  pub old : V
  pub is_view : get_elem? views holder ≡ some old
  pub fronts : KeepsFronts (change (hands_of old)) (hands_of new)

-- the place is a word of the block that the holder has in hand at `at`
pub record IsWordInHand {V : Type 0} (hands_of : V → List Held) (views : List V)
    (holder at place : ℕ) : Type 0 where
  pub view : V
  pub is_view : get_elem? views holder ≡ some view
  pub begun : at ≤ place
  pub within : place < at + length (words_at (hands_of view) at)

module _ {B : Type 0} (sealed_words : B → List ℕ) (open_words : B → ℕ) where
  -- the place is a word of the block that is published at `at`
  pub record IsPublishedWord (blocks : ℕ → Option B) (at place : ℕ) : Type 0 where
    pub block : B
    pub is_block : blocks at ≡ Some block
    pub begun : at ≤ place
    pub within : place < at + block_size sealed_words open_words block

  -- the holder may publish the block at `at`: it has the block's words in hand there, and there is
  -- one
  pub record IsReady (words : List ℕ) (owners : ℕ → Owner) (holder at : ℕ) (block : B)
      : Type 0 where
    pub in_hand : IsRange words owners at (published_words sealed_words open_words block)
        (hand holder at)
    pub some_word : 0 < block_size sealed_words open_words block

-- the place was drawn, behind the fixed words and within the arena
pub record IsDrawn (cap seats next place : ℕ) : Type 0 where
  pub behind_base : base seats ≤ place
  pub below_next : place < next
  pub within : place < cap

module _ {B V : Type 0} (sealed_words : B → List ℕ) (open_words : B → ℕ) (hands_of : V → List Held)
    (cap seats : ℕ) (words : List ℕ) (state : ArenaState B V) where
  -- these words show that state, in an arena of this size
  abbrev pub Shows : List ℕ → ArenaState B V → Type 0
  Shows new_words new_state =
      IsLaidOut sealed_words open_words hands_of cap seats new_words new_state

  -- a word that is read, or that an exchange finds to be another, is as it was
  abbrev pub LoadKeeps : Type 0
  LoadKeeps = (place : ℕ) → Shows (slice_set words place (slice_index words place)) state

  -- a view may change, and give up blocks
  abbrev pub ViewKeeps : Type 0
  ViewKeeps = (holder : ℕ) (new : V) → ChangesView hands_of state.views holder (λ hands. hands) new
      → Shows words (with_view state holder new)

  -- a draw within the arena puts the words drawn into the holder's hand, all 0
  abbrev pub DrawKeeps : Type 0
  DrawKeeps = (holder : ℕ) (new : V) (count : ℕ) → state.next + count ≤ cap
      → ChangesView hands_of state.views holder (λ hands. drawn_block state.next count ∷ hands) new
      → Shows (slice_set words NEXT (state.next + count)) (after_draw state holder new count)

  -- a draw past the end raises the next place, and nobody owns what was drawn
  abbrev pub OverdrawKeeps : Type 0
  OverdrawKeeps = (next : ℕ) → state.next ≤ next
      → Shows (slice_set words NEXT next) (with_next state next)

  -- a word in hand is written
  abbrev pub WriteKeeps : Type 0
  WriteKeeps = (holder : ℕ) (new : V) (at place value : ℕ) → state.owners place ≡ hand holder at
      → ChangesView hands_of state.views holder (written place value) new
      → Shows (slice_set words place value) (with_view state holder new)

  -- a block in hand is published, and no word changes
  abbrev pub PublishKeeps : Type 0
  PublishKeeps = (holder : ℕ) (new : V) (at : ℕ) (block : B)
      → IsReady sealed_words open_words words state.owners holder at block
      → ChangesView hands_of state.views holder (without at) new
      → Shows words (after_publish sealed_words open_words state holder new at block)

  -- a cell of a published block is set
  abbrev pub CellKeeps : Type 0
  CellKeeps = (at k value : ℕ) (block : B) → state.blocks at ≡ Some block → k < open_words block
      → Shows (slice_set words (at + length (sealed_words block) + k) value)
      (with_cell state at k value)

  -- the head is set
  abbrev pub HeadKeeps : Type 0
  HeadKeeps = (head : ℕ) → Shows (slice_set words HEAD head) (with_head state head)

  -- the ticket is set
  abbrev pub TicketKeeps : Type 0
  TicketKeeps = (ticket : ℕ) → Shows (slice_set words TICKET ticket) (with_ticket state ticket)

  -- a holder's announce word is set
  abbrev pub AnnounceKeeps : Type 0
  AnnounceKeeps = (holder value : ℕ) → holder < seats
      → Shows (slice_set words (ANNOUNCED + holder) value) (with_announced state holder value)

  -- published blocks lie behind the fixed words and below the next place, inside the arena
  abbrev pub BlocksLieInside : Type 0
  BlocksLieInside = (at place : ℕ) → IsPublishedWord sealed_words open_words state.blocks at place
      → IsDrawn cap seats state.next place

  -- so do blocks in hand
  abbrev pub HandsLieInside : Type 0
  HandsLieInside = (holder at place : ℕ) → IsWordInHand hands_of state.views holder at place
      → IsDrawn cap seats state.next place

  -- published blocks that share a word are one block
  abbrev pub BlocksAreApart : Type 0
  BlocksAreApart = (at other place : ℕ)
      → IsPublishedWord sealed_words open_words state.blocks at place
      → IsPublishedWord sealed_words open_words state.blocks other place → at ≡ other

  -- blocks in hand that share a word are one block of one holder
  abbrev pub HandsAreApart : Type 0
  HandsAreApart = (holder at other_holder other place : ℕ)
      → IsWordInHand hands_of state.views holder at place
      → IsWordInHand hands_of state.views other_holder other place
      → (holder ≡ other_holder) × (at ≡ other)

  -- no word in hand is published
  abbrev pub HandsAreUnpublished : Type 0
  HandsAreUnpublished = (holder at other place : ℕ)
      → IsWordInHand hands_of state.views holder at place
      → IsPublishedWord sealed_words open_words state.blocks other place → ⊥

  -- a block in hand isn't published yet, where each kind of block has a word
  abbrev pub HandsAreNew : Type 0
  HandsAreNew = ((block : B) → 0 < block_size sealed_words open_words block)
      → (holder at : ℕ) → IsWordInHand hands_of state.views holder at at → state.blocks at ≡ None
