-- What it means that the words of an arena show a state, for any kind of block and of view.
use Rattle.std.specs.Prelude.{◌≡◌, ℕ, ◌+◌, ◌<◌, ◌≤◌, List, ◌++◌, length, replicate, slice_index, Option, Some, None}
use mathlib.Core.Option.{some}
use lib.ListN.{get_elem?}
use Rattle.arena.specs.declared.layout.TheConstants.{HEAD, NEXT, TICKET, ANNOUNCED}
use Rattle.arena.specs.declared.held.Held.{Held}
use Rattle.arena.specs.Owners.{Owner, free, fixed, sealed, cell, hand}
use Rattle.arena.specs.Hands.{words_at}
use Rattle.arena.specs.States.{ArenaState}

-- the words from `at` on are those of the list, and all have one owner
pub record IsRange (words : List ℕ) (owners : ℕ → Owner) (at : ℕ) (list : List ℕ)
    (owner : Owner) : Type 0 where
  pub shown : (k : ℕ) → k < length list → slice_index words (at + k) ≡ slice_index list k
  pub owned : (k : ℕ) → k < length list → owners (at + k) ≡ owner

-- the words from `at` on are the first cells of the block, and have them as owners
pub record IsCells (words : List ℕ) (owners : ℕ → Owner) (at count block : ℕ)
    (cells : ℕ → ℕ) : Type 0 where
  pub shown : (k : ℕ) → k < count → slice_index words (at + k) ≡ cells k
  pub owned : (k : ℕ) → k < count → owners (at + k) ≡ cell block k

-- how many words are fixed: an announce word for each seat, behind the three others
abbrev pub base : ℕ → ℕ
base seats = ANNOUNCED + seats

-- how many cells the published block has, none where there is no block
abbrev pub cell_count : {B : Type 0} → (B → ℕ) → Option B → ℕ
cell_count open_words None = 0
cell_count open_words (Some block) = open_words block

module _ {B : Type 0} (sealed_words : B → List ℕ) (open_words : B → ℕ) where
  -- all words of a block as it is published: its cells are 0
  abbrev pub published_words : B → List ℕ
  published_words block = sealed_words block ++ replicate (open_words block) 0

  -- how many words the block has
  abbrev pub block_size : B → ℕ
  block_size block = length (sealed_words block) + open_words block

  -- the sealed words of a published block, and its cells behind them
  pub record IsBlock (words : List ℕ) (owners : ℕ → Owner) (cells : ℕ → ℕ) (at : ℕ)
      (block : B) : Type 0 where
    pub sealed_part : IsRange words owners at (sealed_words block) (sealed at)
    pub cell_part : IsCells words owners
        (at + length (sealed_words block)) (open_words block) at cells

-- the fixed words, with an announce word for each holder
pub record IsFixed (seats : ℕ) (words : List ℕ) (head next ticket : ℕ)
    (announced : ℕ → ℕ) : Type 0 where
  pub head_shown : slice_index words HEAD ≡ head
  pub next_shown : slice_index words NEXT ≡ next
  pub ticket_shown : slice_index words TICKET ≡ ticket
  pub announced_shown : (holder : ℕ) → holder < seats
      → slice_index words (ANNOUNCED + holder) ≡ announced holder

-- of `cap` words those below the base are fixed, and none from the next place on is drawn
pub record IsBounded (cap seats next : ℕ) (owners : ℕ → Owner) : Type 0 where
  pub below_base : (place : ℕ) → place < base seats → owners place ≡ fixed
  pub from_next : (place : ℕ) → next ≤ place → owners place ≡ free
  pub past_end : (place : ℕ) → cap ≤ place → owners place ≡ free

module _ {B V : Type 0} (sealed_words : B → List ℕ) (open_words : B → ℕ)
    (hands_of : V → List Held) where
  -- The words of an arena with `cap` words and so many holders show the state: the fixed words are
  -- as it says, published blocks and blocks in hand stand in the words and own them, and what nobody
  -- drew is 0. A cell that no published block has counts as 0, so a block is published without a
  -- change to the cells.
  pub record IsLaidOut (cap seats : ℕ) (words : List ℕ) (state : ArenaState B V) : Type 0 where
    pub size : length words ≡ cap
    pub fixed_words : IsFixed seats words state.head state.next state.ticket state.announced
    pub bounds : IsBounded cap seats state.next state.owners
    pub rest : (place : ℕ) → state.next ≤ place → slice_index words place ≡ 0
    pub blocks : (at : ℕ) (block : B) → state.blocks at ≡ Some block
        → IsBlock sealed_words open_words words state.owners (state.cells at) at block
    pub no_cells : (at k : ℕ) → cell_count open_words (state.blocks at) ≤ k → state.cells at k ≡ 0
    pub hands : (holder : ℕ) (view : V) → get_elem? state.views holder ≡ some view
        → (at : ℕ) → IsRange words state.owners at (words_at (hands_of view) at) (hand holder at)
