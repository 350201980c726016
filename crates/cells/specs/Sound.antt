-- What holds of any view, taken alone.
use Rattle.std.specs.Prelude.{All, ◌≡◌, ℕ, ◌+◌, ◌<◌, ◌≤◌, ◌⊎◌, length}
use Rattle.std.specs.List.Sorted.{IsStrictlyIncreasing}
use Rattle.set_model.specs.History.{IsLegal}
use Rattle.set_model.specs.Keys.{is_in}
use Rattle.arena.specs.Hands.{words_at}
use Rattle.step_core.specs.Fits.{HoldsClass}
use Rattle.step_core.specs.Format.{base_of, block_len}
use Rattle.step_core.specs.Limits.{max_exponent, max_passes, max_words}
use Rattle.step_core.specs.declared.published.Published.{Published}
use Rattle.step_core.specs.declared.published.GenerationBlock.{GenerationBlock}
use Rattle.step_core.specs.declared.published.RowBlock.{RowBlock}
use Rattle.step_core.specs.declared.views.PassView.{PassView}
use Rattle.step_core.specs.declared.views.RoundFacts.{RoundFacts}
use Rattle.cells.specs.Known.{KnowsBlock, KnowsRow, KnowsGeneration}
use Rattle.cells.specs.Past.{HasGivenKeys}
use Rattle.cells.specs.SoFar.{KnowsNoOp}

-- so many words from the address on lie in the arena
pub record IsInArena (facts : RoundFacts) (at count : ℕ) : Type 0 where
  pub behind_base : base_of facts.seats ≤ at
  pub within : at + count ≤ facts.cap

-- the place is a word of the block in hand at the address
pub record IsInHand (view : PassView) (at place : ℕ) : Type 0 where
  pub begun : at ≤ place
  pub within : place < at + length (words_at view.hands at)

-- the place is a word of the known block at the address
pub record IsInBlock (view : PassView) (at place : ℕ) : Type 0 where
  pub block : Published
  pub known : KnowsBlock view at block
  pub begun : at ≤ place
  pub within : place < at + block_len block

-- a round has 1 to 64 passes, at most 2^28 words, the fixed ones among them, and opening keys that
-- rise
pub record AreFacts (facts : RoundFacts) : Type 0 where
  pub some_pass : 1 ≤ facts.seats
  pub few_passes : facts.seats ≤ max_passes
  pub few_words : facts.cap ≤ max_words
  pub fixed_words : base_of facts.seats ≤ facts.cap
  pub rising : IsStrictlyIncreasing facts.keys

-- the view is sound: what it says of itself, of known blocks and of blocks in hand is so
pub record IsSound (view : PassView) : Type 0 where
  pub facts : AreFacts view.facts
  pub seat : view.number < view.facts.seats
  -- its front is a legal history
  pub legal : IsLegal (is_in view.facts.keys) view.front
  -- the serials of its entries are used
  pub used : All (λ entry. entry.serial < view.used) view.mine
  -- known blocks lie in the arena, one at a place, and those that share a word are one
  pub blocks : (at : ℕ) (block : Published) → KnowsBlock view at block
      → IsInArena view.facts at (block_len block)
  pub one : (at : ℕ) (block other : Published) → KnowsBlock view at block → KnowsBlock view at other
      → block ≡ other
  pub apart : (at other place : ℕ) → IsInBlock view at place → IsInBlock view other place
      → at ≡ other
  -- known rows rise, and have the opening's keys and such as were inserted; known generations are no
  -- larger than they may be
  pub rows : (at : ℕ) (row : RowBlock) → KnowsRow view at row → HoldsClass row
  pub given : (at : ℕ) (row : RowBlock) → KnowsRow view at row
      → HasGivenKeys view.facts.keys view.horizon row
  pub generations : (at : ℕ) (generation : GenerationBlock) → KnowsGeneration view at generation
      → generation.exponent ≤ max_exponent
  -- and of two that follow each other the one has one bucket bit more
  pub nexts : (at : ℕ) (generation other : GenerationBlock) → KnowsGeneration view at generation
      → KnowsGeneration view generation.predecessor other
      → (generation.exponent ≡ other.exponent + 1) ⊎ (other.exponent ≡ generation.exponent + 1)
  -- blocks in hand lie in the arena, share no word, and none is known
  pub hands : (at place : ℕ) → IsInHand view at place → IsInArena view.facts place 1
  pub hands_apart : (at other place : ℕ) → IsInHand view at place → IsInHand view other place
      → at ≡ other
  pub hands_unknown : (at other place : ℕ) → IsInHand view at place → IsInBlock view other place → ⊥
  -- a pass that is the only one has lost no turn
  pub lone : view.facts.seats ≡ 1 → view.lost ≡ 0
  pub no_op : KnowsNoOp view
