-- Who owns each word of an arena. A word has one owner, so what has owners of its own shares no
-- word.
use Rattle.std.specs.Prelude.{ℕ, ◌+◌, ◌-◌, ◌&&◌, nat_le, nat_lt, if◌then◌else◌}

-- an owner of one word
pub data Owner : Type 0 where
  -- nobody: it was never drawn, or lies past the end
  free : Owner
  -- the arena: head, next place, ticket and announce words
  fixed : Owner
  -- the published block that begins there; the word never changes again
  sealed : (block : ℕ) → Owner
  -- that block's cell of this number, from 0
  cell : (block place : ℕ) → Owner
  -- the holder of this number, who has the block that begins there in hand
  hand : (holder block : ℕ) → Owner

-- the owners after the `count` words from `at` on went over, word k of them to `owner k`
unfoldable pub claimed : (ℕ → Owner) → ℕ → ℕ → (ℕ → Owner) → ℕ → Owner
claimed owners at count owner place =
    if nat_le at place && nat_lt place (at + count) then owner (place - at) else owners place

-- who owns word k of the published block at `at`, of which the first `count` words are sealed
unfoldable pub block_owner : ℕ → ℕ → ℕ → Owner
block_owner at count k = if nat_lt k count then sealed at else cell at (k - count)
