-- Blocks in hand, seen as the words of the block that begins at a place.
use Rattle.std.specs.Prelude.{◌≡◌, ℕ, ◌-◌, ◌<◌, ◌≤◌, List, [], ◌∷◌, map, filter, length, replicate, slice_index, slice_set, nat_le, nat_eq, not, if◌then◌else◌}
use Rattle.arena.specs.declared.held.Held.{Held}

-- the words of the first block that begins there, none where no block does
abbrev pub words_at : List Held → ℕ → List ℕ
words_at [] at = []
words_at (held ∷ hands) at = if nat_eq held.at at then held.words else words_at hands at

-- a block fresh from a draw: all its words are 0
abbrev pub drawn_block : ℕ → ℕ → Held
drawn_block at count = record { at = at; words = replicate count 0 }

-- the block after the value was written to that place of the arena
abbrev pub written_block : ℕ → ℕ → Held → Held
written_block place value held = record {
  at = held.at;
  words = if nat_le held.at place then slice_set held.words (place - held.at) value else held.words;
}

-- the same of all blocks in hand: the place is a word of one at most
abbrev pub written : ℕ → ℕ → List Held → List Held
written place value hands = map (written_block place value) hands

-- the blocks that don't begin there
abbrev pub without : ℕ → List Held → List Held
without at hands = filter (λ held. not (nat_eq held.at at)) hands

-- the list begins with these words
pub record IsFront (front whole : List ℕ) : Type 0 where
  pub short : length front ≤ length whole
  pub same : (k : ℕ) → k < length front → slice_index front k ≡ slice_index whole k

-- each block in hand is the front of one that was: what is behind it, or a whole block, may be
-- given up
pub record KeepsFronts (old new : List Held) : Type 0 where
  pub fronts : (at : ℕ) → IsFront (words_at new at) (words_at old at)
