-- What the words of an arena stand for.
use Rattle.std.specs.Prelude.{ℕ, List, Option, nat_eq, if◌then◌else◌}
use Rattle.arena.specs.Owners.{Owner}

-- B is the kind of block, V that of view
pub record ArenaState (B V : Type 0) : Type 0 where
  pub head : ℕ
  pub next : ℕ
  pub ticket : ℕ
  -- by holder
  pub announced : ℕ → ℕ
  -- by place
  pub owners : ℕ → Owner
  -- the published blocks, by where they begin
  pub blocks : ℕ → Option B
  -- by block, and number of the cell
  pub cells : ℕ → ℕ → ℕ
  -- by holder
  pub views : List V

-- the function with another value at one place
unfoldable pub updated : {X : Type 0} → (ℕ → X) → ℕ → X → ℕ → X
updated old place value at = if nat_eq at place then value else old at

-- the cells with another value in cell `k` of the block at `at`
abbrev pub cells_with : (ℕ → ℕ → ℕ) → ℕ → ℕ → ℕ → ℕ → ℕ → ℕ
cells_with cells at k value = updated cells at (updated (cells at) k value)
