-- What calls leave of a pass's view, told so that it adds up: what a call learned, drew and lost is
-- exact, and the front and what else is known of the round only grew.
use Rattle.std.specs.Prelude.{◌≡◌, ℕ, ◌+◌, ◌*◌, ◌≤◌, max, true, List, [], ◌∷◌, ◌++◌, length, Contains, Option, Some, None}
use Rattle.std.specs.List.Sorted.{IsStrictlyIncreasing}
use mathlib.Core.List.{IsPrefix}
use Rattle.set_model.specs.Keys.{is_in}
use Rattle.step_core.specs.declared.format.TheConstants.{FIRST_KEY}
use Rattle.step_core.specs.declared.published.Published.{Published}
use Rattle.step_core.specs.declared.published.Published.TheVariants.{Generation, Row, Op}
use Rattle.step_core.specs.declared.published.RowBlock.{RowBlock}
use Rattle.step_core.specs.declared.views.Known.{Known}
use Rattle.step_core.specs.declared.views.PassView.{PassView}
use Rattle.cells.specs.Frames.{OnlyReads}
use Rattle.cells.specs.Known.{known_block}

-- the new list is the old one with something in front
abbrev pub IsBehind : {A : Type 0} → List A → List A → Type 0
IsBehind {A} old new = (more : List A) × (new ≡ more ++ old)

-- These blocks became known, so many words were drawn and so many turns lost. The front may reach
-- further, more results and announce words may be known, and it is the same pass.
pub record Grows (learned : List Known) (words losses : ℕ) (old new : PassView) : Type 0 where
  pub number : new.number ≡ old.number
  pub facts : new.facts ≡ old.facts
  pub front : IsPrefix old.front new.front
  pub known : new.known ≡ learned ++ old.known
  pub fixed : IsBehind old.fixed new.fixed
  pub asked : IsBehind old.asked new.asked
  pub drawn : new.drawn ≡ old.drawn + words
  pub lost : new.lost ≡ old.lost + losses

-- the pass has no entry more, and its operation is in flight as before, if one is
pub record KeepsOwn (old new : PassView) : Type 0 where
  pub mine : new.mine ≡ old.mine
  pub flight : new.flight ≡ old.flight
  pub used : new.used ≡ old.used

-- how many keys a block has, if it is a row
abbrev pub width_of : Published → ℕ
width_of (Generation generation) = 0
width_of (Row row) = length row.keys
width_of (Op op) = 0

-- the most keys of a row among these blocks
abbrev pub widest : List Known → ℕ
widest [] = 0
widest (known ∷ others) = max (width_of known.block) (widest others)

-- the block, if it is a row, and else another
abbrev pub row_or : Published → Option RowBlock → Option RowBlock
row_or (Generation generation) other = other
row_or (Row row) other = Some row
row_or (Op op) other = other

-- the first row among these blocks: the one that was learned last
abbrev pub latest_row : List Known → Option RowBlock
latest_row [] = None
latest_row (known ∷ others) = row_or known.block (latest_row others)

-- the words of a row with so many keys
abbrev pub row_cost : ℕ → ℕ
row_cost width = FIRST_KEY + width

-- the most words that are drawn to fill a bucket from its sources, by the wider of their rows
abbrev pub filling_cost : ℕ → ℕ
filling_cost width = FIRST_KEY + 2 * width

-- the most words that so many turns draw, by the widest row that they read, published, or wrote
abbrev pub turns_cost : ℕ → ℕ → ℕ
turns_cost turns width = turns * (2 * width + 8)

-- the key is one of a row among these blocks
abbrev pub IsKeyOf : List Known → ℕ → Type 0
IsKeyOf blocks key = (at : ℕ) × (row : RowBlock) × Contains blocks (known_block at (Row row))
    × (is_in row.keys key ≡ true)

-- the keys of a row that is among these blocks, or that was written of keys of such
pub record AreKeysOf (blocks : List Known) (keys : List ℕ) : Type 0 where
  pub rising : IsStrictlyIncreasing keys
  pub from : (key : ℕ) → is_in keys key ≡ true → IsKeyOf blocks key

-- A call grew the view and lost so many turns. What it drew is bounded by the widest row that it
-- read, published, or wrote.
pub record Spends (cost : ℕ → ℕ) (losses : ℕ) (old new : PassView) : Type 0 where
  pub learned : List Known
  pub words : ℕ
  pub grows : Grows learned words losses old new
  -- the keys of that row
  pub wide : List ℕ
  pub keys : AreKeysOf learned wide
  pub bound : words ≤ cost (length wide)

-- So many sealed words were loaded, these blocks became known, and nothing else changed but that
-- the front may reach further. So told, readings add up.
pub record Reads (learned : List Known) (loads : ℕ) (old new : PassView) : Type 0 where
  pub only : OnlyReads old new
  pub grows : Grows learned 0 0 old new
  pub made : new.made ≡ record old.made { sealed_loads = old.made.sealed_loads + loads }
