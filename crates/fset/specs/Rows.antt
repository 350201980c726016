-- Building a row: its words stand in a block in hand, and nothing of it is published.
use Rattle.std.specs.Prelude.{◌≡◌, ◌≢◌, ℕ, ◌+◌, ◌<◌, ◌≤◌, ◌⊎◌, true, false, List, [], ◌∷◌, length, Some, None}
use Rattle.set_model.specs.declared.call.Call.{Call}
use Rattle.arena.specs.Hands.{words_at}
use Rattle.step_core.specs.Format.{row_words}
use Rattle.step_core.specs.Ledger.{drawing}
use Rattle.step_core.specs.Rising.{keys_after_call}
use Rattle.step_core.specs.declared.views.PassView.{PassView}
use Rattle.step_core.specs.declared.views.StepCounts.{StepCounts}
use Rattle.cells.specs.Frames.{OnlyDraws}
use Rattle.cells.specs.Lone.{EndsAlone}
use Rattle.cells.specs.Steps.{Draws, Writes}
use Rattle.cells.specs.Tokens.{BlockValue}
use Rattle.fset.specs.Content.{seen_keys}
use Rattle.fset.specs.Frames.{row_cost}
use Rattle.fset.specs.declared.seen.Seen.{Seen}

-- of the steps that are counted so many writes, loads of sealed words, and at most one draw were made
pub record OnlyBuilds (writes : ℕ) (before after : StepCounts) : Type 0 where
  pub only : after ≡ record before {
    sealed_loads = after.sealed_loads;
    draws = after.draws;
    writes = before.writes + writes;
  }
  pub draws : after.draws ≤ before.draws + 1

-- A row of these keys without an operation stands in the block. Each of its words was written, and
-- at most these were drawn for it.
pub record Builds (keys : List ℕ) (block : BlockValue) (old new : PassView) : Type 0 where
  pub only : OnlyDraws old new
  pub built : words_at new.hands block.at ≡ row_words keys
  pub long : block.len ≡ row_cost (length keys)
  pub words : ℕ
  pub drawn : new.drawn ≡ old.drawn + words
  pub bound : words ≤ row_cost (length keys)
  pub unspent : old.spent ≡ None
  pub spent : new.spent ≡ old.spent
  pub steps : OnlyBuilds (row_cost (length keys)) old.made new.made
  pub alone : EndsAlone (drawing (row_cost (length keys))) false old new

-- a draw passed the end, which it wouldn't have without these words, and left the pass spent, with the
-- place that it found
pub record Overdrew (words : ℕ) (old new : PassView) : Type 0 where
  pub at : ℕ
  pub spent : new.spent ≡ Some at
  pub behind : old.facts.opened + old.drawn ≤ at
  pub past : old.facts.cap < at + words

-- the pass was spent before, and drew nothing
pub record WasSpent (words : ℕ) (old new : PassView) : Type 0 where
  pub before : old.spent ≢ None
  pub still : new.spent ≡ old.spent
  pub none : words ≡ 0

-- no block was to be had, by draws of so many words: the pass was spent, or is so now
abbrev pub IsOutOfWords : ℕ → PassView → PassView → Type 0
IsOutOfWords words old new = WasSpent words old new ⊎ Overdrew words old new

-- behind so many words the pass drew so many more, which passed the end: it is spent, with the place
-- that this draw found
pub record OverdrewAfter (before last : ℕ) (old new : PassView) : Type 0 where
  pub at : ℕ
  pub spent : new.spent ≡ Some at
  pub behind : old.facts.opened + (old.drawn + before) ≤ at
  pub past : old.facts.cap < at + last

-- No block for a row of these keys was to be had.
pub record RefusesRow (keys : List ℕ) (old new : PassView) : Type 0 where
  pub only : OnlyDraws old new
  pub words : ℕ
  pub drawn : new.drawn ≡ old.drawn + words
  pub bound : words ≤ row_cost (length keys)
  pub full : IsOutOfWords words old new
  pub steps : OnlyBuilds 0 old.made new.made
  pub alone : EndsAlone (drawing (row_cost (length keys))) true old new

-- the content of a row with the call made on it, as a rising list
abbrev pub changed_keys : Call → ℕ → PassView → Seen → List ℕ
changed_keys call key view seen = keys_after_call call key (seen_keys view seen)

-- A block was drawn for a row of so many keys, and the words before the keys stand in it.
pub record StartsRow (count : ℕ) (block : BlockValue) (old new : PassView) : Type 0 where
  pub between : PassView
  pub draws : Draws old block.at (row_cost count) between
  pub writes : Writes block.at 0 (count ∷ 0 ∷ 0 ∷ []) between new
  pub room : length (words_at new.hands block.at) ≡ row_cost count
  pub long : block.len ≡ row_cost count
