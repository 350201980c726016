-- How one try of an insert or a remove ends.
use Rattle.std.specs.Prelude.{◌≡◌, ◌≢◌, ℕ, ◌+◌, ◌≤◌, ◌⊎◌, Bool, true, false, List, length, Some, None}
use Rattle.set_model.specs.Call.{answer_where}
use Rattle.set_model.specs.Keys.{is_in}
use Rattle.set_model.specs.declared.call.Call.{Call}
use Rattle.set_model.specs.declared.call.Call.TheVariants.{Insert, Remove, Contains}
use Rattle.step_core.specs.Content.{InClass}
use Rattle.step_core.specs.declared.published.RowBlock.{RowBlock}
use Rattle.step_core.specs.declared.views.Known.{Known}
use Rattle.step_core.specs.declared.views.PassView.{PassView}
use Rattle.step_core.specs.declared.views.StepCounts.{StepCounts}
use Rattle.cells.specs.Exchanges.{content_keys}
use Rattle.cells.specs.Past.{inserted_keys}
use Rattle.fset.specs.declared.outcomes.Answered.{Answered}
use Rattle.fset.specs.declared.outcomes.Turn.{Turn}
use Rattle.fset.specs.declared.outcomes.Turn.TheVariants.{Done, Lost, Full}
use Rattle.fset.specs.Standing.{TriedStands}
use Rattle.fset.specs.Content.{front_has}
use Rattle.fset.specs.Frames.{KeepsOwn, Spends, latest_row, row_cost, turns_cost}
use Rattle.fset.specs.Rows.{OverdrewAfter, WasSpent}
use Rattle.fset.specs.Seeking.{DrawsToFill, FindsFrozen, FindsNil}

-- whether a call leaves its key in the set
abbrev pub leaves_key : Call → Bool
leaves_key Insert = true
leaves_key Remove = false
leaves_key Contains = false

-- no row that the pass met is wider: each key is the opening's or an insert's of the history as far as it
-- had come then, and one may be that of an operation
abbrev pub most_keys : PassView → ℕ
most_keys view = length view.facts.keys + length (inserted_keys view.horizon) + 1

-- The width is the number of keys of the row that the pass learned last, which is of the key's
-- bucket and has the key where the call leaves it there.
pub record IsWidth (call : Call) (key width : ℕ) (learned : List Known) (new : PassView)
    : Type 0 where
  pub row : RowBlock
  pub latest : latest_row learned ≡ Some row
  pub home : InClass row.exponent row.bucket key
  pub counts : width ≡ length (content_keys new row)
  pub after : is_in (content_keys new row) key ≡ leaves_key call
  pub bound : width ≤ most_keys new

-- where no bucket was filled, none was frozen, and these words are at most those of one row, with a key
-- more than the widest
abbrev pub DrawsOneRow : ℕ → ℕ → PassView → PassView → Type 0
DrawsOneRow words width old new = new.made.fills ≡ old.made.fills
    → (words ≤ row_cost (width + 1)) × (new.made.freezes ≤ old.made.freezes)

-- It was answered. Where it changed nothing, it drew only to fill the bucket.
pub record AnswersTurn (serial : ℕ) (call : Call) (key : ℕ) (answered : Answered)
    (old new : PassView) : Type 0 where
  pub spends : Spends (turns_cost 1) 0 old new
  pub stands : TriedStands serial call key answered.changed old new
  pub width : IsWidth call key answered.width spends.learned new
  pub spent : new.spent ≡ old.spent
  pub unfilled : DrawsOneRow spends.words (length spends.wide) old new
  pub closed : answered.changed ≡ true → new.turn ≡ None
  pub reads : answered.changed ≡ false → spends.words ≤ row_cost (length spends.wide)
      × DrawsToFill spends.words old new

-- the call would change the set after the pass's front
abbrev pub WouldChange : Call → ℕ → PassView → Type 0
WouldChange call key view = answer_where call (front_has view key) ≡ true

-- its exchange was lost, to another pass
pub record LosesExchange (call : Call) (key : ℕ) (old new : PassView) : Type 0 where
  pub wanted : WouldChange call key new
  pub exchanged : new.made.row_swaps ≡ old.made.row_swaps + 1
  pub unspent : old.spent ≡ None

-- Its exchange was lost, or its bucket was frozen, and no exchange made: another pass won one.
pub record LosesTurn (call : Call) (key : ℕ) (old new : PassView) : Type 0 where
  pub spends : Spends (turns_cost 1) 1 old new
  pub own : KeepsOwn old new
  pub cause : LosesExchange call key old new ⊎ FindsFrozen old new
  pub unspent : (old.spent ≡ None) ⊎ (spends.words ≡ 0)
  pub unfilled : DrawsOneRow spends.words (length spends.wide) old new
  pub closed : new.turn ≡ None
  pub spent : new.spent ≡ old.spent
  pub others : old.facts.seats ≢ 1

-- the block was needed for a row that the call changes, or for one to fill the key's bucket with
abbrev pub NeedsBlock : Call → ℕ → PassView → PassView → Type 0
NeedsBlock call key old new = WouldChange call key new ⊎ FindsNil key old new

-- a block that it needed wasn't to be had
pub record RefusesTurn (call : Call) (key : ℕ) (old new : PassView) : Type 0 where
  pub spends : Spends (turns_cost 1) 0 old new
  pub own : KeepsOwn old new
  pub needed : NeedsBlock call key old new
  pub before : ℕ
  pub last : ℕ
  pub words : spends.words ≡ before + last
  pub full : WasSpent spends.words old new ⊎ OverdrewAfter before last old new

-- how a turn ended
abbrev pub EndsTurn : ℕ → Call → ℕ → Turn → PassView → PassView → Type 0
EndsTurn serial call key (Done answered) old new = AnswersTurn serial call key answered old new
EndsTurn serial call key Lost old new = LosesTurn call key old new
EndsTurn serial call key Full old new = RefusesTurn call key old new

-- the steps of one turn: one load of the head, one of a bucket, at most one draw and one exchange, and
-- to fill a bucket at most two freezes, one draw, one exchange and one more load of the bucket
pub record AreOneTurn (before after : StepCounts) : Type 0 where
  pub heads : after.head_loads ≡ before.head_loads + 1
  pub some_bucket : before.bucket_loads + 1 ≤ after.bucket_loads
  pub buckets : after.bucket_loads + before.fills ≤ before.bucket_loads + 1 + after.fills
  pub draws : after.draws + before.fills ≤ before.draws + 1 + after.fills
  pub swaps : after.row_swaps ≤ before.row_swaps + 1
  pub no_fewer : before.fills ≤ after.fills
  pub fills : after.fills ≤ before.fills + 1
  pub freezes : after.freezes ≤ before.freezes + 2
  pub head_swaps : after.head_swaps ≡ before.head_swaps
  pub notes : after.notes ≡ before.notes
  pub learned : after.learned ≡ before.learned
