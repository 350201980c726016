-- How the calls on the set end.
use Rattle.std.specs.Prelude.{◌≡◌, ◌≢◌, ℕ, ◌+◌, ◌*◌, ◌<◌, ◌≤◌, ◌⊎◌, false, List, ◌∷◌, length, None}
use mathlib.Core.List.{IsPrefix}
use Rattle.set_model.specs.declared.call.Call.{Call}
use Rattle.step_core.specs.declared.views.HeadLoad.{HeadLoad}
use Rattle.step_core.specs.declared.views.Known.{Known}
use Rattle.step_core.specs.declared.views.PassView.{PassView}
use Rattle.step_core.specs.declared.views.StepCounts.{StepCounts}
use Rattle.cells.specs.Tokens.{PassValue}
use Rattle.fset.specs.declared.outcomes.Answered.{Answered}
use Rattle.fset.specs.declared.outcomes.Outcome.{Outcome}
use Rattle.fset.specs.declared.outcomes.Outcome.TheVariants.{Done, Busy, Full}
use Rattle.fset.specs.Frames.{Grows, KeepsOwn, Spends, row_cost, turns_cost, widest}
use Rattle.fset.specs.Looking.{LoadsEachOnce}
use Rattle.fset.specs.Rows.{OverdrewAfter, WasSpent}
use Rattle.fset.specs.Standing.{AnswerStands, TriedStands}
use Rattle.fset.specs.Turns.{IsWidth, LosesTurn, RefusesTurn}

-- it is the same pass of the same round, and has begun one call more
pub record BeginsCall (old new : PassValue) : Type 0 where
  pub table : new.table ≡ old.table
  pub number : new.view.number ≡ old.view.number
  pub facts : new.view.facts ≡ old.view.facts
  pub calls : new.calls ≡ old.calls + 1

-- A call loaded the head, the key's bucket there and, where that is nil, its bucket in the generation
-- before, and at most all words of one row: it drew nothing and has no entry. It lost one turn at most,
-- that which was open. Its front isn't shorter than the one that it had at the load of the head.
pub record OnlyLooks (key : ℕ) (old new : PassView) : Type 0 where
  pub learned : List Known
  pub losses : ℕ
  pub few_losses : losses ≤ 1
  pub grows : Grows learned 0 losses old new
  pub own : KeepsOwn old new
  pub head : HeadLoad
  pub heads : new.heads ≡ head ∷ old.heads
  pub further : IsPrefix head.front new.front
  pub spent : new.spent ≡ old.spent
  pub hands : new.hands ≡ old.hands
  pub buckets : ℕ
  pub few_buckets : (buckets ≡ 1) ⊎ (buckets ≡ 2)
  pub each_once : LoadsEachOnce head.at key old new
  pub loads : ℕ
  pub few : loads ≤ 2 * buckets + 1 + widest learned
  pub made : new.made ≡ record old.made {
    head_loads = old.made.head_loads + 1;
    sealed_loads = old.made.sealed_loads + loads;
    bucket_loads = old.made.bucket_loads + buckets;
  }

-- the steps of so many turns: for each one load of the head, one of a bucket, at most one draw and one
-- exchange, and to fill a bucket at most two freezes, one draw, one exchange and one more load of the
-- bucket
pub record AreTurns (turns : ℕ) (before after : StepCounts) : Type 0 where
  pub heads : after.head_loads ≡ before.head_loads + turns
  pub some_buckets : before.bucket_loads + turns ≤ after.bucket_loads
  pub buckets : after.bucket_loads + before.fills ≤ before.bucket_loads + turns + after.fills
  pub draws : after.draws + before.fills ≤ before.draws + turns + after.fills
  pub swaps : after.row_swaps ≤ before.row_swaps + turns
  pub no_fewer : before.fills ≤ after.fills
  pub fills : after.fills ≤ before.fills + turns
  pub freezes : after.freezes ≤ before.freezes + 2 * turns
  pub head_swaps : after.head_swaps ≡ before.head_swaps
  pub notes : after.notes ≡ before.notes
  pub learned : after.learned ≡ before.learned

-- So many turns were made, of which so many were lost, and each drew as much as a turn may. Only where
-- the round has other passes is one lost.
pub record Tries (turns losses : ℕ) (old new : PassView) : Type 0 where
  pub spends : Spends (turns_cost turns) losses old new
  pub steps : AreTurns turns old.made new.made
  pub others : losses ≢ 0 → old.facts.seats ≢ 1

-- It was answered, in the turn after those that were lost. Where it changed nothing, that turn drew
-- only to fill its bucket.
pub record AnswersCall (fast serial : ℕ) (call : Call) (key : ℕ) (answered : Answered)
    (old new : PassView) : Type 0 where
  pub losses : ℕ
  pub few : losses < fast
  pub tries : Tries (losses + 1) losses old new
  pub stands : AnswerStands serial call key answered.changed old new
  -- so far only a call that changed the set has an entry
  pub tried : TriedStands serial call key answered.changed old new
  pub width : IsWidth call key answered.width tries.spends.learned new
  pub spent : new.spent ≡ old.spent
  pub reads : answered.changed ≡ false → tries.spends.words
      ≤ turns_cost losses (length tries.spends.wide) + row_cost (length tries.spends.wide)
  pub unfilled : answered.changed ≡ false → new.made.fills ≡ old.made.fills
      → tries.spends.words ≤ turns_cost losses (length tries.spends.wide)

-- so many turns were lost, the last of them as a turn is
pub record LosesLast (turns : ℕ) (call : Call) (key : ℕ) (old new : PassView) : Type 0 where
  pub before : ℕ
  pub count : turns ≡ before + 1
  pub start : PassView
  pub earlier : Tries before before old start
  pub turn : LosesTurn call key start new

-- all its turns were lost, to other passes
pub record LosesCall (fast : ℕ) (call : Call) (key : ℕ) (old new : PassView) : Type 0 where
  pub tries : Tries fast fast old new
  pub own : KeepsOwn old new
  pub last : LosesLast fast call key old new
  pub unspent : (old.spent ≡ None) ⊎ (tries.spends.words ≡ 0)
  pub spent : new.spent ≡ old.spent
  pub others : old.facts.seats ≢ 1

-- A block that it needed in its last turn wasn't to be had: the pass was spent before, and the call
-- drew nothing; or its last draw passed the end.
pub record RefusesCall (fast : ℕ) (call : Call) (key : ℕ) (old new : PassView) : Type 0 where
  pub losses : ℕ
  pub few : losses < fast
  pub tries : Tries (losses + 1) losses old new
  pub own : KeepsOwn old new
  pub start : PassView
  pub earlier : Tries losses losses old start
  pub turn : RefusesTurn call key start new
  pub before : ℕ
  pub last : ℕ
  pub words : tries.spends.words ≡ before + last
  pub full : WasSpent tries.spends.words old new ⊎ OverdrewAfter before last old new

-- how an insert or a remove ended that is tried at most so often
abbrev pub EndsCall : ℕ → ℕ → Call → ℕ → Outcome → PassView → PassView → Type 0
EndsCall fast serial call key (Done answered) old new =
    AnswersCall fast serial call key answered old new
EndsCall fast serial call key Busy old new = LosesCall fast call key old new
EndsCall fast serial call key Full old new = RefusesCall fast call key old new
