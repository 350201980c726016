-- Who pays for a lost turn: each is an exchange that another pass won.
use Rattle.std.specs.Prelude.{◌≡◌, ◌≢◌, ℕ, ◌+◌, ◌<◌, ◌≤◌, List, sum_by, All, Some}
use Rattle.step_core.specs.Format.{IsNil, IsMutable}
use Rattle.step_core.specs.States.{Each}
use Rattle.step_core.specs.declared.views.BucketLoad.{BucketLoad}
use Rattle.step_core.specs.declared.views.OpenTurn.{OpenTurn}
use Rattle.step_core.specs.declared.views.PassView.{PassView}

-- the exchanges that all passes won
abbrev pub wins_of : List PassView → ℕ
wins_of views = sum_by (λ view. view.won) views

-- since the turn began another pass won an exchange
abbrev pub IsOvertaken : ℕ → PassView → OpenTurn → Type 0
IsOvertaken wins view turn = turn.seen + view.won < wins

-- where a mutable row that was loaded from the turn's head stands there no more, the turn was
-- overtaken
abbrev pub PaysLoad : ℕ → (ℕ → ℕ → ℕ) → PassView → OpenTurn → BucketLoad → Type 0
PaysLoad wins cells view turn load =
    load.at ≡ turn.head → ¬ IsNil load.word → IsMutable load.word
    → cells load.at load.bucket ≢ load.word → IsOvertaken wins view turn

-- the turns lost before an open turn are paid by what the others had won when it began
pub record IsPaidTurn (wins head : ℕ) (cells : ℕ → ℕ → ℕ) (view : PassView) (turn : OpenTurn)
    : Type 0 where
  pub before : view.lost ≤ turn.seen
  pub seen : turn.seen + view.won ≤ wins
  -- where its head is the head no more, it was overtaken
  pub moved : turn.head ≢ head → IsOvertaken wins view turn
  pub loads : All (PaysLoad wins cells view turn) turn.loads

-- a pass lost at most as many turns as the others won exchanges
pub record IsPaid (wins head : ℕ) (cells : ℕ → ℕ → ℕ) (view : PassView) : Type 0 where
  pub lost : view.lost + view.won ≤ wins
  pub turn : (turn : OpenTurn) → view.turn ≡ Some turn → IsPaidTurn wins head cells view turn

-- so it is with every pass
abbrev pub ArePaid : ℕ → (ℕ → ℕ → ℕ) → List PassView → Type 0
ArePaid head cells views = Each (λ pass view. IsPaid (wins_of views) head cells view) views
