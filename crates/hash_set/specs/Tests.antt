-- What tests with several threads keep of their passes.
use Rattle.std.specs.Prelude.{◌≡◌, ℕ, ◌<◌, List, length, slice_index_or, All, None}
use Rattle.cells.specs.Ends.{AreAllPasses}
use Rattle.cells.specs.Tokens.{IsPassOf, PassValue, RoundValue}

-- the pass is of the round, whose plan announces nothing, and has nothing in flight
pub record IsIdle (round : RoundValue) (pass : PassValue) : Type 0 where
  pub ours : IsPassOf round pass
  pub flight : pass.view.flight ≡ None
  pub plan : round.plan.turns ≡ 0

-- so it is then, and it is the pass of that number
pub record Keeps (round : RoundValue) (old new : PassValue) : Type 0 where
  pub idle : IsIdle round new
  pub number : new.view.number ≡ old.view.number

-- the passes are all of the round, each once, and idle
pub record AreIdle (round : RoundValue) (passes : List PassValue) : Type 0 where
  pub all : AreAllPasses round passes
  pub idle : All (IsIdle round) passes

-- each of the passes is so then, and is the pass of its number
pub record KeepEach (round : RoundValue) (old new : List PassValue) : Type 0 where
  pub long : length new ≡ length old
  pub each : (k : ℕ) (d : PassValue) → k < length old
      → Keeps round (slice_index_or old k d) (slice_index_or new k d)
