-- How the calls of a round may be planned.
use Rattle.std.specs.Prelude.{◌≢◌, ◌+◌, ◌≤◌}
use Rattle.step_core.specs.Limits.{max_passes, max_words, max_turns}
use Rattle.step_core.specs.declared.layout.Plan.{Plan}

-- a plan has a pass at least, and some turn for a call
pub record IsPlan (plan : Plan) : Type 0 where
  pub some_pass : 1 ≤ plan.seats
  pub few_passes : plan.seats ≤ max_passes
  pub fast : plan.fast ≤ max_turns
  pub turns : plan.turns ≤ max_turns
  pub some_turn : plan.fast + plan.turns ≢ 0
  pub room : plan.room ≤ max_words
