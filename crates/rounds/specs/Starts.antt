-- How a round is started.
use Rattle.std.specs.Prelude.{◌≡◌, ℕ, ◌+◌, ◌<◌, ◌≤◌, List, ◌++◌, codes, decimal}
use Rattle.cells.specs.Tokens.{RoundValue, PassValue, fresh_passes}
use Rattle.step_core.specs.Limits.{max_words}
use Rattle.step_core.specs.Openings.{opening_facts, opening_words}
use Rattle.step_core.specs.declared.layout.Layout.{Layout}
use Rattle.step_core.specs.declared.layout.Plan.{Plan}
use Rattle.rounds.specs.declared.fault.OpenFault.{OpenFault}
use Rattle.rounds.specs.declared.fault.OpenFault.TheVariants.{NoMemory, TooWide}

-- how many words a round of the plan has that begins with the keys: its opening, and behind it the
-- room
abbrev pub round_words : Plan → List ℕ → ℕ
round_words plan keys = opening_words plan.seats keys + plan.room

-- its layout
abbrev pub layout_of : Plan → List ℕ → Layout
layout_of plan keys = record { seats = plan.seats; cap = round_words plan keys }

-- this is such a round, and these are its passes, by number, as they begin
pub record StartsRound (keys : List ℕ) (given : Plan) (round : RoundValue)
    (passes : List PassValue) : Type 0 where
  pub few_words : round_words given keys ≤ max_words
  pub plan : round.plan ≡ given
  pub layout : round.layout ≡ layout_of given keys
  pub facts : round.facts ≡ opening_facts given.seats (round_words given keys) keys
  pub fresh : passes ≡ fresh_passes round

-- A round of so many words is refused: for want of memory where it isn't too wide, or since it is,
-- and then with this number.
abbrev pub RefusesStart : ℕ → OpenFault → Type 0
RefusesStart count NoMemory = count ≤ max_words
RefusesStart count (TooWide words) = (words ≡ count) × (max_words < count)

-- the text that tells the fault
abbrev pub fault_text : OpenFault → List ℕ
fault_text NoMemory = codes "out of memory"
fault_text (TooWide words) = codes "a round of " ++ decimal words ++ codes " words is too wide"
