-- What contracts see of the rounds so far.
use Rattle.std.specs.Prelude.{◌≡◌, List, length}
use Rattle.chain.specs.Chain.{RoundEnd}
use Rattle.dedup.specs.Rounds.{rounds_of}
use Rattle.dedup.specs.declared.so_far.SoFar.TheInside as so_far

-- the rounds of three lists
abbrev pub rounds_value : so_far.Inside → List RoundEnd
rounds_value inside = rounds_of inside.closings.items inside.settled.items inside.made.items

-- there is one closing, one list of settled calls and one of records each
pub record HaveOneEach (inside : so_far.Inside) : Type 0 where
  pub settled : length inside.settled.items ≡ length inside.closings.items
  pub made : length inside.made.items ≡ length inside.closings.items
