-- How a round begins: which words it may begin with, what never changes in it, and how its first
-- table seat is cut into those of its passes.
use Rattle.std.specs.Prelude.{◌≡◌, ℕ, ◌+◌, ◌-◌, ◌≤◌, List, [], ◌∷◌, length, map}
use Rattle.std.specs.List.{range_with_len}
use Rattle.std.specs.List.Sorted.{IsStrictlyIncreasing}
use Rattle.atomic_table.specs.Table.{Me}
use Rattle.atomic_table.specs.Seated.{TableId}
use Rattle.step_core.specs.Format.{next_of}
use Rattle.step_core.specs.Limits.{max_keys, max_words}
use Rattle.step_core.specs.Openings.{opening_of, opening_words, opening_facts}
use Rattle.step_core.specs.Plain.{all_live_keys}
use Rattle.step_core.specs.Plans.{IsPlan}
use Rattle.step_core.specs.Rising.{with_key}
use Rattle.step_core.specs.States.{fresh_view}
use Rattle.step_core.specs.declared.layout.Layout.{Layout}
use Rattle.step_core.specs.declared.layout.Plan.{Plan}
use Rattle.step_core.specs.declared.views.RoundFacts.{RoundFacts}
use Rattle.cells.specs.declared.rule.SeatView.{SeatView}
use Rattle.cells.specs.Tokens.{RoundValue}

-- the keys of a list, each once, rising
unfoldable pub rising_keys : List ℕ → List ℕ
rising_keys [] = []
rising_keys (key ∷ keys) = with_key key (rising_keys keys)

-- the keys that an opening's rows have
abbrev pub opening_keys : List ℕ → List ℕ
opening_keys words = rising_keys (all_live_keys words)

-- what never changes in a round that begins with these words
abbrev pub facts_from : ℕ → List ℕ → RoundFacts
facts_from seats words =
    record { seats = seats; cap = length words; opened = next_of words; keys = opening_keys words }

-- the words are an opening of these keys, with the plan's room behind it
pub record IsOpeningOf (words : List ℕ) (layout : Layout) (plan : Plan) (keys : List ℕ)
    : Type 0 where
  pub rising : IsStrictlyIncreasing keys
  pub few : length keys ≤ max_keys
  pub laid_out : words ≡ opening_of layout.seats layout.cap keys
  pub room : layout.cap ≡ opening_words layout.seats keys + plan.room

-- a round may begin with the words: they are an opening, and the plan is one for this layout
pub record MayBegin (words : List ℕ) (layout : Layout) (plan : Plan) : Type 0 where
  pub planned : IsPlan plan
  pub seats : layout.seats ≡ plan.seats
  pub few_words : layout.cap ≤ max_words
  pub keys : List ℕ
  pub opening : IsOpeningOf words layout plan keys

-- the facts of a round that began with the words
abbrev pub HasFacts : List ℕ → Layout → Plan → RoundFacts → Type 0
HasFacts words layout plan facts = (keys : List ℕ) → IsOpeningOf words layout plan keys
    → facts ≡ opening_facts layout.seats layout.cap keys

-- the table seat of those passes that have at least this number
abbrev pub rest_seat : RoundValue → ℕ → SeatView
rest_seat round from = record {
  front = [];
  rights = map (fresh_view round.facts) (range_with_len from (round.facts.seats - from));
}

-- the table seat is the first of the round, and speaks for all its passes as they begin
pub record SpeaksForAll (round : RoundValue) (table : TableId) (me : Me ℕ SeatView) : Type 0 where
  pub same_table : table ≡ round.table
  pub seat : me ≡ (rest_seat round 0, [])
