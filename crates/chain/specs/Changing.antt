-- Which records' inserts changed the set, by the chain of a run.
use Rattle.std.specs.Prelude.{◌≡◌, ℕ, ◌&&◌, Bool, true, false, nat_eq, List, flat_map, map}
use Rattle.std.specs.List.{IsDistinct, filter}
use Rattle.set_model.specs.Keys.{keys_set}
use Rattle.set_model.specs.declared.call.Call.{Call}
use Rattle.set_model.specs.declared.call.Call.TheVariants.{Insert, Remove, Contains}
use Rattle.set_model.specs.declared.entry.Entry.{Entry}
use Rattle.chain.specs.Chain.{Asked, RoundEnd, asked_at, entries_of, number_of_entry}

-- the call is an insert
abbrev pub is_insert : Call → Bool
is_insert Insert = true
is_insert Remove = false
is_insert Contains = false

-- the entry is an insert that changed the set
abbrev pub is_changing : Entry → Bool
is_changing entry = is_insert entry.call && entry.answer

-- the numbers of the records whose insert changed the set in the round
abbrev pub changing_in : RoundEnd → List ℕ
changing_in round = map (number_of_entry round.made) (filter is_changing (entries_of round))

-- in all rounds
abbrev pub changing_of : List RoundEnd → List ℕ
changing_of rounds = flat_map changing_in rounds

-- the keys that the records with these numbers ask for
abbrev pub keys_of_numbers : List Asked → List ℕ → List ℕ
keys_of_numbers asked numbers = map (λ number. (asked_at asked number).key) numbers

-- the keys that all records ask for
abbrev pub keys_asked : List Asked → List ℕ
keys_asked asked = map (λ call. call.key) asked

-- these records have each key that is asked for once
pub record HaveEachKeyOnce (asked : List Asked) (numbers : List ℕ) : Type 0 where
  pub differ : IsDistinct nat_eq (keys_of_numbers asked numbers)
  pub same : keys_set (keys_of_numbers asked numbers) ≡ keys_set (keys_asked asked)
