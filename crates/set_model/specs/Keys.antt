-- Keys as a finite set, as a test, and as a rising list.
use Rattle.std.specs.Prelude.{◌≡◌, ℕ, ◌<◌, ◌≤◌, nat_eq, Bool, List, length, slice_index}
use Rattle.std.specs.List.{list_any}
use Rattle.std.specs.Ordering.{nat_cmp}
use Rattle.std.specs.FinSet.{FinSet, contains, from_list}

-- the finite set of a list's numbers
abbrev pub keys_set : List ℕ → FinSet nat_cmp
keys_set keys = from_list keys

-- whether a number is one of the list's
abbrev pub is_in : List ℕ → ℕ → Bool
is_in keys key = list_any (λ y. nat_eq y key) keys

-- the test is true at the set's keys and nowhere else
abbrev pub IsTestOf : (ℕ → Bool) → FinSet nat_cmp → Type 0
IsTestOf members keys = (key : ℕ) → contains keys key ≡ members key

-- all keys before the place are below the key, and all from it on are above
pub record IsPlaceFor (key : ℕ) (keys : List ℕ) (place : ℕ) : Type 0 where
  pub within : place ≤ length keys
  pub before : (k : ℕ) → k < place → slice_index keys k < key
  pub behind : (k : ℕ) → place ≤ k → k < length keys → key < slice_index keys k
