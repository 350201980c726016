-- Histories: the set after one, and whether each answer in it is that of a plain set at its place.
use Rattle.std.specs.Prelude.{◌≡◌, ℕ, Bool, false, List, [], ◌∷◌, ◌++◌}
use Rattle.std.specs.Ordering.{nat_cmp}
use Rattle.std.specs.FinSet.{FinSet, contains}
use Rattle.set_model.specs.Call.{answer_where, answer_of, set_after_call, members_after_call}
use Rattle.set_model.specs.declared.call.Call.TheVariants.{Insert}
use Rattle.set_model.specs.declared.entry.Entry.{Entry}

-- the set that begins with the keys and to which the entries' calls are applied in order
abbrev pub set_after : FinSet nat_cmp → List Entry → FinSet nat_cmp
set_after keys [] = keys
set_after keys (entry ∷ rest) = set_after (set_after_call entry.call entry.key keys) rest

-- the same of a test on keys: which keys are members after the history
abbrev pub members_after : (ℕ → Bool) → List Entry → ℕ → Bool
members_after members [] = members
members_after members (entry ∷ rest) =
    members_after (members_after_call entry.call entry.key members) rest

-- each entry's answer is that of a plain set at its place, from the members of a test
abbrev pub IsLegal : (ℕ → Bool) → List Entry → Type 0
IsLegal members [] = Unit {0}
IsLegal members (entry ∷ rest) =
    (entry.answer ≡ answer_where entry.call (members entry.key))
    × IsLegal (members_after_call entry.call entry.key members) rest

-- the same from a finite set
abbrev pub IsLegalFrom : FinSet nat_cmp → List Entry → Type 0
IsLegalFrom keys [] = Unit {0}
IsLegalFrom keys (entry ∷ rest) =
    (entry.answer ≡ answer_of entry.call entry.key keys)
    × IsLegalFrom (set_after_call entry.call entry.key keys) rest

-- the calls of the history were made up to an insert of an absent key
pub record StopsAtInsert (old new : FinSet nat_cmp) (history : List Entry) : Type 0 where
  pub front : List Entry
  pub entry : Entry
  pub rest : List Entry
  pub cut : history ≡ front ++ entry ∷ rest
  pub after : new ≡ set_after old front
  pub insert : entry.call ≡ Insert
  pub absent : contains new entry.key ≡ false
