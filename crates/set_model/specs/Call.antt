-- What a plain set answers to a call, and what it leaves: as a finite set, and as a test on keys.
use Rattle.std.specs.Prelude.{ℕ, Bool, ◌==◌, not, ◌&&◌, ◌||◌}
use Rattle.std.specs.Ordering.{nat_cmp}
use Rattle.std.specs.FinSet.{FinSet, contains, insert, remove}
use Rattle.set_model.specs.declared.call.Call.{Call}
use Rattle.set_model.specs.declared.call.Call.TheVariants.{Insert, Remove, Contains}

-- the answer where its key is present or not: an insert is true where it was absent, the two others
-- where it was present
abbrev pub answer_where : Call → Bool → Bool
answer_where Insert present = not present
answer_where Remove present = present
answer_where Contains present = present

-- the answer of a finite set
abbrev pub answer_of : Call → ℕ → FinSet nat_cmp → Bool
answer_of call key keys = answer_where call (contains keys key)

-- the set after it: an insert adds the key, a remove takes it away, a contains changes nothing
abbrev pub set_after_call : Call → ℕ → FinSet nat_cmp → FinSet nat_cmp
set_after_call Insert key keys = insert keys key
set_after_call Remove key keys = remove keys key
set_after_call Contains key keys = keys

-- the same of a test on keys: which keys are members after it
unfoldable pub members_after_call : Call → ℕ → (ℕ → Bool) → ℕ → Bool
members_after_call Insert key members other = other == key || members other
members_after_call Remove key members other = not (other == key) && members other
members_after_call Contains key members other = members other
