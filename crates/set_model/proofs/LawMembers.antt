-- The members under one entry: its call does to its key what it says, and every other key stays.
use Rattle.std.proofs.Common.{◌≡◌, ◌≢◌, ℕ, ◌==◌, Bool, true, false, not, ◌&&◌, ◌||◌, refl, ap, ◌∙◌, arith}
use Rattle.std.specs.Ordering.{nat_cmp}
use Rattle.std.specs.Cmp.{nat_cmp_total, unsigned_tied}
use Rattle.std.specs.FinSet as set
use Rattle.std.proofs.lemmas.Bool.Decides.{nat_tests}
use Rattle.set_model.specs.Call.{set_after_call, members_after_call}
use Rattle.set_model.specs.Keys.{IsTestOf}
use Rattle.set_model.specs.declared.call.Call.{Call}
use Rattle.set_model.specs.declared.call.Call.TheVariants.{Insert, Remove, Contains}

equal_itself : (key : ℕ) → (key == key) ≡ true
equal_itself key = grind (arith, nat_tests)

differs : (other key : ℕ) → other ≢ key → (other == key) ≡ false
differs other key apart = grind (arith, nat_tests)

-- an insert adds its key
pub members_after_call-Insert : (key : ℕ) (members : ℕ → Bool) → members_after_call Insert key members key ≡ true
unfolding members_after_call
members_after_call-Insert key members = ap (λ equal. equal || members key) (equal_itself key)

-- a remove takes its key away
pub members_after_call-Remove : (key : ℕ) (members : ℕ → Bool) → members_after_call Remove key members key ≡ false
unfolding members_after_call
members_after_call-Remove key members = ap (λ equal. not equal && members key) (equal_itself key)

-- a contains changes nothing
pub members_after_call-Contains : (key : ℕ) (members : ℕ → Bool) (other : ℕ)
    → members_after_call Contains key members other ≡ members other
unfolding members_after_call
members_after_call-Contains key members other = refl

-- a key other than the entry's stays
pub members_after_call-other : (call : Call) (key : ℕ) (members : ℕ → Bool) (other : ℕ) → other ≢ key
    → members_after_call call key members other ≡ members other
unfolding members_after_call
members_after_call-other Insert key members other apart = ap (λ equal. equal || members other) (differs other key apart)
members_after_call-other Remove key members other apart = ap (λ equal. not equal && members other) (differs other key apart)
members_after_call-other Contains key members other apart = refl

-- a test of a set is after a call a test of the set after it
pub IsTestOf-after_call : (call : Call) (key : ℕ) (members : ℕ → Bool) (keys : set.FinSet nat_cmp) → IsTestOf members keys
    → IsTestOf (members_after_call call key members) (set_after_call call key keys)
unfolding members_after_call
IsTestOf-after_call Insert key members keys test other =
    set.contains-insert nat_cmp_total keys key other
    ∙ ap (λ equal. equal || set.contains keys other) (unsigned_tied other key)
    ∙ ap (λ here. other == key || here) (test other)
IsTestOf-after_call Remove key members keys test other =
    set.contains-remove nat_cmp_total keys key other
    ∙ ap (λ equal. not equal && set.contains keys other) (unsigned_tied other key)
    ∙ ap (λ here. not (other == key) && here) (test other)
IsTestOf-after_call Contains key members keys test other = test other
