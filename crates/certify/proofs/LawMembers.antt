-- What a call leaves of the members, key by key.
use Rattle.std.proofs.Common.{◌≡◌, ℕ, ◌==◌, Bool, true, false, cond, not, ◌&&◌, ◌||◌, refl, ap, ◌∙◌, arith}
use Rattle.std.proofs.lemmas.Bool.Decides.{nat_tests}
use Rattle.set_model.specs.Call.{members_after_call}
use Rattle.set_model.specs.declared.call.Call.TheVariants.{Insert, Remove, Contains}

turned : (key other : ℕ) → (key == other) ≡ (other == key)
turned key other = grind (arith, nat_tests)

or_by : (test present : Bool) → cond test true present ≡ (test || present)
or_by true present = refl
or_by false present = refl

and_by : (test present : Bool) → cond test false present ≡ (not test && present)
and_by true present = refl
and_by false present = refl

-- an insert adds its key
pub after_insert : (old new : ℕ → Bool) (key : ℕ) → ((q : ℕ) → new q ≡ cond (key == q) true (old q))
    → (other : ℕ) → new other ≡ members_after_call Insert key old other
unfolding members_after_call
after_insert old new key updates other =
    updates other ∙ or_by (key == other) (old other) ∙ ap (λ test. test || old other) (turned key other)

-- a remove takes its key away
pub after_remove : (old new : ℕ → Bool) (key : ℕ) → ((q : ℕ) → new q ≡ cond (key == q) false (old q))
    → (other : ℕ) → new other ≡ members_after_call Remove key old other
unfolding members_after_call
after_remove old new key updates other =
    updates other ∙ and_by (key == other) (old other) ∙ ap (λ test. not test && old other) (turned key other)

-- a contains changes nothing
pub after_contains : (old : ℕ → Bool) (key other : ℕ) → old other ≡ members_after_call Contains key old other
unfolding members_after_call
after_contains old key other = refl
