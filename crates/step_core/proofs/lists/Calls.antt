-- A rising list of keys under a call: it rises, has the members that the call leaves, and is no longer than a list
-- that it lies in.
use Rattle.std.proofs.Common.{◌≡◌, ℕ, ◌<◌, ◌≤◌, Bool, true, false, cond, not, ◌&&◌, ◌||◌, nat_eq, List, [], ◌∷◌, length, refl, sym, ap, ◌∙◌, arith, inl, inr}
use Rattle.std.specs.List.{filter}
use Rattle.std.specs.List.Sorted.{IsStrictlyIncreasing}
use Rattle.std.specs.Cmp.{nat_cmp_total}
use Rattle.std.specs.FinSet as set
use Rattle.std.proofs.lemmas.Bool.{cases_Bool}
use Rattle.std.proofs.lemmas.Bool.Decides.{nat_tests}
use Rattle.set_model.specs.Call.{members_after_call, set_after_call}
use Rattle.set_model.specs.Keys.{keys_set, is_in}
use Rattle.set_model.specs.declared.call.Call.{Call}
use Rattle.set_model.specs.declared.call.Call.TheVariants.{Insert, Remove, Contains}
use Rattle.set_model.proofs.LawMembers.{IsTestOf-after_call}
use Rattle.step_core.specs.Rising.{with_key, without_key, keys_after_call}
use Rattle.step_core.proofs.lists.Above.{Rises, rises, increasing, above_has, rises_tail}
use Rattle.step_core.proofs.lists.Rising.{is_in-with_key, is_in-without_key, rises-with_key, rises-without_key}

flip : (x y : ℕ) → nat_eq x y ≡ nat_eq y x
flip x y = grind (arith, nat_tests)

-- after a call the list rises
pub IsStrictlyIncreasing-after_call : (call : Call) (key : ℕ) (keys : List ℕ) → IsStrictlyIncreasing keys
    → IsStrictlyIncreasing (keys_after_call call key keys)
IsStrictlyIncreasing-after_call Insert key keys rising = increasing (with_key key keys) (rises-with_key key keys (rises keys rising))
IsStrictlyIncreasing-after_call Remove key keys rising = increasing (without_key key keys) (rises-without_key key keys (rises keys rising))
IsStrictlyIncreasing-after_call Contains key keys rising = rising

-- it has the members that the call leaves
pub is_in-after_call : (call : Call) (key : ℕ) (keys : List ℕ) (other : ℕ) → IsStrictlyIncreasing keys
    → is_in (keys_after_call call key keys) other ≡ members_after_call call key (is_in keys) other
unfolding members_after_call
is_in-after_call Insert key keys other rising = is_in-with_key key keys other ∙ ap (λ (b : Bool). b || is_in keys other) (flip key other)
is_in-after_call Remove key keys other rising =
    is_in-without_key key keys other rising ∙ ap (λ (b : Bool). not b && is_in keys other) (flip key other)
is_in-after_call Contains key keys other rising = refl

-- its set is that after the call
pub keys_set-after_call : (call : Call) (key : ℕ) (keys : List ℕ) → IsStrictlyIncreasing keys
    → keys_set (keys_after_call call key keys) ≡ set_after_call call key (keys_set keys)
keys_set-after_call call key keys rising =
    set.same_set nat_cmp_total set.nat_cmp-IsAntisymmetric (keys_set (keys_after_call call key keys)) (set_after_call call key
    (keys_set keys)) (λ q.
    set.contains-from_list_nat (keys_after_call call key keys) q
    ∙ is_in-after_call call key keys q rising
    ∙ sym (IsTestOf-after_call call key (is_in keys) (keys_set keys) (set.contains-from_list_nat keys) q))

-- the list without each of a number
abbrev others : ℕ → List ℕ → List ℕ
others key list = filter (λ y. not (nat_eq y key)) list

is_in-others : (key other : ℕ) (list : List ℕ) → nat_eq key other ≡ false → is_in list other ≡ true → is_in (others key list) other ≡ true
is_in-others key other [] differs here = here
is_in-others key other (y ∷ list) differs here =
    elim (cases_Bool (nat_eq y key)) [
      | inl same ↦
          let gone : nat_eq y other ≡ false = grind (arith, nat_tests) in
          ap (λ (b : Bool). is_in (cond (not b) (y ∷ others key list) (others key list)) other) same
          ∙ is_in-others key other list differs (sym (ap (λ (b : Bool). b || is_in list other) gone) ∙ here)
      | inr kept ↦
          ap (λ (b : Bool). is_in (cond (not b) (y ∷ others key list) (others key list)) other) kept
          ∙ elim (cases_Bool (nat_eq y other)) [
            | inl first ↦ ap (λ (b : Bool). b || is_in (others key list) other) first
            | inr later ↦
                ap (λ (b : Bool). b || is_in (others key list) other) later
                ∙ is_in-others key other list differs (sym (ap (λ (b : Bool). b || is_in list other) later) ∙ here)
          ]
    ]

length-others : (key : ℕ) (list : List ℕ) → length (others key list) ≤ length list
length-others key [] = omega arith
length-others key (y ∷ list) =
    elim (cases_Bool (nat_eq y key)) [
      | inl same ↦ omega (
        arith,
        ap (λ (b : Bool). length (cond (not b) (y ∷ others key list)
            (others key list))) same,
        length-others key list,
      )
      | inr kept ↦ omega (
        arith,
        ap (λ (b : Bool). length (cond (not b) (y ∷ others key list)
            (others key list))) kept,
        length-others key list,
      )
    ]

length-others_less : (key : ℕ) (list : List ℕ) → is_in list key ≡ true → length (others key list) < length list
length-others_less key [] here = cc
length-others_less key (y ∷ list) here =
    elim (cases_Bool (nat_eq y key)) [
      | inl same ↦ omega (
        arith,
        ap (λ (b : Bool). length (cond (not b) (y ∷ others key list)
            (others key list))) same,
        length-others key list,
      )
      | inr kept ↦
          let rest = length-others_less key list (sym (ap (λ (b : Bool). b || is_in list key) kept) ∙ here) in
          omega (arith, ap (λ (b : Bool). length (cond (not b) (y ∷ others key list) (others key list))) kept, rest)
    ]

fits_in : (keys list : List ℕ) → Rises keys → ((key : ℕ) → is_in keys key ≡ true → is_in list key ≡ true) → length keys ≤ length list
fits_in [] list rising inside = omega arith
fits_in (x ∷ keys) list rising inside =
    let first : nat_eq x x ≡ true = grind (arith, nat_tests) in
    let shorter = length-others_less x list (inside x (ap (λ (b : Bool). b || is_in keys x) first)) in
    let rest = fits_in keys (others x list) (rises_tail x keys rising) (λ key here.
    let above = above_has x key keys rising here in
    let differs : nat_eq x key ≡ false = grind (arith, nat_tests) in
    is_in-others x key list differs (inside key (ap (λ (b : Bool). b || is_in keys key) differs ∙ here))) in
    omega (arith, rest, shorter)

-- a rising list whose keys are all in another list is no longer than that
pub length-inside : (keys list : List ℕ) → IsStrictlyIncreasing keys → ((key : ℕ) → is_in keys key ≡ true → is_in list key ≡ true)
    → length keys ≤ length list
length-inside keys list rising inside = fits_in keys list (rises keys rising) inside
