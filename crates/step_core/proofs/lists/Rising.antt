-- A rising list with and without a key: its members, its parts, its length, and that it rises.
use Rattle.std.proofs.Common.{◌≡◌, ℕ, suc, ◌+◌, ◌<◌, ◌≤◌, Bool, true, false, cond, not, ◌&&◌, ◌||◌, nat_eq, nat_lt, List, [], ◌∷◌, refl, sym, ap, ◌∙◌, subst, arith, inl, inr}
use Rattle.std.specs.List.Sorted.{IsStrictlyIncreasing}
use Rattle.std.proofs.lemmas.Bool.{cases_Bool, cases_order}
use Rattle.std.proofs.lemmas.Bool.Decides.{nat_tests, Decides-eqb}
use Rattle.set_model.specs.Keys.{is_in}
use Rattle.step_core.specs.Rising.{place_in, with_key, without_key}
use Rattle.step_core.proofs.lists.Above.{RisesAbove, Rises, rises, lower, above_lacks, rises_tail, rises_lacks}

-- the three cases of a key beside the first
less_test : (x key : ℕ) → x < key → nat_lt x key ≡ true
less_test x key lt = grind (arith, nat_tests)

same_tests : (x key : ℕ) → x ≡ key → (nat_lt x key ≡ false) × (nat_eq x key ≡ true)
same_tests x key e = (grind (arith, nat_tests), grind (arith, nat_tests))

more_tests : (x key : ℕ) → key < x → (nat_lt x key ≡ false) × (nat_eq x key ≡ false)
more_tests x key lt = (grind (arith, nat_tests), grind (arith, nat_tests))

module _ (x key : ℕ) (keys : List ℕ) where
  abbrev Pick : List ℕ → List ℕ → List ℕ → Bool → Bool → List ℕ
  Pick below here above less equal = cond less below (cond equal here above)

  pub with_key-less : x < key → with_key key (x ∷ keys) ≡ x ∷ with_key key keys
  unfolding with_key
  with_key-less lt = ap (λ (b : Bool). Pick (x ∷ with_key key keys) (x ∷ keys) (key ∷ x ∷ keys) b (nat_eq x key)) (less_test x key lt)

  pub with_key-same : x ≡ key → with_key key (x ∷ keys) ≡ x ∷ keys
  unfolding with_key
  with_key-same e = λ i. Pick (x ∷ with_key key keys) (x ∷ keys) (key ∷ x ∷ keys) ((same_tests x key e).0 i) ((same_tests x key e).1 i)

  pub with_key-more : key < x → with_key key (x ∷ keys) ≡ key ∷ x ∷ keys
  unfolding with_key
  with_key-more lt = λ i. Pick (x ∷ with_key key keys) (x ∷ keys) (key ∷ x ∷ keys) ((more_tests x key lt).0 i) ((more_tests x key lt).1 i)

  pub without_key-less : x < key → without_key key (x ∷ keys) ≡ x ∷ without_key key keys
  unfolding without_key
  without_key-less lt = ap (λ (b : Bool). Pick (x ∷ without_key key keys) keys (x ∷ keys) b (nat_eq x key)) (less_test x key lt)

  pub without_key-same : x ≡ key → without_key key (x ∷ keys) ≡ keys
  unfolding without_key
  without_key-same e = λ i. Pick (x ∷ without_key key keys) keys (x ∷ keys) ((same_tests x key e).0 i) ((same_tests x key e).1 i)

  pub without_key-more : key < x → without_key key (x ∷ keys) ≡ x ∷ keys
  unfolding without_key
  without_key-more lt = λ i. Pick (x ∷ without_key key keys) keys (x ∷ keys) ((more_tests x key lt).0 i) ((more_tests x key lt).1 i)

  pub place_in-less : x < key → place_in (x ∷ keys) key ≡ suc (place_in keys key)
  place_in-less lt = ap (λ (b : Bool). cond b (1 + place_in keys key) 0) (less_test x key lt) ∙ omega arith

  pub place_in-not_less : key ≤ x → place_in (x ∷ keys) key ≡ 0
  place_in-not_less le = ap (λ (b : Bool). cond b (1 + place_in keys key) 0) (let test : nat_lt x key ≡ false =
      grind (arith, nat_tests) in test)

or_turned : (a b c : Bool) → (a || (b || c)) ≡ (b || (a || c))
or_turned true true c = refl
or_turned true false c = refl
or_turned false b c = refl

or_twice : (x key other : ℕ) (rest : Bool) → x ≡ key → (nat_eq x other || rest) ≡ (nat_eq key other || (nat_eq x other || rest))
or_twice x key other rest same =
    elim (cases_Bool (nat_eq x other)) [
      | inl here ↦
          let too : nat_eq key other ≡ true = grind (arith, nat_tests) in
          ap (λ (b : Bool). b || rest) here ∙ ap (λ (b : Bool). b || (nat_eq x other || rest)) (sym too)
      | inr gone ↦
          let too : nat_eq key other ≡ false = grind (arith, nat_tests) in
          ap (λ (b : Bool). b || (nat_eq x other || rest)) (sym too)
    ]

-- the list of no keys, with one
pub with_key-none : (key : ℕ) → with_key key [] ≡ key ∷ []
unfolding with_key
with_key-none key = refl

-- and without
pub without_key-none : (key : ℕ) → without_key key [] ≡ []
unfolding without_key
without_key-none key = refl

-- the list with a key has this key and the others
pub is_in-with_key : (key : ℕ) (keys : List ℕ) (other : ℕ) → is_in (with_key key keys) other ≡ (nat_eq key other || is_in keys other)
is_in-with_key key [] other = ap (λ (list : List ℕ). is_in list other) (with_key-none key)
is_in-with_key key (x ∷ keys) other =
    elim (cases_order x key) [
      | inl same ↦
          ap (λ (list : List ℕ). is_in list other) (with_key-same x key keys same) ∙ or_twice x key other (is_in keys other) same
      | inr (inl less) ↦
          ap (λ (list : List ℕ). is_in list other) (with_key-less x key keys less)
          ∙ ap (λ (b : Bool). nat_eq x other || b) (is_in-with_key key keys other)
          ∙ or_turned (nat_eq x other) (nat_eq key other) (is_in keys other)
      | inr (inr more) ↦ ap (λ (list : List ℕ). is_in list other) (with_key-more x key keys more)
    ]

-- in a list that lacks the key, the others are all that it has
lacking : (key other : ℕ) (keys : List ℕ) → is_in keys key ≡ false → is_in keys other ≡ (not (nat_eq key other) && is_in keys other)
lacking key other keys absent =
    elim (cases_Bool (nat_eq key other)) [
      | inl here ↦
          ap (is_in keys) (sym ((Decides-eqb key other).0 here)) ∙ absent ∙ sym (ap (λ (b : Bool). not b && is_in keys other) here)
      | inr differs ↦ sym (ap (λ (b : Bool). not b && is_in keys other) differs)
    ]

not_and_none : (b : Bool) → false ≡ (not b && false)
not_and_none true = refl
not_and_none false = refl

-- behind the key taken away
without_first : (x key other : ℕ) (keys : List ℕ) → x ≡ key → RisesAbove x keys
    → is_in keys other ≡ (not (nat_eq key other) && (nat_eq x other || is_in keys other))
without_first x key other keys same rising =
    elim (cases_Bool (nat_eq key other)) [
      | inl here ↦
          let low : other ≤ x = (let equal = (Decides-eqb key other).0 here in omega arith) in
          above_lacks x other keys rising low ∙ sym (ap (λ (b : Bool). not b && (nat_eq x other || is_in keys other)) here)
      | inr differs ↦
          let too : nat_eq x other ≡ false = grind (arith, nat_tests) in
          sym ((λ i. not (differs i) && (nat_eq x other || is_in keys other)) ∙ ap (λ (b : Bool). b || is_in keys other) too)
    ]

-- before it
without_rest : (x key other : ℕ) (rest : Bool) → x < key
    → (nat_eq x other || (not (nat_eq key other) && rest)) ≡ (not (nat_eq key other) && (nat_eq x other || rest))
without_rest x key other rest less =
    elim (cases_Bool (nat_eq key other)) [
      | inl here ↦
          let too : nat_eq x other ≡ false = (let equal = (Decides-eqb key other).0 here in grind (arith, nat_tests)) in
          (λ i. too i || (not (here i) && rest)) ∙ sym (ap (λ (b : Bool). not b && (nat_eq x other || rest)) here)
      | inr differs ↦ (λ i. nat_eq x other || (not (differs i) && rest))
          ∙ sym (ap (λ (b : Bool). not b && (nat_eq x other || rest)) differs)
    ]

without_has : (key : ℕ) (keys : List ℕ) (other : ℕ) → Rises keys
    → is_in (without_key key keys) other ≡ (not (nat_eq key other) && is_in keys other)
without_has key [] other rising = ap (λ (list : List ℕ). is_in list other) (without_key-none key) ∙ not_and_none (nat_eq key other)
without_has key (x ∷ keys) other rising =
    elim (cases_order x key) [
      | inl same ↦ ap (λ (list : List ℕ). is_in list other) (without_key-same x key keys same) ∙ without_first x key other keys same rising
      | inr (inl less) ↦
          ap (λ (list : List ℕ). is_in list other) (without_key-less x key keys less)
          ∙ ap (λ (b : Bool). nat_eq x other || b) (without_has key keys other (rises_tail x keys rising))
          ∙ without_rest x key other (is_in keys other) less
      | inr (inr more) ↦
          ap (λ (list : List ℕ). is_in list other) (without_key-more x key keys more)
          ∙ lacking key other (x ∷ keys) (rises_lacks x key keys rising more)
    ]

-- the rising list without a key has the others
pub is_in-without_key : (key : ℕ) (keys : List ℕ) (other : ℕ) → IsStrictlyIncreasing keys
    → is_in (without_key key keys) other ≡ (not (nat_eq key other) && is_in keys other)
is_in-without_key key keys other rising = without_has key keys other (rises keys rising)

with_above : (low key : ℕ) (keys : List ℕ) → low < key → RisesAbove low keys → RisesAbove low (with_key key keys)
with_above low key [] lt rising = subst (λ (list : List ℕ). RisesAbove low list) (sym (with_key-none key)) (lt, tt)
with_above low key (x ∷ keys) lt rising =
    elim (cases_order x key) [
      | inl same ↦ subst (λ (list : List ℕ). RisesAbove low list) (sym (with_key-same x key keys same)) rising
      | inr (inl less) ↦
          subst (λ (list : List ℕ). RisesAbove low list) (sym (with_key-less x key keys less))
          (rising.0, with_above x key keys less rising.1)
      | inr (inr more) ↦ subst (λ (list : List ℕ). RisesAbove low list) (sym (with_key-more x key keys more)) (lt, (more, rising.1))
    ]

-- the list with a key rises
pub rises-with_key : (key : ℕ) (keys : List ℕ) → Rises keys → Rises (with_key key keys)
rises-with_key key [] rising = subst Rises (sym (with_key-none key)) tt
rises-with_key key (x ∷ keys) rising =
    elim (cases_order x key) [
      | inl same ↦ subst Rises (sym (with_key-same x key keys same)) rising
      | inr (inl less) ↦ subst Rises (sym (with_key-less x key keys less)) (with_above x key keys less rising)
      | inr (inr more) ↦ subst Rises (sym (with_key-more x key keys more)) (more, rising)
    ]

without_above : (low key : ℕ) (keys : List ℕ) → RisesAbove low keys → RisesAbove low (without_key key keys)
without_above low key [] rising = subst (λ (list : List ℕ). RisesAbove low list) (sym (without_key-none key)) tt
without_above low key (x ∷ keys) rising =
    elim (cases_order x key) [
      | inl same ↦
          subst (λ (list : List ℕ). RisesAbove low list) (sym (without_key-same x key keys same)) (lower low x keys (omega
          (arith, rising.0)) rising.1)
      | inr (inl less) ↦
          subst (λ (list : List ℕ). RisesAbove low list) (sym (without_key-less x key keys less))
          (rising.0, without_above x key keys rising.1)
      | inr (inr more) ↦ subst (λ (list : List ℕ). RisesAbove low list) (sym (without_key-more x key keys more)) rising
    ]

-- so does the list without one
pub rises-without_key : (key : ℕ) (keys : List ℕ) → Rises keys → Rises (without_key key keys)
rises-without_key key [] rising = subst Rises (sym (without_key-none key)) tt
rises-without_key key (x ∷ keys) rising =
    elim (cases_order x key) [
      | inl same ↦ subst Rises (sym (without_key-same x key keys same)) (rises_tail x keys rising)
      | inr (inl less) ↦ subst Rises (sym (without_key-less x key keys less)) (without_above x key keys rising)
      | inr (inr more) ↦ subst Rises (sym (without_key-more x key keys more)) rising
    ]
