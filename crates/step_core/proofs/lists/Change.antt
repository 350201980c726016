-- The one change between two rising lists: it is read off the lists that a changing call leaves, and what is read off
-- two lists is such a call.
use Rattle.std.proofs.Common.{◌≡◌, ℕ, ◌<◌, Bool, true, false, cond, ◌||◌, nat_eq, List, [], ◌∷◌, length, refl, sym, ap, ◌∙◌, subst, arith, ◌⊎◌, inl, inr, Option, Some, None}
use Rattle.std.specs.List.Sorted.{IsStrictlyIncreasing}
use Rattle.std.proofs.lemmas.Bool.{cases_Bool, cases_order}
use Rattle.std.proofs.lemmas.Bool.Decides.{nat_tests, Decides-eqb}
use Rattle.std.proofs.lemmas.Slice.Eq.{bytes_eq-Decides}
use Rattle.set_model.specs.Keys.{is_in}
use Rattle.set_model.specs.declared.call.Call.{Call}
use Rattle.set_model.specs.declared.call.Call.TheVariants.{Insert, Remove, Contains}
use Rattle.step_core.specs.Rising.{Change, ChangesKeys, IsChange, change_of, keys_after_call, with_key, without_key, is_same}
use Rattle.step_core.proofs.lists.Above.{RisesAbove, Rises, rises, above_has, rises_tail, rises_lacks}
use Rattle.step_core.proofs.lists.Rising.{with_key-none, with_key-less, with_key-more, without_key-less, without_key-same, is_in-with_key}
use Rattle.step_core.proofs.lists.Places.{is_first, not_first}

-- the change that a call makes
abbrev change : Call → ℕ → Change
change call key = record { call = call; key = key }

abbrev if_else : Bool → Option Change → Option Change → Option Change
if_else b yes_then otherwise = cond b yes_then otherwise

same_list : (list : List ℕ) → is_same list list ≡ true
same_list list = (bytes_eq-Decides list list).1 refl

longer_list : (x : ℕ) (xs ys : List ℕ) → length ys < length (x ∷ xs) → is_same (x ∷ xs) ys ≡ false
longer_list x xs ys short =
    elim (cases_Bool (is_same (x ∷ xs) ys)) [
      | inl same ↦ let long = ap length ((bytes_eq-Decides (x ∷ xs) ys).0 same) in absurd (omega arith)
      | inr differs ↦ differs
    ]

-- one key more behind a common one
change_of-behind : (x : ℕ) (old new : List ℕ) → change_of (x ∷ old) (x ∷ new) ≡ change_of old new
unfolding change_of
change_of-behind x old new =
    let equal : nat_eq x x ≡ true = grind (arith, nat_tests) in
    ap (λ (b : Bool). cond b (change_of old new)
    (cond (is_same (x ∷ old) new) (Some (change Insert x)) (cond (is_same old (x ∷ new)) (Some (change Remove x)) None))) equal

change_of-more : (x key : ℕ) (old : List ℕ) → key < x → change_of (x ∷ old) (key ∷ x ∷ old) ≡ Some (change Insert key)
unfolding change_of
change_of-more x key old lt =
    let differs : nat_eq x key ≡ false = grind (arith, nat_tests) in
    (λ i. cond (differs i) (change_of old (x ∷ old))
    (cond (same_list (x ∷ old) i) (Some (change Insert key)) (cond (is_same old (key ∷ x ∷ old)) (Some (change Remove x)) None)))

change_of-less : (x : ℕ) (old : List ℕ) → RisesAbove x old → change_of (x ∷ old) old ≡ Some (change Remove x)
unfolding change_of
change_of-less x [] rising = refl
change_of-less x (y ∷ old) rising =
    let lt = rising.0 in
    let differs : nat_eq x y ≡ false = grind (arith, nat_tests) in
    (λ i. cond (differs i) (change_of (y ∷ old) old)
    (cond (longer_list x (y ∷ old) old (omega arith) i) (Some (change Insert y)) (cond (same_list (y ∷ old) i) (Some
    (change Remove x)) None)))

change_of-with : (key : ℕ) (keys : List ℕ) → Rises keys → is_in keys key ≡ false
    → change_of keys (with_key key keys) ≡ Some (change Insert key)
unfolding change_of
change_of-with key [] rising absent = ap (change_of []) (with_key-none key)
change_of-with key (x ∷ keys) rising absent =
    elim (cases_order x key) [
      | inl same ↦ let here = is_first x key keys same in absurd (cc (here, absent))
      | inr (inl less) ↦
          let other : nat_eq x key ≡ false = grind (arith, nat_tests) in
          ap (change_of (x ∷ keys)) (with_key-less x key keys less)
          ∙ change_of-behind x keys (with_key key keys)
          ∙ change_of-with key keys (rises_tail x keys rising) (sym (ap (λ (b : Bool). b || is_in keys key) other) ∙ absent)
      | inr (inr more) ↦ ap (change_of (x ∷ keys)) (with_key-more x key keys more) ∙ change_of-more x key keys more
    ]

change_of-without : (key : ℕ) (keys : List ℕ) → Rises keys → is_in keys key ≡ true
    → change_of keys (without_key key keys) ≡ Some (change Remove key)
change_of-without key [] rising here = cc
change_of-without key (x ∷ keys) rising here =
    elim (cases_order x key) [
      | inl same ↦
          ap (change_of (x ∷ keys)) (without_key-same x key keys same)
          ∙ change_of-less x keys rising
          ∙ ap (λ (k : ℕ). Some (change Remove k)) same
      | inr (inl less) ↦
          ap (change_of (x ∷ keys)) (without_key-less x key keys less)
          ∙ change_of-behind x keys (without_key key keys)
          ∙ change_of-without key keys (rises_tail x keys rising) (not_first x key keys (λ e. absurd (omega arith)) here)
      | inr (inr more) ↦ let gone = rises_lacks x key keys rising more in absurd (cc (gone, here))
    ]

-- a call that changes the keys is read off the list that it leaves
pub change_of-after_call : (call : Call) (key : ℕ) (keys : List ℕ) → IsStrictlyIncreasing keys → ChangesKeys call key keys
    → change_of keys (keys_after_call call key keys) ≡ Some (record { call = call; key = key })
change_of-after_call Insert key keys rising changes = change_of-with key keys (rises keys rising) changes
change_of-after_call Remove key keys rising changes = change_of-without key keys (rises keys rising) changes
change_of-after_call Contains key keys rising changes = absurd changes

-- a change behind a common first key
behind : (x : ℕ) (old new : List ℕ) (call : Call) (key : ℕ) → RisesAbove x old → RisesAbove x new → IsChange old new call key
    → IsChange (x ∷ old) (x ∷ new) call key
behind x old new Insert key old_rises new_rises is =
    let self : nat_eq key key ≡ true = grind (arith, nat_tests) in
    let there : is_in new key ≡ true = ap (λ (list : List ℕ). is_in list key) is.after ∙ is_in-with_key key old key
    ∙ ap (λ (b : Bool). b || is_in old key) self in
    let above = above_has x key new new_rises there in
    let differs : nat_eq x key ≡ false = grind (arith, nat_tests) in
    record {
      changes = ap (λ (b : Bool). b || is_in old key) differs ∙ is.changes;
      after = ap (λ (list : List ℕ). x ∷ list) is.after ∙ sym (with_key-less x key old above);
    }
behind x old new Remove key old_rises new_rises is =
    let above = above_has x key old old_rises is.changes in
    let differs : nat_eq x key ≡ false = grind (arith, nat_tests) in
    record {
      changes = ap (λ (b : Bool). b || is_in old key) differs ∙ is.changes;
      after = ap (λ (list : List ℕ). x ∷ list) is.after ∙ sym (without_key-less x key old above);
    }
behind x old new Contains key old_rises new_rises is = absurd is.changes

-- of two alternatives that give a change, the first where its test is true, else the second
picked : (b : Bool) (first second : Option Change) (c : Change) → cond b first second ≡ Some c
    → ((b ≡ true) × (first ≡ Some c)) ⊎ ((b ≡ false) × (second ≡ Some c))
picked true first second c e = inl (refl, e)
picked false first second c e = inr (refl, e)

-- what is read off is such a change
only : (old new : List ℕ) (c : Change) → Rises old → Rises new → change_of old new ≡ Some c → IsChange old new c.call c.key
unfolding change_of
only [] [] c old_rises new_rises e = cc
only [] (y ∷ new) c old_rises new_rises e =
    elim (picked (is_same [] new) (Some (change Insert y)) None c e) [
      | inl one ↦
          let is : change Insert y ≡ c = cc in
          let none_behind = (bytes_eq-Decides [] new).0 one.0 in
          subst (λ (x : Change). IsChange [] (y ∷ new) x.call x.key) is
          (record { changes = refl; after = ap (λ (list : List ℕ). y ∷ list) (sym none_behind) ∙ sym (with_key-none y) })
      | inr other ↦ cc
    ]
only (x ∷ old) [] c old_rises new_rises e =
    elim (picked (is_same old []) (Some (change Remove x)) None c e) [
      | inl one ↦
          let is : change Remove x ≡ c = cc in
          let none_behind = (bytes_eq-Decides old []).0 one.0 in
          subst (λ (z : Change). IsChange (x ∷ old) [] z.call z.key) is
          (record { changes = is_first x x old refl; after = sym none_behind ∙ sym (without_key-same x x old refl) })
      | inr other ↦ cc
    ]
only (x ∷ old) (y ∷ new) c old_rises new_rises e =
    elim (picked (nat_eq x y) (change_of old new)
    (cond (is_same (x ∷ old) new) (Some (change Insert y)) (cond (is_same old (y ∷ new)) (Some (change Remove x)) None)) c e) [
      | inl common ↦
          let same : x ≡ y = (Decides-eqb x y).0 common.0 in
          let rest = only old new c (rises_tail x old old_rises) (rises_tail y new new_rises) common.1 in
          subst (λ (z : ℕ). IsChange (x ∷ old) (z ∷ new) c.call c.key) same
          (behind x old new c.call c.key old_rises (subst (λ (z : ℕ). RisesAbove z new) (sym same) new_rises) rest)
      | inr apart ↦
          elim (picked (is_same (x ∷ old) new) (Some (change Insert y)) (cond (is_same old (y ∷ new)) (Some
          (change Remove x)) None) c apart.1) [
            | inl more ↦
                let is : change Insert y ≡ c = cc in
                let rest : x ∷ old ≡ new = (bytes_eq-Decides (x ∷ old) new).0 more.0 in
                let below = (subst (λ (list : List ℕ). RisesAbove y list) (sym rest) new_rises).0 in
                subst (λ (z : Change). IsChange (x ∷ old) (y ∷ new) z.call z.key) is
                (record {
                  changes = rises_lacks x y old old_rises below;
                  after = ap (λ (list : List ℕ). y ∷ list) (sym rest) ∙ sym (with_key-more x y old below);
                })
            | inr other ↦
                elim (picked (is_same old (y ∷ new)) (Some (change Remove x)) None c other.1) [
                  | inl less ↦
                      let is : change Remove x ≡ c = cc in
                      let rest : old ≡ y ∷ new = (bytes_eq-Decides old (y ∷ new)).0 less.0 in
                      subst (λ (z : Change). IsChange (x ∷ old) (y ∷ new) z.call z.key) is
                      (record { changes = is_first x x old refl; after = sym rest ∙ sym (without_key-same x x old refl) })
                  | inr none_fits ↦ cc
                ]
          ]
    ]

-- the change that is read off two rising lists makes the new one of the old
pub change_of-only : (old new : List ℕ) (c : Change) → IsStrictlyIncreasing old → IsStrictlyIncreasing new → change_of old new ≡ Some c
    → IsChange old new c.call c.key
change_of-only old new c old_rises new_rises e = only old new c (rises old old_rises) (rises new new_rises) e
