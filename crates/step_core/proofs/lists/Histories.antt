-- A rising list of keys under a history: it rises, has the members that the history leaves, and so has the part of one bucket.
use Rattle.std.proofs.Common.{◌≡◌, ℕ, Bool, true, false, cond, ◌||◌, nat_eq, List, [], ◌∷◌, ◌++◌, refl, sym, ap, ◌∙◌, subst, All, inl, inr}
use native.Mathlib.Decide.{ℕ_discrete}
use Rattle.std.specs.Cmp.{nat_cmp_total}
use Rattle.std.specs.FinSet as set
use Rattle.std.specs.List.Sorted.{IsStrictlyIncreasing}
use Rattle.std.proofs.lemmas.Bool.{cases_Bool}
use Rattle.std.proofs.lemmas.Bool.Decides.{Decides-eqb}
use Rattle.std.proofs.lemmas.List.Elements.{All-head, All-tail}
use Rattle.std.proofs.lemmas.List.Kept.{IsStrictlyIncreasing-filter}
use Rattle.set_model.specs.Call.{members_after_call}
use Rattle.set_model.specs.History.{members_after}
use Rattle.set_model.specs.Keys.{is_in, keys_set}
use Rattle.set_model.specs.declared.call.Call.{Call}
use Rattle.set_model.specs.declared.call.Call.TheVariants.{Insert, Remove, Contains}
use Rattle.set_model.specs.declared.entry.Entry.{Entry}
use Rattle.set_model.proofs.LawRising.{rising_list_is_one}
use Rattle.step_core.specs.Buckets.{class_keys, key_bucket}
use Rattle.step_core.specs.Content.{InClass}
use Rattle.step_core.specs.Rising.{keys_after, keys_after_call}
use Rattle.step_core.proofs.lists.Calls.{IsStrictlyIncreasing-after_call, is_in-after_call}

-- two tests that agree do so after a call
members_after_call-same : (call : Call) (key : ℕ) (one other : ℕ → Bool) → ((k : ℕ) → one k ≡ other k) → (k : ℕ)
    → members_after_call call key one k ≡ members_after_call call key other k
unfolding members_after_call
members_after_call-same Insert key one other same k = rw (same k) refl
members_after_call-same Remove key one other same k = rw (same k) refl
members_after_call-same Contains key one other same k = same k

-- and after a history
pub members_after-same : (entries : List Entry) (one other : ℕ → Bool) → ((k : ℕ) → one k ≡ other k) → (k : ℕ)
    → members_after one entries k ≡ members_after other entries k
members_after-same [] one other same k = same k
members_after-same (entry ∷ entries) one other same k =
    members_after-same entries (members_after_call entry.call entry.key one) (members_after_call entry.call entry.key other)
    (members_after_call-same entry.call entry.key one other same) k

-- after a history the list rises
pub IsStrictlyIncreasing-after : (keys : List ℕ) (entries : List Entry) → IsStrictlyIncreasing keys
    → IsStrictlyIncreasing (keys_after keys entries)
IsStrictlyIncreasing-after keys [] rising = rising
IsStrictlyIncreasing-after keys (entry ∷ entries) rising =
    IsStrictlyIncreasing-after (keys_after_call entry.call entry.key keys) entries
    (IsStrictlyIncreasing-after_call entry.call entry.key keys rising)

-- it has the members that the history leaves
pub is_in-after : (keys : List ℕ) (entries : List Entry) → IsStrictlyIncreasing keys → (key : ℕ)
    → is_in (keys_after keys entries) key ≡ members_after (is_in keys) entries key
is_in-after keys [] rising key = refl
is_in-after keys (entry ∷ entries) rising key =
    is_in-after (keys_after_call entry.call entry.key keys) entries (IsStrictlyIncreasing-after_call entry.call entry.key keys rising) key
    ∙ members_after-same entries (is_in (keys_after_call entry.call entry.key keys)) (members_after_call entry.call entry.key (is_in keys))
    (λ k. is_in-after_call entry.call entry.key keys k rising) key

-- one entry more makes its call
pub keys_after-push : (keys : List ℕ) (entries : List Entry) (entry : Entry)
    → keys_after keys (entries ++ entry ∷ []) ≡ keys_after_call entry.call entry.key (keys_after keys entries)
keys_after-push keys [] entry = refl
keys_after-push keys (first ∷ entries) entry = keys_after-push (keys_after_call first.call first.key keys) entries entry

-- the part of a bucket rises,
pub class_keys-rising : (exponent bucket : ℕ) (keys : List ℕ) → IsStrictlyIncreasing keys
    → IsStrictlyIncreasing (class_keys exponent bucket keys)
class_keys-rising exponent bucket keys rising =
    IsStrictlyIncreasing-filter (λ key. nat_eq (key_bucket exponent key) bucket) keys rising

-- has a key of the bucket where the list has it,
pub class_keys-in : (exponent bucket key : ℕ) (keys : List ℕ) → InClass exponent bucket key
    → is_in (class_keys exponent bucket keys) key ≡ is_in keys key
class_keys-in exponent bucket key [] class = refl
class_keys-in exponent bucket key (first ∷ keys) class = elim (cases_Bool (nat_eq (key_bucket exponent first) bucket)) [
  | inl kept ↦
      ap (λ (b : Bool). is_in (cond b (first ∷ class_keys exponent bucket keys) (class_keys exponent bucket keys)) key) kept
      ∙ ap (λ (b : Bool). nat_eq first key || b) (class_keys-in exponent bucket key keys class)
  | inr gone ↦
      let apart : nat_eq first key ≡ false = elim (cases_Bool (nat_eq first key)) [
        | inl same ↦
            let equal : first ≡ key = (Decides-eqb first key).0 same in
            let test : nat_eq (key_bucket exponent first) bucket ≡ true =
            (Decides-eqb (key_bucket exponent first) bucket).1 (ap (key_bucket exponent) equal ∙ class) in
            cc
        | inr other ↦ other
      ] in
      ap (λ (b : Bool). is_in (cond b (first ∷ class_keys exponent bucket keys) (class_keys exponent bucket keys)) key) gone
      ∙ class_keys-in exponent bucket key keys class
      ∙ sym (ap (λ (b : Bool). b || is_in keys key) apart)
]

-- and no key of another bucket
pub class_keys-out : (exponent bucket key : ℕ) (keys : List ℕ) → (InClass exponent bucket key → ⊥)
    → is_in (class_keys exponent bucket keys) key ≡ false
class_keys-out exponent bucket key [] other = refl
class_keys-out exponent bucket key (first ∷ keys) other = elim (cases_Bool (nat_eq (key_bucket exponent first) bucket)) [
  | inl kept ↦
      let apart : nat_eq first key ≡ false = elim (cases_Bool (nat_eq first key)) [
        | inl same ↦
            let equal : first ≡ key = (Decides-eqb first key).0 same in
            absurd (other (sym (ap (key_bucket exponent) equal) ∙ (Decides-eqb (key_bucket exponent first) bucket).0 kept))
        | inr differs ↦ differs
      ] in
      ap (λ (b : Bool). is_in (cond b (first ∷ class_keys exponent bucket keys) (class_keys exponent bucket keys)) key) kept
      ∙ ap (λ (b : Bool). b || is_in (class_keys exponent bucket keys) key) apart
      ∙ class_keys-out exponent bucket key keys other
  | inr gone ↦
      ap (λ (b : Bool). is_in (cond b (first ∷ class_keys exponent bucket keys) (class_keys exponent bucket keys)) key) gone
      ∙ class_keys-out exponent bucket key keys other
]

-- two rising lists with the same members are one
pub same_members_are_one : (one other : List ℕ) → IsStrictlyIncreasing one → IsStrictlyIncreasing other
    → ((key : ℕ) → is_in one key ≡ is_in other key) → one ≡ other
same_members_are_one one other rises too same =
    rising_list_is_one one other rises too
    (set.same_set nat_cmp_total set.nat_cmp-IsAntisymmetric (keys_set one) (keys_set other) (λ key.
    set.contains-from_list_nat one key ∙ same key ∙ sym (set.contains-from_list_nat other key)))

-- what a list has is a key of the class where all its keys are
pub class_has : (exponent bucket : ℕ) (list : List ℕ) (key : ℕ) → All (InClass exponent bucket) list → is_in list key ≡ true
    → InClass exponent bucket key
class_has exponent bucket [] key all here = absurd (cc)
class_has exponent bucket (first ∷ list) key all here = elim (cases_Bool (nat_eq first key)) [
  | inl same ↦ subst (InClass exponent bucket) ((Decides-eqb first key).0 same) (All-head (InClass exponent bucket) first list all)
  | inr other ↦ class_has exponent bucket list key (All-tail (InClass exponent bucket) first list all)
      (sym (ap (λ (b : Bool). b || is_in list key) other) ∙ here)
]

-- so it lacks each key of another class
pub class_lacks : (exponent bucket : ℕ) (list : List ℕ) (key : ℕ) → All (InClass exponent bucket) list → (InClass exponent bucket key → ⊥)
    → is_in list key ≡ false
class_lacks exponent bucket list key all other = elim (cases_Bool (is_in list key)) [
  | inl here ↦ absurd (other (class_has exponent bucket list key all here))
  | inr absent ↦ absent
]

-- a rising list of a class that has of it what another rising list has is that list's part of the class
pub class_only : (exponent bucket : ℕ) (list keys : List ℕ) → IsStrictlyIncreasing list → IsStrictlyIncreasing keys
    → All (InClass exponent bucket) list → ((key : ℕ) → InClass exponent bucket key → is_in list key ≡ is_in keys key)
    → list ≡ class_keys exponent bucket keys
class_only exponent bucket list keys rises rising all same =
    same_members_are_one list (class_keys exponent bucket keys) rises (class_keys-rising exponent bucket keys rising) (λ key.
    elim (ℕ_discrete (key_bucket exponent key) bucket) [
      | yes class ↦ same key class ∙ sym (class_keys-in exponent bucket key keys class)
      | no other ↦ class_lacks exponent bucket list key all other ∙ sym (class_keys-out exponent bucket key keys other)
    ])
