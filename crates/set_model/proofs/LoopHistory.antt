-- Going through a history entry by entry: the set so far, one key so far, and whether the answers so far are right.
use Rattle.std.proofs.Common.{◌≡◌, ℕ, ◌+◌, ◌<◌, ◌≤◌, Bool, true, false, not, List, ◌++◌, ◌↔◌, length, get_or, take, drop, refl, sym, ap, ◌∙◌, subst, add-one, drop-cons}
use mathlib.Core.Bool.{beq}
use mathlib.Core.List.{IsPrefix}
use Rattle.std.specs.Ordering.{nat_cmp}
use Rattle.std.specs.FinSet as set
use Rattle.std.proofs.lemmas.List.{take_more, take_all, take-append-drop}
use Rattle.set_model.specs.Call.{answer_where, set_after_call, members_after_call}
use Rattle.set_model.specs.Keys.{IsTestOf}
use Rattle.set_model.specs.History.{set_after, members_after, IsLegal, IsLegalFrom, StopsAtInsert}
use Rattle.set_model.specs.declared.call.Call.TheVariants.{Insert}
use Rattle.set_model.specs.declared.entry.Entry.{Entry}
use Rattle.set_model.proofs.LawHistory.{set_after-push, members_after-push, IsLegal-push, IsLegal-prefix, sets_and_tests_agree}

same_answer : (told right : Bool) → not (beq told right) ≡ false → told ≡ right
same_answer true true equal = refl
same_answer true false equal = cc
same_answer false true equal = cc
same_answer false false equal = refl

other_answer : (told right : Bool) → not (beq told right) ≡ true → told ≡ right → ⊥
other_answer true true differ same = cc
other_answer true false differ same = cc
other_answer false true differ same = cc
other_answer false false differ same = cc

-- what the set and each test of it say of one history
module _ (keys : set.FinSet nat_cmp) (history : List Entry) where
  own_test : IsTestOf (members_after (set.contains keys) history) (set_after keys history)
      × (IsLegal (set.contains keys) history ↔ IsLegalFrom keys history)
  own_test = sets_and_tests_agree (set.contains keys) keys history (λ _. refl)

  -- what tells whether a key is held after it
  pub held_by_test : (told : Bool) (key : ℕ) → told ≡ set.contains (set_after keys history) key
      → (members : ℕ → Bool) → IsTestOf members keys → told ≡ members_after members history key
  held_by_test told key held members test = held ∙ (sets_and_tests_agree members keys history test).0 key

  -- what tells whether it is legal
  pub legal_by_test : (Told : Type 0) → (Told ↔ IsLegalFrom keys history)
      → (members : ℕ → Bool) → IsTestOf members keys → (Told ↔ IsLegal members history)
  legal_by_test Told legal members test =
      let agree = (sets_and_tests_agree members keys history test).1 in
      (λ told. agree.1 (legal.0 told), λ by_test. legal.1 (agree.0 by_test))

-- at the entry in this place
module _ (history : List Entry) (place : ℕ) (default : Entry) (within : place < length history) where
  abbrev entry : Entry
  entry = get_or history place default

  -- its call takes the set after the entries so far to the set after one more
  pub set_goes_on : (start now then : set.FinSet nat_cmp) → now ≡ set_after start (take place history)
      → then ≡ set_after_call entry.call entry.key now → then ≡ set_after start (take (place + 1) history)
  set_goes_on start now then so_far made =
      made
      ∙ ap (set_after_call entry.call entry.key) so_far
      ∙ sym (set_after-push start (take place history) entry)
      ∙ ap (set_after start) (sym (take_more history place default within))

  -- where its insert found no memory, the entries so far were made up to it
  pub set_stops : (start now then : set.FinSet nat_cmp) → now ≡ set_after start (take place history)
      → (entry.call ≡ Insert) × (set.contains now entry.key ≡ false) → then ≡ now → StopsAtInsert start then history
  set_stops start now then so_far wants same = record {
    front = take place history;
    entry = entry;
    rest = drop (place + 1) history;
    cut = sym (take-append-drop place history)
        ∙ ap (λ tail. take place history ++ tail) (rw add-one (drop-cons history place default within));
    after = same ∙ so_far;
    insert = wants.0;
    absent = ap (λ keys. set.contains keys entry.key) same ∙ wants.1;
  }

  -- whether a key is present after the entries so far, and after one more
  pub key_goes_on : (members : ℕ → Bool) (key : ℕ) (then : Bool)
      → then ≡ members_after_call entry.call entry.key (members_after members (take place history)) key
      → then ≡ members_after members (take (place + 1) history) key
  key_goes_on members key then made =
      made
      ∙ ap (λ (test : ℕ → Bool). test key)
      (sym (members_after-push members (take place history) entry)
      ∙ ap (members_after members) (sym (take_more history place default within)))

  module _ (keys : set.FinSet nat_cmp) (present right : Bool)
      (asked : present ≡ members_after (set.contains keys) (take place history) entry.key)
      (answered : right ≡ answer_where entry.call present) where
    right_so_far : right ≡ answer_where entry.call (members_after (set.contains keys) (take place history) entry.key)
    right_so_far = answered ∙ ap (answer_where entry.call) asked

    -- the entries so far are legal with one more whose answer is right
    pub legal_goes_on : IsLegal (set.contains keys) (take place history) → not (beq entry.answer right) ≡ false
        → IsLegal (set.contains keys) (take (place + 1) history)
    legal_goes_on so_far equal =
        subst (IsLegal (set.contains keys)) (sym (take_more history place default within))
        ((IsLegal-push (set.contains keys) (take place history) entry).1 (so_far, same_answer _ _ equal ∙ right_so_far))

    -- a history with a wrong answer isn't legal
    pub legal_stops : not (beq entry.answer right) ≡ true → IsLegalFrom keys history → ⊥
    legal_stops differ legal =
        let by_test = (own_test keys history).1.1 legal in
        let begins : IsPrefix (take (place + 1) history) history = (drop (place + 1) history, take-append-drop (place + 1) history) in
        let front = IsLegal-prefix (set.contains keys) (take (place + 1) history) history begins by_test in
        let pushed = subst (IsLegal (set.contains keys)) (take_more history place default within) front in
        other_answer _ _ differ (((IsLegal-push (set.contains keys) (take place history) entry).0 pushed).1 ∙ sym right_so_far)

-- at the end of the history
module _ (keys : set.FinSet nat_cmp) (history : List Entry) (place : ℕ) (all : length history ≤ place) where
  -- the key is present as it is in the set after the history
  pub key_ends : (key : ℕ) → members_after (set.contains keys) (take place history) key ≡ set.contains (set_after keys history) key
  key_ends key =
      ap (λ (front : List Entry). members_after (set.contains keys) front key) (take_all place history all)
      ∙ sym ((own_test keys history).0 key)

  -- all of it is legal
  pub legal_ends : IsLegal (set.contains keys) (take place history) → IsLegalFrom keys history
  legal_ends so_far = (own_test keys history).1.0 (subst (IsLegal (set.contains keys)) (take_all place history all) so_far)
