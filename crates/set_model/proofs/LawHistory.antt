-- What two histories one after the other make of a set and of legality, what one entry more makes, and that sets and tests agree.
use Rattle.std.proofs.Common.{◌≡◌, ℕ, Bool, List, [], ◌∷◌, ◌++◌, ◌↔◌, refl, sym, ap, ◌∙◌, subst}
use Rattle.std.specs.Ordering.{nat_cmp}
use Rattle.std.specs.FinSet as set
use mathlib.Core.List.{IsPrefix}
use Rattle.set_model.specs.Call.{answer_where, set_after_call, members_after_call}
use Rattle.set_model.specs.Keys.{IsTestOf}
use Rattle.set_model.specs.History.{set_after, members_after, IsLegal, IsLegalFrom}
use Rattle.set_model.specs.declared.entry.Entry.{Entry}
use Rattle.set_model.proofs.LawMembers.{IsTestOf-after_call}

-- the set after two histories is that after the second, from the set after the first
pub set_after-append : (keys : set.FinSet nat_cmp) (first second : List Entry)
    → set_after keys (first ++ second) ≡ set_after (set_after keys first) second
set_after-append keys [] second = refl
set_after-append keys (entry ∷ first) second = set_after-append (set_after_call entry.call entry.key keys) first second

-- the same of the members of a test
pub members_after-append : (members : ℕ → Bool) (first second : List Entry)
    → members_after members (first ++ second) ≡ members_after (members_after members first) second
members_after-append members [] second = refl
members_after-append members (entry ∷ first) second =
    members_after-append (members_after_call entry.call entry.key members) first second

-- one entry more makes its call on the set
pub set_after-push : (keys : set.FinSet nat_cmp) (history : List Entry) (entry : Entry)
    → set_after keys (history ++ entry ∷ []) ≡ set_after_call entry.call entry.key (set_after keys history)
set_after-push keys history entry = set_after-append keys history (entry ∷ [])

-- and on the members of a test
pub members_after-push : (members : ℕ → Bool) (history : List Entry) (entry : Entry)
    → members_after members (history ++ entry ∷ []) ≡ members_after_call entry.call entry.key (members_after members history)
members_after-push members history entry = members_after-append members history (entry ∷ [])

-- two histories put together are legal where the first is, and the second is from what the first leaves
pub IsLegal-append : (members : ℕ → Bool) (first second : List Entry)
    → IsLegal members (first ++ second) ↔ (IsLegal members first × IsLegal (members_after members first) second)
IsLegal-append members [] second = (λ legal. (tt, legal), λ both. both.1)
IsLegal-append members (entry ∷ first) second =
    let further = IsLegal-append (members_after_call entry.call entry.key members) first second in (
      λ legal. ((legal.0, (further.0 legal.1).0), (further.0 legal.1).1),
      λ both. (both.0.0, further.1 (both.0.1, both.1)),
    )

-- a history with one entry more is legal where it is and the entry's answer is right after it
pub IsLegal-push : (members : ℕ → Bool) (history : List Entry) (entry : Entry)
    → IsLegal members (history ++ entry ∷ [])
    ↔ (IsLegal members history × (entry.answer ≡ answer_where entry.call (members_after members history entry.key)))
IsLegal-push members history entry =
    let both = IsLegal-append members history (entry ∷ []) in (
      λ legal. ((both.0 legal).0, (both.0 legal).1.0),
      λ right. both.1 (right.0, (right.1, tt)),
    )

-- a prefix of a legal history is legal
pub IsLegal-prefix : (members : ℕ → Bool) (front history : List Entry) → IsPrefix front history → IsLegal members history
    → IsLegal members front
IsLegal-prefix members front history begins legal =
    ((IsLegal-append members front begins.0).0 (subst (IsLegal members) (sym begins.1) legal)).0

-- a test of the beginning set is after the history a test of the set after it, and one tells the history legal where the other does
pub sets_and_tests_agree : (members : ℕ → Bool) (keys : set.FinSet nat_cmp) (history : List Entry) → IsTestOf members keys
    → IsTestOf (members_after members history) (set_after keys history) × (IsLegal members history ↔ IsLegalFrom keys history)
sets_and_tests_agree members keys [] test = (test, (λ legal. legal, λ legal. legal))
sets_and_tests_agree members keys (entry ∷ rest) test =
    let further = sets_and_tests_agree (members_after_call entry.call entry.key members) (set_after_call entry.call entry.key keys) rest
    (IsTestOf-after_call entry.call entry.key members keys test) in
    let same = ap (answer_where entry.call) (test entry.key) in (
      further.0,
      (λ legal. (legal.0 ∙ sym same, further.1.0 legal.1), λ legal. (legal.0 ∙ same, further.1.1 legal.1)),
    )
