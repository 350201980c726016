-- Two fronts of one history: the longer one begins with both; and of passes of which one has seen it all, the longest front is the history.
use Rattle.std.proofs.Common.{◌≡◌, ℕ, zero, suc, ◌<◌, ◌≤◌, Bool, true, false, ltb, List, [], ◌∷◌, ◌++◌, length, refl, sym, ap, ◌∙◌, subst, arith, append-nil, length-append}
use Rattle.std.proofs.lemmas.Bool.{ltb-true, ltb-false}
use Rattle.std.proofs.lemmas.List.Elements.{All-head, All-tail}
use Rattle.std.specs.Prelude.{if◌then◌else◌}
use Rattle.std.specs.List.{All, Contains}
use mathlib.Core.List.{IsPrefix}
use mathlib.Core.Option.{some, some-injective, some-ne-none}
use lib.ListN.{get_elem?}
use base.Growing.{prefix_refl}
use Rattle.atomic_table.proofs.Lists.{at_index}
use Rattle.set_model.specs.declared.entry.Entry.{Entry}
use Rattle.step_core.specs.declared.views.PassView.{PassView}
use Rattle.cells.specs.Past.{longer, longest_front}

module _ {A : Type 0} where
  -- of two fronts of one list the one that isn't longer begins the other
  pub shorter_begins : (front other whole : List A) → IsPrefix front whole → IsPrefix other whole → length front ≤ length other
      → IsPrefix front other
  shorter_begins [] other whole first second short = (other, refl)
  shorter_begins (entry ∷ front) [] whole first second short = absurd (omega arith)
  shorter_begins (entry ∷ front) (other_entry ∷ other) whole first second short =
      let one : entry ∷ (front ++ first.0) ≡ whole = first.1 in
      let two : other_entry ∷ (other ++ second.0) ≡ whole = second.1 in
      let rest : front ++ first.0 ≡ other ++ second.0 = cc in
      let same : entry ≡ other_entry = cc in
      let further = shorter_begins front other (other ++ second.0) (first.0, rest) (second.0, refl) (omega arith) in
      let behind : front ++ further.0 ≡ other = further.1 in
      (further.0, cc)

  -- nothing stands behind a front as long as its list
  none_behind : (front whole behind : List A) → front ++ behind ≡ whole → length whole ≤ length front → front ≡ whole
  none_behind front whole [] is long = sym (append-nil front) ∙ is
  none_behind front whole (entry ∷ behind) is long = absurd (omega (arith, ap length is, length-append front (entry ∷ behind)))

  -- a front as long as its list is the list
  pub full_front : (front whole : List A) → IsPrefix front whole → length whole ≤ length front → front ≡ whole
  full_front front whole begins long = none_behind front whole begins.0 begins.1 long

  -- what a list contains stands at some index
  pub at_contained : (list : List A) (a : A) → Contains list a → (i : ℕ) × (get_elem? list i ≡ some a)
  at_contained list a has = (has.0, at_index list has.0 a has.1 (sym has.2))

-- a choice by a test of lengths has what either choice has
by_test : (Fact : List Entry → Type 0) (front other : List Entry) (test : Bool) → ltb (length front) (length other) ≡ test
    → (length front < length other → Fact other) → (length other ≤ length front → Fact front) → Fact (if test then other else front)
by_test Fact front other true is further own = further (ltb-true (length front) (length other) is)
by_test Fact front other false is further own = own (ltb-false (length front) (length other) is)

-- the longer of two fronts is the other where that is longer, and else the first
pub longer_by_cases : (Fact : List Entry → Type 0) (front other : List Entry) → (length front < length other → Fact other)
    → (length other ≤ length front → Fact front) → Fact (longer front other)
longer_by_cases Fact front other further own = by_test Fact front other (ltb (length front) (length other)) refl further own

-- the first begins the longer one
pub longer-own : (front other history : List Entry) → IsPrefix front history → IsPrefix other history
    → IsPrefix front (longer front other)
longer-own front other history first second = longer_by_cases (λ (list : List Entry). IsPrefix front list) front other
    (λ less. shorter_begins front other history first second (omega arith)) (λ less. prefix_refl front)

-- and so does the other
pub longer-other : (front other history : List Entry) → IsPrefix front history → IsPrefix other history
    → IsPrefix other (longer front other)
longer-other front other history first second = longer_by_cases (λ (list : List Entry). IsPrefix other list) front other
    (λ less. prefix_refl other) (λ less. shorter_begins other front history second first less)

-- the longer of two fronts of a history is one
pub longer-begins : (front other history : List Entry) → IsPrefix front history → IsPrefix other history
    → IsPrefix (longer front other) history
longer-begins front other history first second =
    longer_by_cases (λ (list : List Entry). IsPrefix list history) front other (λ less. second) (λ less. first)

-- it is as long as both
pub longer_is_long : (front other : List Entry)
    → (length front ≤ length (longer front other)) × (length other ≤ length (longer front other))
longer_is_long front other = longer_by_cases
    (λ (list : List Entry). (length front ≤ length list) × (length other ≤ length list)) front other
    (λ less. (omega arith, omega arith)) (λ less. (omega arith, less))

-- where the views' fronts begin a history, so does the longest of them
pub longest_front-begins : (views : List PassView) (history : List Entry) → All (λ view. IsPrefix view.front history) views
    → IsPrefix (longest_front views) history
longest_front-begins [] history begun = (history, refl)
longest_front-begins (view ∷ others) history begun =
    longer-begins view.front (longest_front others) history
    (All-head (λ (view : PassView). IsPrefix view.front history) view others begun)
    (longest_front-begins others history (All-tail (λ (view : PassView). IsPrefix view.front history) view others begun))

-- no view's front is longer
pub longest_front_is_long : (views : List PassView) (number : ℕ) (view : PassView) → get_elem? views number ≡ some view
    → length view.front ≤ length (longest_front views)
longest_front_is_long [] number view is_view = absurd (some-ne-none view (sym is_view))
longest_front_is_long (first ∷ others) zero view is_view =
    subst (λ (view : PassView). length view.front ≤ length (longest_front (first ∷ others))) (some-injective first view is_view)
    (longer_is_long first.front (longest_front others)).0
longest_front_is_long (first ∷ others) (suc number) view is_view =
    let further = longest_front_is_long others number view is_view in
    let long = (longer_is_long first.front (longest_front others)).1 in
    omega arith

-- where one view has seen the whole history, the longest front is the history
pub longest_front-whole : (views : List PassView) (history : List Entry) → All (λ view. IsPrefix view.front history) views
    → (number : ℕ) (view : PassView) → get_elem? views number ≡ some view → view.front ≡ history → longest_front views ≡ history
longest_front-whole views history begun number view is_view whole =
    let long = longest_front_is_long views number view is_view in
    full_front (longest_front views) history (longest_front-begins views history begun) (omega (arith, ap length whole))
