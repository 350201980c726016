-- Sums over the views of all seats, where one view changes, one is added, or one has all that counts.
use Rattle.std.proofs.Common.{◌≡◌, ℕ, zero, suc, ◌+◌, ◌≤◌, List, [], ◌∷◌, set, refl, sym, ap, arith, sum_by}
use mathlib.Core.Option.{some, some-injective, some-ne-none}
use lib.ListN.{get_elem?}
use Rattle.std.proofs.lemmas.List.Sums.{sum_by-cons}

module _ {A : Type 0} (f : A → ℕ) where
  -- one element changes
  pub total-set : (list : List A) (place : ℕ) (old new : A) → get_elem? list place ≡ some old
      → sum_by f (set list place new) + f old ≡ sum_by f list + f new
  total-set [] place old new is = absurd (some-ne-none old (sym is))
  total-set (first ∷ others) zero old new is =
      let same = ap f (some-injective first old is) in
      omega (arith, sum_by-cons f new others, sum_by-cons f first others)
  total-set (first ∷ others) (suc place) old new is =
      let rest = total-set others place old new is in
      omega (arith, sum_by-cons f first (set others place new), sum_by-cons f first others)

  -- one element has no more than all
  pub own-le-total : (list : List A) (place : ℕ) (item : A) → get_elem? list place ≡ some item
      → f item ≤ sum_by f list
  own-le-total [] place item is = absurd (some-ne-none item (sym is))
  own-le-total (first ∷ others) zero item is =
      let same = ap f (some-injective first item is) in omega (arith, sum_by-cons f first others)
  own-le-total (first ∷ others) (suc place) item is =
      let rest = own-le-total others place item is in omega (arith, sum_by-cons f first others)

module _ {A : Type 0} (f g : A → ℕ) where
  -- where each has no more by one measure than by another, so has all
  pub total-le-total : (list : List A) → ((place : ℕ) (item : A) → get_elem? list place ≡ some item → f item ≤ g item)
      → sum_by f list ≤ sum_by g list
  total-le-total [] each = omega arith
  total-le-total (first ∷ others) each =
      let here = each 0 first refl in
      let rest = total-le-total others (λ place item is. each (suc place) item is) in
      omega (arith, sum_by-cons f first others, sum_by-cons g first others)

  -- where none has anything by one measure, and so none by another, all have nothing
  pub total-none : (list : List A) → sum_by g list ≡ 0
      → ((place : ℕ) (item : A) → get_elem? list place ≡ some item → g item ≡ 0 → f item ≡ 0)
      → sum_by f list ≡ 0
  total-none [] none each = refl
  total-none (first ∷ others) none each =
      let sum = sum_by-cons g first others in
      let here = each 0 first refl (omega arith) in
      let rest = total-none others (omega arith) (λ place item is. each (suc place) item is) in
      omega (arith, sum_by-cons f first others)

  -- where one has all by one measure, it has all by another by which the others, without any, have nothing
  pub total-alone : (list : List A) (place : ℕ) (item : A) → get_elem? list place ≡ some item → sum_by g list ≡ g item
      → ((place : ℕ) (item : A) → get_elem? list place ≡ some item → g item ≡ 0 → f item ≡ 0)
      → sum_by f list ≡ f item
  total-alone [] place item is all each = absurd (some-ne-none item (sym is))
  total-alone (first ∷ others) zero item is all each =
      let same = some-injective first item is in
      let sum = sum_by-cons g first others in
      let here = ap f same in
      let there = ap g same in
      let rest = total-none others (omega arith) (λ place item is. each (suc place) item is) in
      omega (arith, sum_by-cons f first others)
  total-alone (first ∷ others) (suc place) item is all each =
      let sum = sum_by-cons g first others in
      let own = own-le-total g others place item is in
      let here = each 0 first refl (omega arith) in
      let rest = total-alone others place item is (omega arith) (λ place item is. each (suc place) item is) in
      omega (arith, sum_by-cons f first others)
