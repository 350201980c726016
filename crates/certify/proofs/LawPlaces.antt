-- Which numbers stand before a place, at one, and at any; and legality of two histories together.
use Rattle.std.proofs.Common.{◌≡◌, ◌↔◌, ℕ, suc, ◌+◌, ◌-◌, ◌<◌, ◌==◌, nat_eq, Bool, true, false, ◌||◌, List, [], ◌∷◌, ◌++◌, length, take, slice_index, refl, sym, ap, ◌∙◌, arith}
use Rattle.std.specs.Ordering.{nat_cmp}
use Rattle.std.specs.FinSet as fin
use Rattle.std.proofs.lemmas.Bool.Decides.{nat_tests}
use Rattle.std.proofs.lemmas.List.{get_or-take, length-take}
use Rattle.std.proofs.lemmas.List.Folds.{list_any_at}
use Rattle.set_model.specs.Call.{set_after_call}
use Rattle.set_model.specs.History.{set_after, IsLegalFrom}
use Rattle.set_model.specs.Keys.{is_in}
use Rattle.set_model.specs.declared.entry.Entry.{Entry}
use Rattle.certify.specs.Order.{IsPlace, number_at, numbers_before}

-- two histories put together are legal where the first is, and the second is from what the first leaves
pub IsLegalFrom-append : (keys : fin.FinSet nat_cmp) (first second : List Entry)
    → IsLegalFrom keys (first ++ second) ↔ (IsLegalFrom keys first × IsLegalFrom (set_after keys first) second)
IsLegalFrom-append keys [] second = (λ legal. (tt, legal), λ both. both.1)
IsLegalFrom-append keys (entry ∷ first) second =
    let further = IsLegalFrom-append (set_after_call entry.call entry.key keys) first second in (
      λ legal. ((legal.0, (further.0 legal.1).0), (further.0 legal.1).1),
      λ both. (both.0.0, further.1 (both.0.1, both.1)),
    )

-- a number among some stands at one of their places
abbrev pub Found : List ℕ → ℕ → Type 0
Found numbers number = (index : ℕ) × (index < length numbers) × (slice_index numbers index ≡ number)

pub found_at : (numbers : List ℕ) (number : ℕ) → is_in numbers number ≡ true → Found numbers number
found_at [] number h = absurd (let e : false ≡ true = h in cc)
found_at (first ∷ numbers) number h = go (λ rest. found_at numbers number rest) (first == number) refl where
  go : (is_in numbers number ≡ true → Found numbers number) → (here : Bool) → (first == number) ≡ here → Found (first ∷ numbers) number
  go more true e = (0, omega arith, let is : first ≡ number = grind (arith, nat_tests) in is)
  go more false e =
      let rest = more (sym (ap (λ b. b || is_in numbers number) e) ∙ h) in
      (suc rest.0, (let under = rest.1 in omega arith), rest.2)

module _ (order : List ℕ) where
  -- a number at an earlier place is among those before
  pub among_earlier : (place earlier : ℕ) → IsPlace order place → IsPlace order earlier → earlier < place
      → is_in (numbers_before order place) (number_at order earlier) ≡ true
  among_earlier place earlier there before under =
      let h0 = before.0 in let h1 = before.1 in
      let here : earlier - 1 < place - 1 = omega arith in
      let size = length-take (place - 1) order in
      let within : earlier - 1 < length (take (place - 1) order) = (let p = there.1 in omega arith) in
      let is : slice_index (take (place - 1) order) (earlier - 1) ≡ number_at order earlier = get_or-take (place - 1) order
      (earlier - 1) 0 here in
      let itself : (slice_index (take (place - 1) order) (earlier - 1) == number_at order earlier) ≡ true = grind (arith, nat_tests) in
      list_any_at (λ y. nat_eq y (number_at order earlier)) (take (place - 1) order) (earlier - 1) 0 within itself

  -- a number among those before stands at an earlier place
  pub earlier_place : (place number : ℕ) → IsPlace order place → is_in (numbers_before order place) number ≡ true
      → (earlier : ℕ) × IsPlace order earlier × (earlier < place) × (number_at order earlier ≡ number)
  earlier_place place number there h =
      let at = found_at (numbers_before order place) number h in
      let size = length-take (place - 1) order in
      let under = at.1 in
      let p = there.1 in
      let short : at.0 < place - 1 = omega arith in
      let back : (at.0 + 1) - 1 ≡ at.0 = omega arith in
      (at.0 + 1, (omega arith, omega arith), omega arith, rw back (sym (get_or-take (place - 1) order at.0 0 short) ∙ at.2))

  -- a number at a place is among all, and the other way round
  pub among_all : (place : ℕ) → IsPlace order place → is_in order (number_at order place) ≡ true
  among_all place there = list_any_at (λ y. nat_eq y (number_at order place)) order (place - 1) 0
      (let h = there.0 in let k = there.1 in omega arith)
      (let e : (number_at order place == number_at order place) ≡ true = grind (arith, nat_tests) in e)

  pub place_of_all : (number : ℕ) → is_in order number ≡ true → (place : ℕ) × IsPlace order place × (number_at order place ≡ number)
  place_of_all number h =
      let at = found_at order number h in
      let back : (at.0 + 1) - 1 ≡ at.0 = omega arith in
      (at.0 + 1, (omega arith, (let under = at.1 in omega arith)), rw back at.2)
