-- Where each place is in one claim, the places of the claims are all places, in some order.
use Rattle.std.proofs.Common.{◌≡◌, ℕ, zero, suc, ◌+◌, ◌-◌, ◌<◌, List, [], ◌∷◌, length, get_or, remove, min, cond, eqb, refl, ap, arith, count_by, flat_map, eq-eqb, ne_eqb, nat_le, nat_lt, ◌&&◌}
use mathlib.Core.Logic.{dite}
use native.Mathlib.Decide.{ℕ_discrete}
use Rattle.std.specs.List.{range_with_len}
use Rattle.std.specs.List.Sorted.{IsPermutation}
use Rattle.std.proofs.lemmas.Bool.Decides.{nat_tests}
use Rattle.std.proofs.lemmas.List.Sorted.{IsPermutation-refl, IsPermutation-sym, IsPermutation-cons, IsPermutation-trans, IsPermutation-remove, sum_by-IsPermutation}
use Rattle.std.proofs.lemmas.List.Sums.{sum_by-cons, sum_by-append}
use Rattle.claims.specs.declared.claim.Claim.{Claim}
use Rattle.claims.specs.declared.rule.Setup.{Setup}
use Rattle.claims.specs.Divided.{claimed_once}
use Rattle.claims.specs.Places.{has_place, holders_of, places_of}
use Rattle.claims.specs.Tokens.{SeatValue, holders_in, places_in}

-- how often the number stands in the list
abbrev pub times : ℕ → List ℕ → ℕ
times number list = count_by (eqb number) list

-- the measure whose sum that is
abbrev pub one_for : ℕ → ℕ → ℕ
one_for number other = cond (eqb number other) 1 0

-- a number that stands in the list has a place there
find_place : (number : ℕ) (list : List ℕ) → 0 < times number list
    → (place : ℕ) × (place < length list) × (number ≡ get_or list place number)
find_place number [] stands = absurd (omega arith)
find_place number (first ∷ others) stands =
    dite (ℕ_discrete number first)
    (λ same. (0, omega arith, same))
    (λ other. let none : one_for number first ≡ 0 = ap (λ b. cond b 1 0) (ne_eqb number first other) in
    let rest = find_place number others (omega (arith, sum_by-cons (one_for number) first others)) in
    (suc rest.0, omega (arith, rest.1), rest.2))

-- lists in which each number stands as often are each other in another order
permute : (list other : List ℕ) → ((number : ℕ) → times number list ≡ times number other) → IsPermutation list other
permute [] [] same = IsPermutation-refl []
permute [] (first ∷ others) same =
    let one : one_for first first ≡ 1 = ap (λ b. cond b 1 0) (eq-eqb first first refl) in
    absurd (omega (arith, same first, sum_by-cons (one_for first) first others))
permute (first ∷ others) other same =
    let one : one_for first first ≡ 1 = ap (λ b. cond b 1 0) (eq-eqb first first refl) in
    let at = find_place first other (omega (arith, same first, sum_by-cons (one_for first) first others)) in
    let rest = remove other at.0 in
    let moved : IsPermutation other (first ∷ rest) = IsPermutation-remove other at.0 first at.1 at.2 in
    let others_same : (number : ℕ) → times number others ≡ times number rest =
    λ number. let left = sum_by-cons (one_for number) first others in
    let right = sum_by-cons (one_for number) first rest in
    let all = sum_by-IsPermutation (one_for number) other (first ∷ rest) moved in
    omega (arith, same number) in
    IsPermutation-trans (first ∷ others) (first ∷ rest) other
    (IsPermutation-cons first others rest (permute others rest others_same))
    (IsPermutation-sym other (first ∷ rest) moved)

-- in a range each number stands once
times-range : (from count number : ℕ) → times number (range_with_len from count)
    ≡ cond (nat_le from number && nat_lt number (from + count)) 1 0
times-range from zero number = grind (arith, nat_tests)
times-range from (suc count) number =
    let rest = times-range (from + 1) count number in
    let sum = sum_by-cons (one_for number) from (range_with_len (from + 1) count) in
    grind (arith, nat_tests)

-- so in a claim's places those stand that it has
times-places : (claim : Claim) (number : ℕ) → times number (places_of claim) ≡ cond (has_place number claim) 1 0
times-places claim number =
    let range = times-range claim.from (claim.to - claim.from) number in
    grind (arith, nat_tests)

-- and in the places of several claims each as often as claims have it
times-claims : (claims : List Claim) (number : ℕ) → times number (flat_map places_of claims) ≡ holders_of number claims
times-claims [] number = refl
times-claims (claim ∷ claims) number =
    omega (
      arith,
      sum_by-append (one_for number) (places_of claim) (flat_map places_of claims),
      sum_by-cons (λ c. cond (has_place number c) 1 0) claim claims,
      times-places claim number,
      times-claims claims number,
    )

times-seats : (seats : List SeatValue) (number : ℕ) → times number (places_in seats) ≡ holders_in number seats
times-seats [] number = refl
times-seats (seat ∷ seats) number =
    omega (
      arith,
      sum_by-append (one_for number) (flat_map places_of seat.claims) (places_in seats),
      sum_by-cons (λ s. holders_of number s.claims) seat seats,
      times-claims seat.claims number,
      times-seats seats number,
    )

-- so they are all places below the counter
pub all_places : (setup : Setup) (seats : List SeatValue) (word : ℕ)
    → ((place : ℕ) → holders_in place seats ≡ claimed_once setup word place)
    → IsPermutation (range_with_len 0 (min word setup.len)) (places_in seats)
all_places setup seats word once =
    permute (range_with_len 0 (min word setup.len)) (places_in seats)
    (λ number. let range = times-range 0 (min word setup.len) number in
    let seen = times-seats seats number in
    let is = once number in
    grind (arith, nat_tests))
