-- One claim more, and the counter further on: which places are claimed then.
use Rattle.std.proofs.Common.{◌≡◌, ℕ, zero, suc, ◌+◌, ◌-◌, ◌<◌, ◌≤◌, List, [], ◌∷◌, ◌++◌, cond, arith, ap, ◌∙◌}
use Rattle.std.specs.List.{range_with_len}
use Rattle.std.proofs.lemmas.Bool.Decides.{nat_tests}
use Rattle.std.proofs.lemmas.List.Sums.{sum_by_push, fold_push}
use Rattle.claims.specs.declared.claim.Claim.{Claim}
use Rattle.claims.specs.declared.rule.Setup.{Setup}
use Rattle.claims.specs.Divided.{claimed_once}
use Rattle.claims.specs.Places.{has_place, holders_of, end_of, claim_at}

-- one claim more
pub holders_of-more : (place : ℕ) (claims : List Claim) (claim : Claim)
    → holders_of place (claims ++ claim ∷ []) ≡ holders_of place claims + cond (has_place place claim) 1 0
holders_of-more place claims claim = sum_by_push (λ c. cond (has_place place c) 1 0) claims claim

-- the claims end where the last one does
pub end_of-more : (claims : List Claim) (claim : Claim) → end_of (claims ++ claim ∷ []) ≡ claim.to
end_of-more claims claim = fold_push (λ (end : ℕ) (c : Claim). c.to) 0 claims claim

-- a draw below the length claims the places from the counter to where it is then
pub claimed_once-more : (setup : Setup) (word place : ℕ) → word < setup.len
    → cond (has_place place (claim_at setup word)) 1 0 + claimed_once setup word place
    ≡ claimed_once setup (word + setup.chunk) place
claimed_once-more setup word place lt = grind (arith, nat_tests)

-- a draw past the length claims none
pub claimed_once-past : (setup : Setup) (word place : ℕ) → setup.len ≤ word
    → claimed_once setup word place ≡ claimed_once setup (word + setup.chunk) place
claimed_once-past setup word place past = grind (arith, nat_tests)

-- one place more
range-more : (from count place : ℕ) → from + count ≡ place
    → range_with_len from (suc count) ≡ range_with_len from count ++ place ∷ []
range-more from zero place is = ap (λ (n : ℕ). n ∷ []) (omega arith)
range-more from (suc count) place is = ap (λ (list : List ℕ). from ∷ list) (range-more (from + 1) count place (omega arith))

-- the places of a claim before the next one are those before this one, and it
pub places_before-more : (from place : ℕ) → from ≤ place
    → range_with_len from (place + 1 - from) ≡ range_with_len from (place - from) ++ place ∷ []
places_before-more from place le =
    let count : place + 1 - from ≡ suc (place - from) = omega arith in
    ap (range_with_len from) count ∙ range-more from (place - from) place (omega arith)
