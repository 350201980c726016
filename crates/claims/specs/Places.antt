-- Which places claims have.
use Rattle.std.specs.Prelude.{◌≡◌, ℕ, ◌+◌, ◌-◌, ◌*◌, Bool, ◌&&◌, nat_le, nat_lt, List, length, min, fold, count_by}
use Rattle.std.specs.List.{range_with_len}
use Rattle.claims.specs.declared.claim.Claim.{Claim}
use Rattle.claims.specs.declared.rule.Setup.{Setup}

-- the claim has the place
abbrev pub has_place : ℕ → Claim → Bool
has_place place claim = nat_le claim.from place && nat_lt place claim.to

-- how many of the claims have the place
abbrev pub holders_of : ℕ → List Claim → ℕ
holders_of place claims = count_by (has_place place) claims

-- the places of a claim, in their order
abbrev pub places_of : Claim → List ℕ
places_of claim = range_with_len claim.from (claim.to - claim.from)

-- where the last of the claims ends: 0 where there is none
abbrev pub end_of : List Claim → ℕ
end_of claims = fold (λ _ claim. claim.to) 0 claims

-- the claim of a draw that found the place: a chunk from it on, cut at the length
abbrev pub claim_at : Setup → ℕ → Claim
claim_at setup place = record { from = place; to = min (place + setup.chunk) setup.len }

-- where there is one seat, its claims end where its draws say
abbrev pub EndsLone : Setup → List Claim → Type 0
EndsLone setup claims =
    setup.seats ≡ 1 → end_of claims ≡ min (setup.chunk * length claims) setup.len
