-- The constants of the code are the limits of a counter: another number is refused here.
use Rattle.std.proofs.Common.{◌≡◌, ◌^◌, refl}
use Rattle.claims.specs.declared.rule.TheConstants.{MAX_LEN, MAX_CHUNK, MAX_SEATS}

-- the most places
pub max_len-constant : MAX_LEN ≡ 2 ^ 32
max_len-constant = refl

-- the most places of a claim
pub max_chunk-constant : MAX_CHUNK ≡ 2 ^ 20
max_chunk-constant = refl

-- the most seats
pub max_seats-constant : MAX_SEATS ≡ 64
max_seats-constant = refl
