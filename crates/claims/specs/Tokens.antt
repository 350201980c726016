-- A counter and its seats as contracts see them.
use Rattle.std.specs.Prelude.{◌≡◌, ℕ, ◌+◌, ◌*◌, ◌<◌, ◌≤◌, List, [], ◌∷◌, ◌++◌, length, min, All, Option, Some, None, MatchOption, IsSome, sum_by, flat_map}
use Rattle.atomic_table.specs.Seated.{TableId}
use Rattle.claims.specs.declared.claim.Claim.{Claim}
use Rattle.claims.specs.declared.rule.Setup.{Setup}
use Rattle.claims.specs.Places.{holders_of, places_of, end_of}
use Rattle.claims.specs.Views.{misses_of}

-- a counter: which table it is, and what it divides
pub record ClaimsValue : Type 0 where
  pub table : TableId
  pub setup : Setup

-- a seat: whose counter it is of, its claims in the order in which it took them, and where it is
-- spent the place at or past the length that its last draw found
pub record SeatValue : Type 0 where
  pub table : TableId
  pub setup : Setup
  pub claims : List Claim
  pub spent : Option ℕ

-- the seat was made with the counter
pub record IsSeatOf (claims : ClaimsValue) (seat : SeatValue) : Type 0 where
  pub table : seat.table ≡ claims.table
  pub setup : seat.setup ≡ claims.setup

-- The seats are all of the counter, each once: a seat can't be copied.
pub record AreAllSeats (claims : ClaimsValue) (seats : List SeatValue) : Type 0 where
  pub ours : All (IsSeatOf claims) seats
  pub whole : length seats ≡ claims.setup.seats

-- a seat as its counter is made
abbrev pub fresh_seat : ClaimsValue → SeatValue
fresh_seat claims =
    record { table = claims.table; setup = claims.setup; claims = []; spent = None }

-- how many draws the seat made: one for each claim, and one more where it is spent
abbrev pub draws_by : SeatValue → ℕ
draws_by seat = length seat.claims + length (misses_of seat.spent)

-- how many draws the seats made
abbrev pub draws_of : List SeatValue → ℕ
draws_of seats = sum_by draws_by seats

-- how many of the seats are spent
abbrev pub misses_in : List SeatValue → ℕ
misses_in seats = sum_by (λ seat. length (misses_of seat.spent)) seats

-- in how many claims of the seats the place is
abbrev pub holders_in : ℕ → List SeatValue → ℕ
holders_in place seats = sum_by (λ seat. holders_of place seat.claims) seats

-- the places of all claims of the seats, seat by seat
abbrev pub places_in : List SeatValue → List ℕ
places_in seats = flat_map (λ seat. flat_map places_of seat.claims) seats

-- The seat, which wasn't spent, drew the claim's first place, and has the claim behind its others.
-- With one seat it begins where the one before ended.
pub record IsNext (old : SeatValue) (claim : Claim) (new : SeatValue) : Type 0 where
  pub unspent : old.spent ≡ None
  pub claims : new.claims ≡ old.claims ++ claim ∷ []
  pub kept : new ≡ record old { claims = new.claims }
  pub some : claim.from < claim.to
  pub within : claim.to ≤ old.setup.len
  pub cut : claim.to ≡ min (claim.from + old.setup.chunk) old.setup.len
  pub ahead : old.setup.chunk * length old.claims ≤ claim.from
  pub few : length old.claims < old.setup.len
  pub follows : old.setup.seats ≡ 1 → claim.from ≡ end_of old.claims

-- the seat, which wasn't spent, drew a place at or past the length, and is spent
pub record Misses (old new : SeatValue) : Type 0 where
  pub place : ℕ
  pub past : old.setup.len ≤ place
  pub ahead : old.setup.chunk * length old.claims ≤ place
  pub lone : old.setup.seats ≡ 1 → place ≡ old.setup.chunk * length old.claims
  pub seat : new ≡ record old { spent = Some place }

-- The seat was spent, and is as it was, or its draw missed. It is spent, and has no claim more.
pub record AnswersNone (old new : SeatValue) : Type 0 where
  pub cause : MatchOption old.spent (Misses old new) (λ place. new ≡ old)
  pub spent : IsSome new.spent
  pub same_claims : new.claims ≡ old.claims
