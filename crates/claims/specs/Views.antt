-- What the seats at the table know.
use Rattle.std.specs.Prelude.{ℕ, ◌+◌, ◌-◌, List, [], ◌∷◌, ◌++◌, length, Option, Some, None}
use Rattle.claims.specs.declared.claim.Claim.{Claim}
use Rattle.claims.specs.declared.rule.SeatView.{SeatView}
use Rattle.claims.specs.declared.rule.Setup.{Setup}

-- so many parts, with which nothing was drawn
abbrev pub parts_view : Setup → ℕ → SeatView
parts_view setup parts = record { setup = setup; parts = parts; claims = []; misses = [] }

-- one part, with which nothing was drawn
abbrev pub part_view : SeatView → SeatView
part_view view = parts_view view.setup 1

-- the same without one part
abbrev pub rest_view : SeatView → SeatView
rest_view view = record view { parts = view.parts - 1 }

-- what two seats know together
abbrev pub both_views : SeatView → SeatView → SeatView
both_views view other = record {
  setup = view.setup;
  parts = view.parts + other.parts;
  claims = other.claims ++ view.claims;
  misses = other.misses ++ view.misses;
}

-- what is left of a seat that another took in
abbrev pub no_view : SeatView
no_view = parts_view (record { len = 0; chunk = 0; seats = 0 }) 0

-- the draw of a spent seat that missed
abbrev pub misses_of : Option ℕ → List ℕ
misses_of None = []
misses_of (Some place) = place ∷ []

-- what the seat of one worker knows
abbrev pub worker_view : Setup → List Claim → Option ℕ → SeatView
worker_view setup claims spent =
    record { setup = setup; parts = 1; claims = claims; misses = misses_of spent }

-- each draw gave a claim or missed
abbrev pub draws_in : SeatView → ℕ
draws_in view = length view.claims + length view.misses
