-- What contracts see of the fields of a counter and a seat, and what holds of these fields.
use Rattle.std.specs.Prelude.{◌≡◌, []}
use Rattle.claims.specs.declared.counter.Claims.TheInside as counter
use Rattle.claims.specs.declared.seat.ClaimSeat.TheInside as seat
use Rattle.claims.specs.Divided.{IsSetup}
use Rattle.claims.specs.Places.{EndsLone}
use Rattle.claims.specs.Tokens.{ClaimsValue, SeatValue}
use Rattle.claims.specs.Views.{worker_view}

-- a counter is its table and what it divides
abbrev pub claims_value : counter.Inside → ClaimsValue
claims_value inside = record { table = inside.table.shared.table_id; setup = inside.setup }

-- the table has one word and no slot, and divides what the counter says
pub record IsCounter (inside : counter.Inside) : Type 0 where
  pub words : inside.table.shared.table_id.words ≡ 1
  pub slots : inside.table.shared.table_id.slots ≡ 0
  pub key : inside.table.shared.key ≡ inside.setup
  pub small : IsSetup inside.setup

-- a seat is what its view at the table says
abbrev pub seat_value : seat.Inside → SeatValue
seat_value inside = record {
  table = inside.seat.table_id;
  setup = inside.seat.me.0.setup;
  claims = inside.seat.me.0.claims;
  spent = inside.spent;
}

-- the seat speaks for one worker, and a lone worker's claims end where its draws say
pub record IsWhole (inside : seat.Inside) : Type 0 where
  pub one : inside.seat.me
      ≡ (worker_view inside.seat.me.0.setup inside.seat.me.0.claims inside.spent, [])
  pub lone : EndsLone inside.seat.me.0.setup inside.seat.me.0.claims
