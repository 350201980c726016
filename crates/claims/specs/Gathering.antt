-- How the first seat at the table is dealt out, and how seats are gathered into one.
use Rattle.std.specs.Prelude.{◌≡◌, ℕ, List, [], length}
use Rattle.atomic_table.specs.Seated.{TableId}
use Rattle.atomic_table.specs.Table.{Me}
use Rattle.claims.specs.declared.rule.SeatView.{SeatView}
use Rattle.claims.specs.Places.{holders_of}
use Rattle.claims.specs.Tokens.{ClaimsValue, SeatValue, draws_of, holders_in, misses_in}
use Rattle.claims.specs.Views.{parts_view, draws_in}

-- the seat is the first of the counter's table, and nothing was drawn
pub record HasAllParts (claims : ClaimsValue) (table : TableId) (me : Me ℕ SeatView) : Type 0 where
  pub same_table : table ≡ claims.table
  pub seat : me ≡ (parts_view claims.setup claims.setup.seats, [])

-- one seat knows what all these know
pub record HasGathered (seats : List SeatValue) (me : Me ℕ SeatView) : Type 0 where
  pub parts : me.0.parts ≡ length seats
  pub holders : (place : ℕ) → holders_of place me.0.claims ≡ holders_in place seats
  pub draws : draws_in me.0 ≡ draws_of seats
  pub misses : length me.0.misses ≡ misses_in seats
  pub no_slot : me.1 ≡ []
