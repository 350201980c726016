-- What a draw does and tells.
use Rattle.std.specs.Prelude.{◌≡◌, ℕ, ◌+◌, ◌*◌, ◌^◌, ◌<◌, ◌≤◌, nat_lt, if◌then◌else◌, [], ◌∷◌, ◌++◌}
use Rattle.atomic_table.specs.Table.{Me, Step}
use Rattle.claims.specs.declared.rule.SeatView.{SeatView}
use Rattle.claims.specs.Places.{claim_at}
use Rattle.claims.specs.Views.{draws_in}

-- a draw that found a place below the length has the claim from there on; any other missed
abbrev pub view_after_draw : ℕ → SeatView → SeatView
view_after_draw place view =
    if nat_lt place view.setup.len
    then record view { claims = view.claims ++ claim_at view.setup place ∷ [] }
    else record view { misses = view.misses ++ place ∷ [] }

-- the counter is a chunk further for each draw of the seat, and of a lone seat for no other
pub record DrawTells (step : Step ℕ) (before : Me ℕ SeatView) (place : ℕ) (after : Me ℕ SeatView)
    : Type 0 where
  pub seat : after ≡ (view_after_draw place before.0, before.1)
  pub room : place + before.0.setup.chunk < 2 ^ 64
  pub ahead : before.0.setup.chunk * draws_in before.0 ≤ place
  pub alone : before.0.setup.seats ≡ 1 → place ≡ before.0.setup.chunk * draws_in before.0
