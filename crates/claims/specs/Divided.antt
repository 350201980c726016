-- The rule of the counter's table: the claims of all seats are the places below the counter.
use Rattle.std.specs.Prelude.{◌≡◌, ℕ, ◌+◌, ◌*◌, ◌^◌, ◌<◌, ◌≤◌, nat_lt, if◌then◌else◌, [], ◌∷◌, length, min, sum_by}
use mathlib.Core.Option.{some}
use lib.ListN.{get_elem?}
use Rattle.atomic_table.specs.Table.{State}
use Rattle.claims.specs.declared.rule.SeatView.{SeatView}
use Rattle.claims.specs.declared.rule.Setup.{Setup}
use Rattle.claims.specs.declared.rule.TheConstants.{MAX_LEN, MAX_CHUNK, MAX_SEATS}
use Rattle.claims.specs.Places.{holders_of}
use Rattle.claims.specs.Views.{draws_in}

-- a counter may be made with these numbers
pub record IsSetup (setup : Setup) : Type 0 where
  pub few_places : setup.len ≤ MAX_LEN
  pub some_chunk : 1 ≤ setup.chunk
  pub small_chunk : setup.chunk ≤ MAX_CHUNK
  pub some_seat : 1 ≤ setup.seats
  pub few_seats : setup.seats ≤ MAX_SEATS

-- how often the claims have a place where the counter is at the word
abbrev pub claimed_once : Setup → ℕ → ℕ → ℕ
claimed_once setup word place = if nat_lt place (min word setup.len) then 1 else 0

-- a seat missed once for each part at most, and only where the counter had passed the length; with
-- no part it made no claim
pub record IsSound (setup : Setup) (word : ℕ) (view : SeatView) : Type 0 where
  pub missed_once : length view.misses ≤ view.parts
  pub missed_past : 0 < length view.misses → setup.len ≤ word
  pub idle : view.parts ≡ 0 → view.claims ≡ []

-- The counter is at the word. Each draw raised it by a chunk, and it didn't wrap, nor does the next
-- draw wrap it: each seat draws past the length once at most.
pub record Divides (setup : Setup) (table : State ℕ SeatView) : Type 0 where
  pub word : ℕ
  pub words : table.words ≡ word ∷ []
  pub small : IsSetup setup
  pub parts : sum_by (λ view. view.parts) table.views ≡ setup.seats
  pub once : (place : ℕ)
      → sum_by (λ view. holders_of place view.claims) table.views ≡ claimed_once setup word place
  pub drawn : word ≡ setup.chunk * sum_by draws_in table.views
  pub room : word ≤ setup.len
      + setup.chunk * (1 + sum_by (λ view. length view.misses) table.views)
  pub unwrapped : word + setup.chunk < 2 ^ 64
  pub sound : (number : ℕ) (view : SeatView) → get_elem? table.views number ≡ some view
      → IsSound setup word view
