-- One seat takes in the seats of all workers, from the last to the first.
use Rattle.std.proofs.Common.{◌≡◌, ℕ, ◌+◌, List, [], ◌∷◌, ◌++◌, length, refl, sym, ap, ◌∙◌, subst, arith, Some, All, cond, length-append, sum_by}
use Rattle.std.proofs.lemmas.List.Elements.{All-pop}
use Rattle.std.proofs.lemmas.List.Sums.{sum_by_push, sum_by-append}
use Rattle.atomic_table.specs.Seated.{TableId}
use Rattle.atomic_table.specs.Table.{Me}
use Rattle.claims.specs.declared.rule.SeatView.{SeatView}
use Rattle.claims.specs.declared.seat.ClaimSeat.TheInside as seat
use Rattle.claims.specs.Gathering.{HasGathered}
use Rattle.claims.specs.Modeled.{IsWhole, seat_value}
use Rattle.claims.specs.Places.{holders_of, has_place}
use Rattle.claims.specs.Tokens.{SeatValue, draws_by, draws_of, holders_in, misses_in}
use Rattle.claims.specs.Views.{worker_view, both_views, draws_in, misses_of}

-- the seat knows what all the seats know but the rest, which are of its table too
pub record IsGathering (table : TableId) (all rest : List SeatValue) (seat_table : TableId) (me : Me ℕ SeatView)
    : Type 0 where
  pub same_table : seat_table ≡ table
  pub no_slot : me.1 ≡ []
  pub parts : me.0.parts + length rest ≡ length all
  pub holders : (place : ℕ) → holders_of place me.0.claims + holders_in place rest ≡ holders_in place all
  pub draws : draws_in me.0 + draws_of rest ≡ draws_of all
  pub misses : length me.0.misses + misses_in rest ≡ misses_in all
  pub ours : All (λ seat. seat.table ≡ table) rest

-- the seat of a worker
pub seat_whole : (inside : seat.Inside) (value : SeatValue) → seat_value inside ≡ value → IsWhole inside
    → inside.seat.me ≡ (worker_view value.setup value.claims value.spent, [])
seat_whole inside value is whole = whole.one ∙ (λ i. (worker_view (is i).setup (is i).claims (is i).spent, []))

-- the seat behind the rest is of the table too
pub last_ours : (table : TableId) (all rest : List SeatValue) (last : SeatValue) → All (λ seat. seat.table ≡ table) all
    → all ≡ rest ++ last ∷ [] → (All (λ seat. seat.table ≡ table) rest) × (last.table ≡ table)
last_ours table all rest last ours is = All-pop (λ seat. seat.table ≡ table) all rest (Some last) is ours

-- a sum over the seats with one behind the rest
sum_last : (f : SeatValue → ℕ) (all rest : List SeatValue) (last : SeatValue) → all ≡ rest ++ last ∷ []
    → sum_by f all ≡ sum_by f rest + f last
sum_last f all rest last is = ap (sum_by f) is ∙ sum_by_push f rest last

-- the last worker's seat is the first to take others in
pub gathered_last : (table : TableId) (all rest : List SeatValue) (last : SeatValue) (inside : seat.Inside)
    → All (λ seat. seat.table ≡ table) all → all ≡ rest ++ last ∷ [] → seat_value inside ≡ last → IsWhole inside
    → IsGathering table all rest inside.seat.table_id inside.seat.me
gathered_last table all rest last inside ours cut is whole =
    let parts = last_ours table all rest last ours cut in
    let one = seat_whole inside last is whole in
    let sum : (f : SeatValue → ℕ) → sum_by f all ≡ sum_by f rest + f last = λ f. sum_last f all rest last cut in
    subst (IsGathering table all rest inside.seat.table_id) (sym one) (record {
      same_table = ap (λ (s : SeatValue). s.table) is ∙ parts.1;
      no_slot = refl;
      parts = omega (arith, ap length cut, length-append rest (last ∷ []));
      holders = λ place. omega (arith, sum (λ seat. holders_of place seat.claims));
      draws = omega (arith, sum draws_by);
      misses = omega (arith, sum (λ seat. length (misses_of seat.spent)));
      ours = parts.0;
    })

-- it takes in the seat before those that it has
pub gathered_more : (table : TableId) (all before rest : List SeatValue) (given : SeatValue) (inside : seat.Inside)
    (seat_table after_table : TableId) (me after : Me ℕ SeatView) → IsGathering table all before seat_table me
    → before ≡ rest ++ given ∷ [] → seat_value inside ≡ given → IsWhole inside → after_table ≡ seat_table
    → after ≡ (both_views me.0 inside.seat.me.0, me.1) → IsGathering table all rest after_table after
gathered_more table all before rest given inside seat_table after_table me after old cut is whole same took =
    let one = ap (λ (m : Me ℕ SeatView). m.0) (seat_whole inside given is whole) in
    let other = worker_view given.setup given.claims given.spent in
    let is_both : after ≡ (both_views me.0 other, me.1) = took ∙ ap (λ (v : SeatView). (both_views me.0 v, me.1)) one in
    let sum : (f : SeatValue → ℕ) → sum_by f before ≡ sum_by f rest + f given = λ f. sum_last f before rest given cut in
    let misses = length-append (misses_of given.spent) me.0.misses in
    subst (IsGathering table all rest after_table) (sym is_both) (record {
      same_table = same ∙ old.same_table;
      no_slot = old.no_slot;
      parts = omega (arith, old.parts, ap length cut, length-append rest (given ∷ []));
      holders = λ place.
          omega (
            arith,
            old.holders place,
            sum (λ seat. holders_of place seat.claims),
            sum_by-append (λ claim. cond (has_place place claim) 1 0) given.claims me.0.claims,
          );
      draws = omega (arith, old.draws, sum draws_by, misses, length-append given.claims me.0.claims);
      misses = omega (arith, old.misses, sum (λ seat. length (misses_of seat.spent)), misses);
      ours = (last_ours table before rest given old.ours cut).0;
    })

-- at the end it knows all
pub gathered_all : (table : TableId) (all rest : List SeatValue) (seat_table : TableId) (me : Me ℕ SeatView)
    → IsGathering table all rest seat_table me → rest ≡ [] → HasGathered all me
gathered_all table all rest seat_table me old none = record {
  parts = omega (arith, old.parts, ap length none);
  holders = λ place. omega (arith, old.holders place, ap (holders_in place) none);
  draws = omega (arith, old.draws, ap draws_of none);
  misses = omega (arith, old.misses, ap misses_in none);
  no_slot = old.no_slot;
}
