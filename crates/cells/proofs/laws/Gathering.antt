-- One table seat takes in the passes of a round one after the other, from the last to the first.
use Rattle.std.proofs.Common.{◌≡◌, ℕ, List, [], ◌∷◌, ◌++◌, map, sym, ap, ◌∙◌, subst, Some, All, append_assoc}
use Rattle.std.proofs.lemmas.List.Elements.{All-cons, All-nil, All-pop}
use Rattle.atomic_table.specs.Table.{Me}
use Rattle.atomic_table.specs.Seated.{TableId}
use Rattle.step_core.specs.declared.views.PassView.{PassView}
use Rattle.cells.specs.Modeled.{IsWhole, pass_value}
use Rattle.cells.specs.Seats.{gathered_seat, pass_seat}
use Rattle.cells.specs.Tokens.{PassValue, HasBegunCalls}
use Rattle.cells.specs.declared.pass.Pass.TheInside as pass
use Rattle.cells.specs.declared.rule.SeatView.{SeatView}

-- the views of passes
abbrev pub views_of : List PassValue → List PassView
views_of passes = map (λ pass. pass.view) passes

-- the table seat has taken in the passes behind the rest, which are of its table too
pub record IsGathered (table : TableId) (all rest : List PassValue) (seat_table : TableId) (me : Me ℕ SeatView)
    : Type 0 where
  pub same_table : seat_table ≡ table
  pub taken : List PassValue
  pub seat : me ≡ (gathered_seat (views_of taken), [])
  pub passes_are : all ≡ rest ++ taken
  pub begun : All HasBegunCalls taken
  pub ours : All (λ pass. pass.table ≡ table) rest

-- a pass has begun the calls of its entries
begun_calls : (inside : pass.Inside) (value : PassValue) → pass_value inside ≡ value → IsWhole inside → HasBegunCalls value
begun_calls inside value is whole = subst HasBegunCalls is whole.serials

-- the table seat of a pass
pub seat_whole : (inside : pass.Inside) (value : PassValue) → pass_value inside ≡ value → IsWhole inside
    → inside.seat.me ≡ (pass_seat value.view, [])
seat_whole inside value is whole = whole.one ∙ (λ i. (pass_seat (is i).view, []))

-- the pass behind the rest is of the table too
pub last_ours : (table : TableId) (all rest : List PassValue) (last : PassValue) → All (λ pass. pass.table ≡ table) all
    → all ≡ rest ++ last ∷ [] → (All (λ pass. pass.table ≡ table) rest) × (last.table ≡ table)
last_ours table all rest last ours is = All-pop (λ pass. pass.table ≡ table) all rest (Some last) is ours

-- the table seat of the last pass is the first to take others in
pub gathered_last : (table : TableId) (all rest : List PassValue) (last : PassValue) (inside : pass.Inside)
    → All (λ pass. pass.table ≡ table) all → all ≡ rest ++ last ∷ [] → pass_value inside ≡ last → IsWhole inside
    → IsGathered table all rest inside.seat.table_id inside.seat.me
gathered_last table all rest last inside ours cut is whole =
    let parts = last_ours table all rest last ours cut in
    record {
      same_table = ap (λ (p : PassValue). p.table) is ∙ parts.1;
      taken = last ∷ [];
      seat = seat_whole inside last is whole;
      passes_are = cut;
      begun = All-cons HasBegunCalls last [] (begun_calls inside last is whole) (All-nil HasBegunCalls);
      ours = parts.0;
    }

-- it takes in the pass before those that it has
pub gathered_more : (table : TableId) (all before rest : List PassValue) (given : PassValue) (inside : pass.Inside)
    (seat_table after_table : TableId) (me after : Me ℕ SeatView) → IsGathered table all before seat_table me
    → before ≡ rest ++ given ∷ [] → pass_value inside ≡ given → IsWhole inside → after_table ≡ seat_table
    → after ≡ (record { front = me.0.front; rights = inside.seat.me.0.rights ++ me.0.rights }, me.1)
    → IsGathered table all rest after_table after
gathered_more table all before rest given inside seat_table after_table me after old cut is whole same took =
    let one = seat_whole inside given is whole in
    record {
      same_table = same ∙ old.same_table;
      taken = given ∷ old.taken;
      seat = took ∙ (λ i. (
        record { front = (old.seat i).0.front; rights = (one i).0.rights ++ (old.seat i).0.rights },
        (old.seat i).1,
      ));
      passes_are = old.passes_are
          ∙ ap (λ (list : List PassValue). list ++ old.taken) cut
          ∙ append_assoc rest (given ∷ []) old.taken;
      begun = All-cons HasBegunCalls given old.taken (begun_calls inside given is whole) old.begun;
      ours = (last_ours table before rest given old.ours cut).0;
    }

-- at the end it has all
pub gathered_all : (table : TableId) (all rest : List PassValue) (seat_table : TableId) (me : Me ℕ SeatView)
    → IsGathered table all rest seat_table me → rest ≡ [] → me ≡ (gathered_seat (views_of all), [])
gathered_all table all rest seat_table me gathered none =
    gathered.seat
    ∙ (λ i. (gathered_seat (views_of (sym (gathered.passes_are ∙ ap (λ (list : List PassValue). list ++ gathered.taken) none) i)), []))

-- and each has begun the calls of its entries
pub all_begun : (table : TableId) (all rest : List PassValue) (seat_table : TableId) (me : Me ℕ SeatView)
    → IsGathered table all rest seat_table me → rest ≡ [] → All HasBegunCalls all
all_begun table all rest seat_table me gathered none =
    subst (All HasBegunCalls) (sym (gathered.passes_are ∙ ap (λ (list : List PassValue). list ++ gathered.taken) none)) gathered.begun
