-- The first seat at the table is dealt out, one part after the other.
use Rattle.std.proofs.Common.{◌≡◌, ℕ, ◌+◌, ◌-◌, ◌<◌, List, [], ◌∷◌, ◌++◌, sym, ap, ◌∙◌, subst, arith, None, replicate}
use Rattle.std.proofs.lemmas.List.{replicate_more}
use Rattle.atomic_table.specs.Seated.{TableId}
use Rattle.atomic_table.specs.Table.{Me, Splits}
use Rattle.claims.specs.declared.rule.SeatView.{SeatView}
use Rattle.claims.specs.declared.rule.Setup.{Setup}
use Rattle.claims.specs.declared.seat.ClaimSeat.TheInside as seat
use Rattle.claims.specs.Divided.{Divides}
use Rattle.claims.specs.Gathering.{HasAllParts}
use Rattle.claims.specs.Modeled.{IsWhole}
use Rattle.claims.specs.Places.{EndsLone}
use Rattle.claims.specs.Tokens.{ClaimsValue, SeatValue, fresh_seat}
use Rattle.claims.specs.Views.{parts_view, part_view, rest_view, worker_view}
use Rattle.claims.proofs.KeepsSeats.{cut_keeps}

-- so many seats are dealt, and the first seat has the other parts
pub record IsDealt (claims : ClaimsValue) (count : ℕ) (table : TableId) (me : Me ℕ SeatView) (dealt : List SeatValue)
    : Type 0 where
  pub same_table : table ≡ claims.table
  pub seat : me ≡ (parts_view claims.setup (claims.setup.seats - count), [])
  pub dealt_are : dealt ≡ replicate count (fresh_seat claims)

-- before the first cut
pub dealt_none : (claims : ClaimsValue) (table : TableId) (me : Me ℕ SeatView) (dealt : List SeatValue)
    → HasAllParts claims table me → dealt ≡ [] → IsDealt claims 0 table me dealt
dealt_none claims table me dealt first empty = record {
  same_table = first.same_table;
  seat = first.seat ∙ ap (λ (n : ℕ). (parts_view claims.setup n, [])) (omega arith);
  dealt_are = empty;
}

-- one part may be cut off
pub deal_allowed : (key : Setup) (claims : ClaimsValue) (count id : ℕ) (me : Me ℕ SeatView)
    → me ≡ (parts_view claims.setup (claims.setup.seats - count), []) → count < claims.setup.seats
    → Splits (Divides key) id me.0 (rest_view me.0) (part_view me.0)
deal_allowed key claims count id me is lt =
    cut_keeps key id me.0 (omega (arith, ap (λ (m : Me ℕ SeatView). m.0.parts) is))
    (ap (λ (m : Me ℕ SeatView). m.0.claims) is) (ap (λ (m : Me ℕ SeatView). m.0.misses) is)

-- the seat that has it is whole
pub fresh_whole : (inside : seat.Inside) (view : SeatView) → inside.seat.me ≡ (part_view view, []) → inside.spent ≡ None
    → IsWhole inside
fresh_whole inside view is unspent =
    let Lone : Me ℕ SeatView → Type 0 = λ me. EndsLone me.0.setup me.0.claims in
    record {
      one = is ∙ (λ i. (worker_view (sym is i).0.setup (sym is i).0.claims (sym unspent i), []));
      lone = subst Lone (sym is) (λ one. omega arith);
    }

-- one seat more is dealt
pub dealt_more : (claims : ClaimsValue) (count : ℕ) (table after : TableId) (me new : Me ℕ SeatView)
    (dealt more : List SeatValue) (given : SeatValue) → count < claims.setup.seats → IsDealt claims count table me dealt
    → after ≡ table → new ≡ (rest_view me.0, me.1) → more ≡ dealt ++ given ∷ []
    → given ≡ record { table = table; setup = me.0.setup; claims = []; spent = None }
    → IsDealt claims (count + 1) after new more
dealt_more claims count table after me new dealt more given lt old same_table is pushed given_is = record {
  same_table = same_table ∙ old.same_table;
  seat = is
      ∙ ap (λ (m : Me ℕ SeatView). (rest_view m.0, m.1)) old.seat
      ∙ ap (λ (n : ℕ). (parts_view claims.setup n, [])) (omega arith);
  dealt_are = pushed
      ∙ (λ i. old.dealt_are i
      ++ (given_is ∙ (λ j. record { table = old.same_table j; setup = (old.seat j).0.setup; claims = []; spent = None })) i
      ∷ [])
      ∙ replicate_more count (fresh_seat claims);
}

-- all of them
pub dealt_all : (claims : ClaimsValue) (count : ℕ) (table : TableId) (me : Me ℕ SeatView) (dealt : List SeatValue)
    → count ≡ claims.setup.seats → IsDealt claims count table me dealt
    → dealt ≡ replicate claims.setup.seats (fresh_seat claims)
dealt_all claims count table me dealt all old =
    old.dealt_are ∙ ap (λ (n : ℕ). replicate n (fresh_seat claims)) all
