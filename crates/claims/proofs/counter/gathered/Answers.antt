use Rattle.std.proofs.Common.{ap, ◌∙◌}
use Rattle.claims.specs.Tokens.{SeatValue}
use Rattle.claims.proofs.KeepsSeats.{gather_keeps}
use Rattle.claims.proofs.LawGathering.{gathered_last, gathered_more, last_ours, seat_whole}
use Rattle.claims.proofs.counter.gathered.Goals as goal

-- the last worker's seat is the first to take others in
pub loop-next-init : goal.loop-next-init
loop-next-init c =
    gathered_last c.args.table.now.shared.table_id c.args.seats.items c.pop.new.self.items c.in-Some.last c.last.inside
    c.requires.ours c.in-Some.ensures.items c.last.view_is c.last.invariant

-- it may take in the next one
pub join_seat-requires : goal.join_seat-requires
join_seat-requires c =
    let shared = c.args.table.now.shared in
    let old = c.loop-next.seat in
    let other = c.next.inside.seat in
    let before = c.loop-next.seats.items in
    let rest = c.pop-in-loop-next.new.self.items in
    let next = c.in-Some-pop.next in
    let gathering = c.loop-next.invariant in (
      gathering.same_table,
      ap (λ (s : SeatValue). s.table) c.next.view_is
          ∙ (last_ours shared.table_id before rest next gathering.ours c.in-Some-pop.ensures.items).1,
      ap (λ (m : _). m.1) (seat_whole c.next.inside next c.next.view_is c.next.invariant),
      c.requires.word,
      gather_keeps shared.key old.id old.me.0 other.id other.me.0,
    )

-- which it then has
pub loop-next-preserved : goal.loop-next-preserved
loop-next-preserved c =
    let joined = c.join_seat.ensures in
    gathered_more c.args.table.now.shared.table_id c.args.seats.items c.loop-next.seats.items
    c.pop-in-loop-next.new.self.items c.in-Some-pop.next c.next.inside c.loop-next.seat.table_id
    c.join_seat.new.seat.table_id c.loop-next.seat.me c.join_seat.new.seat.me c.loop-next.invariant
    c.in-Some-pop.ensures.items c.next.view_is c.next.invariant joined.0 joined.2
