use Rattle.std.proofs.Common.{[], ◌<◌, ap, sym, ◌∙◌, refl, arith}
use Rattle.cells.specs.Seats.{facts_of, fresh_of, pass_seat, pass_of}
use Rattle.cells.specs.Tokens.{RoundValue}
use Rattle.cells.proofs.laws.Cutting.{cut_none, cut_allowed, cut_pass, cut_more, cut_all, fresh_whole, round_seats, round_small, round_word}
use Rattle.cells.proofs.opening.cut_passes.Goals as goal

-- before the first cut the table seat has all passes
pub loop-number-init : goal.loop-number-init
loop-number-init c =
    cut_none c.args.round.now c.args.seat.table_id c.args.seat.me c.args.passes.now.items c.requires.seat c.requires.empty

-- the next pass may get a table seat of its own
pub split_seat-cut-requires : goal.split_seat-cut-requires
split_seat-cut-requires c =
    let inside = c.round.inside in
    let seat = c.loop-number.seat in
    let cut = c.loop-number.invariant in
    let seats = round_seats inside c.args.round.now c.round.view_is c.round.invariant in (
      cut.same_table ∙ ap (λ (v : RoundValue). v.table) (sym c.round.view_is),
      round_word inside c.round.invariant,
      cut_allowed (facts_of inside.table.shared.key) c.args.round.now c.loop-number.number seat.id seat.me cut.seat
          (omega (arith, seats, c.loop-number-test.true)),
    )

-- its token is whole
pub invariant_of-push : goal.invariant_of-push
invariant_of-push c =
    let round = c.args.round.now in
    let number = c.loop-number.number in
    let cut = c.loop-number.invariant in
    let seats = round_seats c.round.inside round c.round.view_is c.round.invariant in
    let lt : number < round.facts.seats = omega (arith, seats, c.loop-number-test.true) in
    let same = cut_pass round number c.loop-number.seat.me cut.seat lt in
    fresh_whole round.facts number _ (round_small c.round.inside round c.round.view_is c.round.invariant) lt
    (c.split_seat-cut.ensures.4 ∙ (λ i. (pass_seat (fresh_of (same i)), []))) refl refl

-- one pass more has its table seat
pub loop-number-preserved : goal.loop-number-preserved
loop-number-preserved c =
    let round = c.args.round.now in
    let old = c.loop-number.seat in
    let cut = c.split_seat-cut.ensures in
    let seats = round_seats c.round.inside round c.round.view_is c.round.invariant in
    cut_more round c.loop-number.number old.table_id c.split_seat-cut.new.seat.table_id old.me c.split_seat-cut.new.seat.me
    c.loop-number.passes.items c.push.new.self.items _ (omega (arith, seats, c.loop-number-test.true))
    c.loop-number.invariant cut.0 cut.2 c.in_ok-push.ensures.items
    (λ i. record { table = cut.3 i; view = pass_of (cut.4 i).0; calls = 0 })

-- at the end all have
pub returns : goal.returns
returns c =
    let seats = round_seats c.round.inside c.args.round.now c.round.view_is c.round.invariant in
    cut_all c.args.round.now c.loop-number.number c.loop-number.seat.table_id c.loop-number.seat.me c.loop-number.passes.items
    (omega (arith, seats, c.loop-number-test.false, c.loop-number.auto.number-end)) c.loop-number.invariant
