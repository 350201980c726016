use Rattle.std.proofs.Common.{rules, ap, ◌∙◌}
use Rattle.cells.specs.Seats.{facts_of}
use Rattle.cells.specs.Tokens.{PassValue}
use Rattle.cells.proofs.keeps.Seats.{gather_keeps}
use Rattle.cells.proofs.laws.Gathering.{gathered_last, gathered_more, all_begun, last_ours, seat_whole}
use Rattle.cells.proofs.ending.gathered.Goals as goal

-- the last pass's table seat is the first to take others in
pub loop-pass-init : goal.loop-pass-init
loop-pass-init c =
    gathered_last c.args.table.now.shared.table_id c.args.passes.items c.pop.new.self.items c.in-Some.last c.last.inside
    c.requires.ours c.in-Some.ensures.items c.last.view_is c.last.invariant

-- it may take in the next pass's
pub join_seat-requires : goal.join_seat-requires
join_seat-requires c =
    let shared = c.args.table.now.shared in
    let old = c.loop-pass.seat in
    let other = c.pass.inside.seat in
    let before = c.loop-pass.passes.items in
    let rest = c.pop-in-loop-pass.new.self.items in
    let pass = c.in-Some-pop.pass in
    let gathered = c.loop-pass.invariant in (
      gathered.same_table,
      ap (λ (p : PassValue). p.table) c.pass.view_is
          ∙ (last_ours shared.table_id before rest pass gathered.ours c.in-Some-pop.ensures.items).1,
      ap (λ (m : _). m.1) (seat_whole c.pass.inside pass c.pass.view_is c.pass.invariant),
      c.requires.word,
      gather_keeps (facts_of shared.key) old.id old.me.0 other.id other.me.0,
    )

-- which it then has
pub loop-pass-preserved : goal.loop-pass-preserved
loop-pass-preserved c =
    let joined = c.join_seat.ensures in
    gathered_more c.args.table.now.shared.table_id c.args.passes.items c.loop-pass.passes.items
    c.pop-in-loop-pass.new.self.items c.in-Some-pop.pass c.pass.inside c.loop-pass.seat.table_id
    c.join_seat.new.seat.table_id c.loop-pass.seat.me c.join_seat.new.seat.me c.loop-pass.invariant
    c.in-Some-pop.ensures.items c.pass.view_is c.pass.invariant joined.0 joined.2

-- each pass has begun the calls of its entries
pub returns-clause-serials : goal.returns-clause-serials
returns-clause-serials c =
    all_begun c.args.table.now.shared.table_id c.args.passes.items c.loop-pass.passes.items c.loop-pass.seat.table_id c.loop-pass.seat.me
    c.loop-pass.invariant (search rules)
