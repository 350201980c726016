use Rattle.std.proofs.Common.{ap, sym, ◌∙◌, arith}
use Rattle.claims.specs.Tokens.{ClaimsValue}
use Rattle.claims.proofs.LawDealing.{dealt_none, deal_allowed}
use Rattle.claims.proofs.counter.Claims.deal.Goals as goal

-- before the first cut the seat has all parts
pub loop-init : goal.loop-init
loop-init c =
    dealt_none c.args.self.now c.args.seat.table_id c.args.seat.me c.args.dealt.now.items c.requires.seat c.requires.empty

-- the next part may get a seat of its own
pub split_seat-cut-requires : goal.split_seat-cut-requires
split_seat-cut-requires c =
    let inside = c.self.inside in
    let claims = c.args.self.now in
    let seat = c.loop.seat in
    let dealt = c.loop.invariant in
    let seats = ap (λ (v : ClaimsValue). v.setup.seats) c.self.view_is in (
      dealt.same_table ∙ ap (λ (v : ClaimsValue). v.table) (sym c.self.view_is),
      omega (arith, c.self.invariant.words),
      deal_allowed inside.table.shared.key claims c.loop.counter seat.id seat.me dealt.seat
          (omega (arith, seats, c.loop-test.true)),
    )
