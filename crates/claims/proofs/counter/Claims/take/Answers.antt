use Rattle.std.proofs.Common.{◌≡◌, rules, sym, arith, ℕ, Option, None, subst}
use mathlib.Core.Option.{none}
use Rattle.atomic_table.specs.Table.{step}
use Rattle.claims.specs.Modeled.{IsWhole}
use Rattle.claims.proofs.LawTakes.{take_allows, worker_is, found_whole}
use Rattle.claims.proofs.counter.Claims.take.Goals as goal

-- whatever the table is, a seat that isn't spent may draw
pub fetch_add-place-requires : goal.fetch_add-place-requires
fetch_add-place-requires c =
    let table = c.self.inside.table.shared in
    let setup = c.self.inside.setup in
    let seat = c.seat.inside.seat in
    let unspent : c.seat.inside.spent ≡ None = search rules in
    let same : seat.me.0.setup ≡ setup = search rules in (
      search rules,
      omega (arith, c.self.invariant.words),
      take_allows table.key setup table.table_id.slots seat.id seat.me seat.me.0.claims
          (step table.table_id.slots 0 setup.chunk 0 none) c.self.invariant.key
          (worker_is c.seat.inside setup None c.seat.invariant same unspent),
    )

-- the seat is whole with one claim more
pub invariant_of-seat : goal.invariant_of-seat
invariant_of-seat c =
    let setup = c.self.inside.setup in
    let seat = c.seat.inside.seat in
    let unspent : c.seat.inside.spent ≡ None = search rules in
    let same : seat.me.0.setup ≡ setup = search rules in
    subst (λ (spent : Option ℕ). IsWhole (record { seat = c.fetch_add-place.new.seat; spent = spent })) (sym unspent)
    (found_whole c.seat.inside setup c.fetch_add-place.new.seat c.fetch_add-place.result _ c.seat.invariant same unspent
    c.fetch_add-place.ensures.2 c.if-place-len.true)
