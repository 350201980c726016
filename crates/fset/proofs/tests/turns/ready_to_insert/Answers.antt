use Rattle.std.proofs.Common.{not, ap}
use Rattle.set_model.specs.declared.call.Call.TheVariants.{Insert}
use Rattle.cells.specs.Known.{keys_at}
use Rattle.fset.specs.Content.{loads_to_find}
use Rattle.fset.proofs.laws.Turning.{is_seen_still, may_exchange}
use Rattle.fset.proofs.tests.turns.ready_to_insert.Goals as goal

-- the row is still as it was read
pub build_at-requires-clause-knows : goal.build_at-requires-clause-knows
build_at-requires-clause-knows c =
    let v0 = c.args.pass.now.view in
    let v1 = c.seek.new.pass.view in
    let v2 = c.place_among-place.new.pass.view in
    let sought = c.in-Found.sought in
    let place = c.place_among-place in
    let loads = loads_to_find (keys_at v1 sought.row.at) c.args.key in
    is_seen_still c.args.key Insert v0 v1 v2 sought c.in-Found.ensures.answer loads place.ensures.view c.sound.ensures.view
    place.result.taken place.ensures.taken (λ e. absurd (cc))

-- the exchange may be made
pub returns-clause-ready : goal.returns-clause-ready
returns-clause-ready c =
    let v0 = c.args.pass.now.view in
    let v1 = c.seek.new.pass.view in
    let v2 = c.place_among-place.new.pass.view in
    let sought = c.in-Found.sought in
    let place = c.place_among-place in
    let loads = loads_to_find (keys_at v1 sought.row.at) c.args.key in
    may_exchange c.args.key Insert v0 v1 v2 sought c.in-Found.ensures.answer loads place.ensures.view c.sound.ensures.view
    place.result.taken place.ensures.taken (λ e. absurd (cc)) (ap not c.if-place.false) c.in-Ok.block
    c.build_at.new.pass.view c.in-Ok.ensures.answer c.sound-2.ensures.view c.requires.idle
