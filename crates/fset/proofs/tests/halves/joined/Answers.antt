use Rattle.fset.proofs.laws.Reading.{seen_stays}
use Rattle.fset.proofs.tests.halves.joined.Goals as goal

-- the first row is still as it was read
pub build_joined-requires-clause-low : goal.build_joined-requires-clause-low
build_joined-requires-clause-low c =
    let spends = c.in-Found-seek.ensures.answer.under_way.spends in
    seen_stays spends.learned spends.grows.fixed.0 c.seek.new.pass.view c.seek-2.new.pass.view
    c.in-Found.first.row c.sound.ensures.view spends.grows.known spends.grows.fixed.1 c.in-Found.ensures.answer.under_way.seen
