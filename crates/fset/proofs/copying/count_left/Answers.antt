use Rattle.std.proofs.Common.{rules, arith}
use Rattle.cells.specs.Tokens.{IsSamePass}
use Rattle.fset.proofs.laws.Taking.{loads_then, one_less}
use Rattle.fset.proofs.copying.count_left.Goals as goal

-- one key more was taken and counted
pub loop-count-preserved : goal.loop-count-preserved
loop-count-preserved g c =
    let left = g.K.KeySource.left in
    let before = c.loop-count.invariant in
    let same : IsSamePass c.args.pass.now c.take_first.new.pass = search rules in
    record {
      same = same;
      knows = c.take_first.ensures.knows;
      counted = omega (
        arith,
        before.counted,
        one_less c.in-Some.field-0 (left c.loop-count.pass.view.known c.loop-count.left)
            (left c.take_first.new.pass.view.known c.take_first.new.self) c.in-Some.ensures.first,
      );
      loads = loads_then c.args.pass.now.view c.loop-count.pass.view c.take_first.new.pass.view before.loads c.take_first.ensures.view;
    }

pub returns-clause-view : goal.returns-clause-view
returns-clause-view g c =
    loads_then c.args.pass.now.view c.loop-count.pass.view c.take_first.new.pass.view c.loop-count.invariant.loads c.take_first.ensures.view
