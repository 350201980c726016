use Rattle.std.proofs.Common.{◌≡◌, ◌+◌, length}
use Rattle.cells.specs.Tokens.{IsSamePass}
use Rattle.fset.specs.Taking.{LoadsNothingNew}
use Rattle.fset.proofs.copying.count_left.Given as goal

-- the keys that were taken are counted
abbrev pub invariant-loop-count : goal.invariant-loop-count
invariant-loop-count g l =
    let left = g.K.KeySource.left in
    record {
      same : IsSamePass l.fn.pass l.pass;
      knows : g.K.KeySource.are_known l.pass.view.known l.left;
      counted : l.count + length (left l.pass.view.known l.left) ≡ length (left l.fn.pass.view.known l.fn.keys);
      loads : LoadsNothingNew l.fn.pass.view l.pass.view;
    }

abbrev pub decreases-loop-count : goal.decreases-loop-count
decreases-loop-count g l = length (g.K.KeySource.left l.pass.view.known l.left)
