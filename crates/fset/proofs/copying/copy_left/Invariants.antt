use Rattle.std.proofs.Common.{◌≡◌, length}
use Rattle.cells.specs.Tokens.{IsSamePass}
use Rattle.fset.proofs.laws.Taking.{CopiesFront}
use Rattle.fset.proofs.copying.copy_left.Given as goal

-- the keys that were taken stand in the block
abbrev pub invariant-loop-key : goal.invariant-loop-key
invariant-loop-key g l =
    let left = g.K.KeySource.left in
    record {
      same : IsSamePass l.fn.pass l.pass;
      block : l.block ≡ l.fn.block;
      knows : g.K.KeySource.are_known l.pass.view.known l.left;
      copies : CopiesFront l.fn.block.at l.place (left l.fn.pass.view.known l.fn.keys) (left l.pass.view.known l.left)
          l.fn.pass.view l.pass.view;
    }

abbrev pub decreases-loop-key : goal.decreases-loop-key
decreases-loop-key g l = length (g.K.KeySource.left l.pass.view.known l.left)
