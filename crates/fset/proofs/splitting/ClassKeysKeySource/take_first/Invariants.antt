use Rattle.std.proofs.Common.{◌≡◌, length}
use Rattle.cells.specs.Tokens.{IsSamePass}
use Rattle.fset.specs.Splitting.{TakesFromClass, class_left}
use Rattle.fset.specs.Taking.{LoadsNothingNew, row_left}
use Rattle.fset.proofs.splitting.ClassKeysKeySource.take_first.Given as goal

-- the keys that were passed over are of other classes
abbrev pub invariant-loop-key : goal.invariant-loop-key
invariant-loop-key l = record {
  same : IsSamePass l.fn.pass l.pass;
  knows : TakesFromClass l.pass.view.known l.self;
  left : class_left l.pass.view.known l.self ≡ class_left l.fn.pass.view.known l.fn.self;
  loads : LoadsNothingNew l.fn.pass.view l.pass.view;
}

abbrev pub decreases-loop-key : goal.decreases-loop-key
decreases-loop-key l = length (row_left l.pass.view.known l.self.row)
