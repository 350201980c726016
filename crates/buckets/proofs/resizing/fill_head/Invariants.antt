use Rattle.std.proofs.Common.{false}
use Rattle.cells.specs.Tokens.{IsSamePass}
use Rattle.buckets.specs.Alone.{FillsFirstAlone}
use Rattle.buckets.specs.Filling.{FillsFirst}
use Rattle.buckets.proofs.resizing.fill_head.Given as goal

-- the buckets so far are known not to be nil, and were filled as the ledger of the only pass says
abbrev pub invariant-loop-bucket : goal.invariant-loop-bucket
invariant-loop-bucket l = record {
  same : IsSamePass l.fn.pass l.pass;
  first : FillsFirst l.head.at l.head.exponent l.bucket l.fn.pass.view l.pass.view;
  alone : FillsFirstAlone l.head.at l.bucket false l.fn.pass.view l.pass.view;
}
