use Rattle.cells.specs.Tokens.{IsSamePass}
use Rattle.hash_set.specs.Tests.{KeepEach}
use Rattle.hash_set.proofs.tests.resizing.stale.look_often.Given as goal

-- the reader is the same pass, and the others are idle, each with its number
abbrev pub invariant-loop-look : goal.invariant-loop-look
invariant-loop-look l = record {
  reader : IsSamePass l.fn.reader l.reader;
  others : KeepEach l.round l.fn.others l.others;
}
