use Rattle.std.proofs.Common.{◌≡◌, ◌-◌, ◌≤◌, slice_range}
use Rattle.cells.specs.Frames.{after_reads}
use Rattle.cells.specs.Known.{keys_at}
use Rattle.cells.specs.Steps.{Writes}
use Rattle.cells.specs.Tokens.{IsSamePass}
use Rattle.fset.proofs.rows.copy_keys.Given as goal

-- the keys so far stand in the block
abbrev pub invariant-loop-i : goal.invariant-loop-i
invariant-loop-i l = record {
  same : IsSamePass l.fn.pass l.pass;
  block : l.block ≡ l.fn.block;
  begun : l.from ≤ l.i;
  writes : Writes l.fn.block.at l.offset (slice_range (keys_at l.fn.pass.view l.row) l.from l.i)
      (after_reads (l.i - l.from) l.fn.pass.view) l.pass.view;
}
