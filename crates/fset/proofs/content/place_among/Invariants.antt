use Rattle.std.proofs.Common.{◌≡◌, ◌+◌, drop}
use Rattle.cells.specs.Frames.{after_reads}
use Rattle.cells.specs.Known.{keys_at}
use Rattle.cells.specs.Tokens.{IsSamePass}
use Rattle.step_core.specs.Rising.{place_in}
use Rattle.fset.proofs.content.place_among.Given as goal

-- the keys so far are below the key
abbrev pub invariant-loop-i : goal.invariant-loop-i
invariant-loop-i l = record {
  same : IsSamePass l.fn.pass l.pass;
  view : l.pass.view ≡ after_reads l.i l.fn.pass.view;
  below : place_in (keys_at l.fn.pass.view l.seen.at) l.key ≡ l.i + place_in (drop l.i (keys_at l.fn.pass.view l.seen.at)) l.key;
}
