use Rattle.std.proofs.Common.{◌≡◌, length, ◌-◌, ◌≤◌, take}
use Rattle.std.specs.Io.KnownBytes.{Appends}
use Rattle.outside.proofs.whole.write_whole.Given as goal

-- the front of the bytes was appended, and no fault was counted
abbrev pub invariant-loop-taken : goal.invariant-loop-taken
invariant-loop-taken g l =
    let written = g.O.Sink.written in
    let faults = g.O.Sink.faults in
    record {
      within : l.taken ≤ length l.bytes;
      appended : Appends (written l.fn.out) (written l.out) (take l.taken l.bytes);
      kept : faults l.out ≡ faults l.fn.out;
    }

abbrev pub decreases-loop-taken : goal.decreases-loop-taken
decreases-loop-taken g l = length l.bytes - l.taken
