use Rattle.std.proofs.Common.{◌≡◌, ◌-◌, ◌≤◌, vec_len}
use Rattle.std.specs.Io.KnownBytes.{Consumes}
use Rattle.certify.specs.declared.fault.TheConstants.{MAX_BYTES}
use Rattle.certify.proofs.read.read_started.Given as goal

-- the bytes so far were taken, and no more than may be
abbrev pub invariant-pieces : goal.invariant-pieces
invariant-pieces g l =
    let left = g.I.Inputs.left in
    let faults = g.I.Inputs.faults in
    record {
      taken : Consumes (left l.fn.inputs) (left l.inputs) l.bytes.items;
      short : vec_len l.bytes ≤ MAX_BYTES;
      kept : faults l.inputs ≡ faults l.fn.inputs;
    }

abbrev pub decreases-pieces : goal.decreases-pieces
decreases-pieces g l = MAX_BYTES - vec_len l.bytes
