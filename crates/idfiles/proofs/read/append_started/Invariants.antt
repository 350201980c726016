use Rattle.std.proofs.Common.{◌≡◌, ◌+◌, ◌≤◌, ℕ, List}
use Rattle.std.specs.Io.KnownBytes.{Consumes}
use mathlib.Core.List.{IsPrefix}
use Rattle.idfiles.specs.declared.fault.TheConstants.{MAX_BYTES}
use Rattle.idfiles.proofs.LoopRead.{HasRead}
use Rattle.idfiles.proofs.read.append_started.Given as goal

-- some bytes were taken and read without a fault
abbrev pub invariant-pieces : goal.invariant-pieces
invariant-pieces g l =
    let left = g.I.Inputs.left in
    let faults = g.I.Inputs.faults in
    let files = g.I.Inputs.files in
    record {
      read : (bytes : List ℕ) × Consumes (left l.fn.inputs) (left l.inputs) bytes
          × HasRead MAX_BYTES l.fn.file l.fn.room l.fn.records.items bytes l.left l.scan l.records.items;
      front : IsPrefix l.fn.records.items l.records.items;
      line : l.scan.line + l.left ≤ MAX_BYTES + 1;
      kept : faults l.inputs ≡ faults l.fn.inputs;
      files : files l.inputs ≡ files l.fn.inputs;
    }

abbrev pub decreases-pieces : goal.decreases-pieces
decreases-pieces g l = l.left
