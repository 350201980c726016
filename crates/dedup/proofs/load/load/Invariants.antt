use Rattle.std.proofs.Common.{◌≡◌, map}
use Rattle.dedup.specs.Inputs.{HasLoaded}
use Rattle.dedup.proofs.load.load.Given as goal

-- the files so far are loaded, and no fault was counted
abbrev pub invariant-loop-place : goal.invariant-loop-place
invariant-loop-place g l =
    let files = g.I.Inputs.files in
    let faults = g.I.Inputs.faults in
    record {
      loaded : HasLoaded (files l.fn.inputs) (map (λ name. name.now) l.names) l.place l.records.items;
      kept : faults l.inputs ≡ faults l.fn.inputs;
      files : files l.inputs ≡ files l.fn.inputs;
    }
