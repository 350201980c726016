use Rattle.std.proofs.Common.{◌≡◌, flat_map, take}
use Rattle.dedup.specs.Output.{kept_line}
use Rattle.dedup.proofs.output.kept_text.Given as goal

-- the lines of the records so far
abbrev pub invariant-loop-record : goal.invariant-loop-record
invariant-loop-record l = l.text.items ≡ flat_map kept_line (take l.record-index l.kept)
