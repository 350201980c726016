use Rattle.std.proofs.Common.{◌≡◌, flat_map, take}
use Rattle.idfiles.specs.Print.{id_line}
use Rattle.dedup.proofs.output.ids_text.Given as goal

-- the lines of the ids so far
abbrev pub invariant-loop-id : goal.invariant-loop-id
invariant-loop-id l = l.text.items ≡ flat_map id_line (take l.id-index l.ids)
