use Rattle.std.proofs.Common.{◌≡◌, true, take}
use Rattle.std.specs.List.{list_all}
use Rattle.idfiles.specs.Kinds.{is_of}
use Rattle.idfiles.proofs.front.leading_bytes.Given as goal

-- the bytes so far are of the kind
abbrev pub invariant-loop-count : goal.invariant-loop-count
invariant-loop-count l = list_all (is_of l.kind) (take l.count l.bytes) ≡ true
