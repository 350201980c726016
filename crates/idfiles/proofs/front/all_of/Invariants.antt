use Rattle.std.proofs.Common.{◌≡◌, take}
use Rattle.std.specs.List.{list_all}
use Rattle.idfiles.specs.Kinds.{is_of}
use Rattle.idfiles.proofs.front.all_of.Given as goal

-- the bytes so far were judged
abbrev pub invariant-loop-byte : goal.invariant-loop-byte
invariant-loop-byte l = l.all ≡ list_all (is_of l.kind) (take l.byte-index l.block)
