use Rattle.std.proofs.Common.{◌≡◌, true, take}
use Rattle.std.specs.List.{list_all}
use Rattle.certify.proofs.LawLines.{is_inner}
use Rattle.certify.proofs.log.first_line.Given as goal

-- no LF stands among the bytes so far
abbrev pub invariant-loop-at : goal.invariant-loop-at
invariant-loop-at l = list_all is_inner (take l.at l.bytes) ≡ true
