use Rattle.std.proofs.Common.{◌≡◌, true, take}
use Rattle.std.specs.List.{list_all}
use Rattle.certify.proofs.LawTrim.{is_other}
use Rattle.certify.proofs.line.split_once.Given as goal

-- no space stands among the bytes so far
abbrev pub invariant-loop-at : goal.invariant-loop-at
invariant-loop-at l = list_all is_other (take l.at l.text) ≡ true
