use Rattle.std.proofs.Common.{◌≡◌, drop}
use Rattle.certify.specs.Trim as spec
use Rattle.certify.proofs.trim.behind_blanks.Given as goal

-- the bytes so far are blanks
abbrev pub invariant-loop-count : goal.invariant-loop-count
invariant-loop-count l = spec.behind_blanks l.text ≡ spec.behind_blanks (drop l.count l.text)
