use Rattle.std.proofs.Common.{◌≡◌, ◌≤◌, length, take}
use Rattle.certify.specs.Trim as spec
use Rattle.certify.proofs.trim.before_blanks.Given as goal

-- the bytes from `end` on are blanks
abbrev pub invariant-loop-end : goal.invariant-loop-end
invariant-loop-end l = record {
  within : l.end ≤ length l.text;
  same : spec.before_blanks l.text ≡ spec.before_blanks (take l.end l.text);
}

abbrev pub decreases-loop-end : goal.decreases-loop-end
decreases-loop-end l = l.end
