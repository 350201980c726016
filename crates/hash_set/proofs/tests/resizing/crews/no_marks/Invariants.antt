use Rattle.std.proofs.Common.{◌≡◌, length}
use Rattle.hash_set.proofs.tests.resizing.crews.no_marks.Given as goal

-- so many marks are made
abbrev pub invariant-loop-made : goal.invariant-loop-made
invariant-loop-made l = length l.marks.items ≡ l.made
