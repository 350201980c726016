use Rattle.hash_set.specs.Tests.{Keeps}
use Rattle.rounds.proofs.tests.large.call_part.Given as goal

-- the pass is idle, and that of the number
abbrev pub invariant-loop-place : goal.invariant-loop-place
invariant-loop-place l = Keeps l.round l.fn.pass l.pass
