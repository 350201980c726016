use Rattle.std.proofs.Common.{◌≡◌, ◌++◌, ◌-◌}
use Rattle.std.specs.List.{range_with_len}
use Rattle.claims.proofs.tests.worker.do_places.Given as goal

-- the places before this one are done
abbrev pub invariant-loop-place : goal.invariant-loop-place
invariant-loop-place l = l.done.items ≡ l.initial.done.items ++ range_with_len l.fn.claim.from (l.place - l.fn.claim.from)
