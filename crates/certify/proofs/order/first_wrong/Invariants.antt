use Rattle.std.proofs.Common.{◌≡◌, take, length}
use Rattle.certify.specs.Order.{AreFine}
use Rattle.certify.specs.Judging.{HasJudged}
use Rattle.certify.proofs.order.first_wrong.Given as goal

-- nothing was wrong at the places so far, and what is kept is that of their numbers
abbrev pub invariant-loop-index : goal.invariant-loop-index
invariant-loop-index l = record {
  fine : AreFine l.calls l.order l.index;
  kept : HasJudged l.calls (take l.index l.order) l.seen.items l.members;
  size : length l.seen.items ≡ length l.calls;
}
