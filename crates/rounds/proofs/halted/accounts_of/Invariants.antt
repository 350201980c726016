use Rattle.std.proofs.Common.{◌≡◌, take}
use Rattle.rounds.proofs.halted.accounts_of.Given as goal

-- the accounts so far are those of the passes so far
abbrev pub invariant-loop-pass : goal.invariant-loop-pass
invariant-loop-pass l = l.accounts.items ≡ take l.pass-index l.passes
