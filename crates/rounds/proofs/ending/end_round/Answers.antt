use Rattle.std.proofs.Common.{map, subst}
use Rattle.rounds.specs.Closings.{ClosingValue, Closes, account_of}
use Rattle.rounds.specs.Halts.{HaltedValue}
use Rattle.rounds.specs.Modeled.{halted_value}
use Rattle.rounds.proofs.laws.Ending.{closes}
use Rattle.rounds.proofs.ending.end_round.Goals as goal

pub returns-clause-answer : goal.returns-clause-answer
returns-clause-answer c =
    let inside = c.halted.inside in
    let closing : ClosingValue = record {
      keys = c.in-Ok.keys.items;
      exponent = c.exponent_of-exponent.result;
      next = c.word-next.result;
      front = inside.front;
      accounts = map account_of inside.accounts.items;
    } in
    subst (λ (halted : HaltedValue). Closes halted closing) c.halted.view_is
    (closes (halted_value inside) closing.keys closing.exponent closing.next c.halted.invariant.ends c.halted.invariant.all.ours
    c.halted.invariant.numbered
    c.halted.invariant.at_rest c.in-Ok.ensures.members c.in-Ok.ensures.rising c.exponent_of-exponent.ensures.exponent c.word-next.ensures)
