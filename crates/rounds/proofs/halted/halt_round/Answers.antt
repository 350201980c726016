use Rattle.std.proofs.Common.{List, subst, sym}
use Rattle.cells.specs.Ends.{AreAllPasses, EndsRound}
use Rattle.cells.specs.Tokens.{PassValue, RoundValue}
use Rattle.rounds.specs.Halts.{AreNumbered, ByNumber}
use Rattle.rounds.proofs.laws.Halting.{all_ordered, ends_ordered, rest_ordered, numbered_ordered}
use Rattle.rounds.proofs.halted.halt_round.Goals as goal

-- the passes as they are handed over, and in the order of their numbers
by_number : (c : goal.In-Ok-into_words) → ByNumber c.args.passes.items c.in-Ok.accounts.items
by_number c =
    subst (λ (list : List PassValue). ByNumber list c.in-Ok.accounts.items) c.as_slice.ensures.value c.in-Ok.ensures

pub invariant_of-result : goal.invariant_of-result
invariant_of-result c =
    let round = c.args.round in
    let passes = c.args.passes.items in
    let ordered = c.in-Ok.accounts.items in
    let kept = sym c.of-halted.ensures in
    let end = c.in-Ok-into_words in
    let by_number = by_number c in
    let all = c.requires.passes in
    record {
      all = subst (λ (round : RoundValue). AreAllPasses round ordered) kept (all_ordered round passes ordered by_number all);
      numbered = subst (λ (round : RoundValue). AreNumbered round ordered) kept (numbered_ordered round passes ordered by_number all);
      at_rest = rest_ordered round passes ordered by_number all c.requires.at_rest;
      ends = subst (λ (round : RoundValue). EndsRound round.facts ordered end.words end.front) kept
          (ends_ordered round passes ordered by_number all end.words end.front end.ensures.answer);
    }

pub returns-in-Ok-into_words-clause-answer : goal.returns-in-Ok-into_words-clause-answer
returns-in-Ok-into_words-clause-answer c =
    record {
      round = c.of-halted.ensures;
      same = (by_number c).same;
      numbered = numbered_ordered c.args.round c.args.passes.items c.in-Ok.accounts.items (by_number c) c.requires.passes;
      ends = c.in-Ok-into_words.ensures.answer;
    }
