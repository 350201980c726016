use Rattle.std.proofs.Common.{◌∙◌, List, rules, subst, take_all}
use Rattle.std.specs.List.Sorted.{IsPermutation}
use Rattle.std.proofs.lemmas.List.Sorted.{IsNonDecreasingBy-from_sort_by_key}
use Rattle.cells.specs.Tokens.{PassValue}
use Rattle.rounds.specs.Halts.{number_of}
use Rattle.rounds.proofs.halted.accounts_of.Goals as goal

pub returns : goal.returns
returns c =
    let passes = c.args.passes.now in
    let sort = c.sort_unstable_by_key.ensures in
    record {
      same = subst (λ (list : List PassValue). IsPermutation list c.sort_unstable_by_key.new.self.items)
          (c.loop-pass.invariant ∙ take_all c.loop-pass.pass-index passes c.loop-pass-test.false) sort.permutation;
      order = IsNonDecreasingBy-from_sort_by_key number_of _ sort.sorted (λ a r q k. search rules);
    }
