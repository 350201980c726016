use Rattle.std.proofs.Common.{subst, List, ℕ}
use Rattle.std.specs.List.Sorted.{IsPermutation}
use Rattle.step_core.proofs.tables.Live.{collected_members, collected_rising}
use Rattle.step_core.proofs.reading.live_keys.Goals as goal

pub returns-clause-members : goal.returns-clause-members
returns-clause-members c =
    let keys = c.sort_unstable.new.self.items in
    collected_members c.args.words.now c.requires.well_formed c.requires.plain keys
    (subst (λ (list : List ℕ). IsPermutation list keys) c.in_ok-keys.ensures c.sort_unstable.ensures.permutation)

pub returns-clause-rising : goal.returns-clause-rising
returns-clause-rising c =
    let keys = c.sort_unstable.new.self.items in
    collected_rising c.args.words.now c.requires.well_formed keys
    (subst (λ (list : List ℕ). IsPermutation list keys) c.in_ok-keys.ensures c.sort_unstable.ensures.permutation)
    c.sort_unstable.ensures.sorted
