use Rattle.std.proofs.Common.{◌≡◌, ◌∷◌, ◌++◌, ℕ, List, [], length, sym, subst, arith}
use Rattle.std.specs.List.{All, range_with_len}
use Rattle.std.proofs.lemmas.Bool.Decides.{nat_tests}
use Rattle.std.proofs.lemmas.List.Elements.{All-nil, All-push}
use Rattle.chain.specs.Chain.{RoundEnd}
use Rattle.dedup.specs.Rounds.{AddsRound, HasInserted, HasWorkers, IsLeft, IsRunSoFar, round_ended}
use Rattle.dedup.proofs.LawInserted.{inserted_none, inserted_push, keys-le, left-le, left_below, so_far}
use Rattle.dedup.proofs.phase.insert_all.Goals as goal

-- no round was made
pub returns-in_err-left-clause-so_far : goal.returns-in_err-left-clause-so_far
returns-in_err-left-clause-so_far g c =
    let records = c.args.phase.now.records.now in
    let plan = c.args.phase.now.plan in
    let none = so_far (inserted_none records plan) in
    (none.0, subst (λ (rounds : List RoundEnd). IsRunSoFar records plan rounds none.0) (sym c.requires.none) none.1)

-- there are at most as many keys as records
pub one_round-requires-clause-few : goal.one_round-requires-clause-few
one_round-requires-clause-few g c κs outlives = omega (arith, keys-le c.rounds.invariant.inserted, c.requires.few)

-- records are still to come
pub one_round-requires-clause-left : goal.one_round-requires-clause-left
one_round-requires-clause-left g c κs outlives =
    let records = c.args.phase.now.records.now in
    subst (λ (numbers : List ℕ). IsLeft records numbers) (sym c.deref.ensures.value) (record {
      some = grind (arith, nat_tests, c.rounds-test.ensures, c.rounds.left.ok);
      numbers = left_below c.rounds.invariant.inserted;
      few = omega (arith, left-le c.rounds.invariant.inserted, c.requires.few);
    })

-- before the first round
pub rounds-init : goal.rounds-init
rounds-init g c =
    let records = c.args.phase.now.records.now in
    let plan = c.args.phase.now.plan in
    let range = range_with_len 0 (length records) in
    let left = c.in_ok-left.left.items in
    let keys = c.new-keys.result.items in
    let changing = c.new-changed.result.items in
    record {
      inserted = subst (λ (all : List RoundEnd). HasInserted records plan all keys left changing) (sym c.requires.none)
          (subst (λ (all : List ℕ). HasInserted records plan [] all left changing) (sym c.new-keys.ensures.items)
          (subst (λ (all : List ℕ). HasInserted records plan [] [] all changing) (sym c.in_ok-left.ensures)
          (subst (λ (all : List ℕ). HasInserted records plan [] [] range all) (sym c.new-changed.ensures.items) (inserted_none records plan))));
      workers = subst (All (HasWorkers plan.seats)) (sym c.requires.none) (All-nil (HasWorkers plan.seats));
    }

-- one round more
pub rounds-preserved : goal.rounds-preserved
rounds-preserved g c =
    let records = c.args.phase.now.records.now in
    let plan = c.args.phase.now.plan in
    let ended = c.in_ok-closing.field-0 in
    let ends : AddsRound records plan c.rounds.keys.items c.rounds.left.items ended =
    subst (λ (numbers : List ℕ). AddsRound records plan c.rounds.keys.items numbers ended) c.deref.ensures.value c.in_ok-closing.ensures in
    let rounds : c.push.new.self ≡ c.rounds.so_far ++ round_ended ended ∷ [] = c.in_ok-push.ensures.round in
    let changed : c.extend_from_slice.new.self.items ≡ c.rounds.changed.items ++ ended.changed.items =
    subst (λ (numbers : List ℕ). c.extend_from_slice.new.self.items ≡ c.rounds.changed.items ++ numbers) c.deref-in-rounds.ensures.value
    c.in_ok-extend_from_slice.ensures.items in
    record {
      inserted = subst (λ (all : List RoundEnd). HasInserted records plan all ended.keys.items ended.left.items
          c.extend_from_slice.new.self.items) (sym rounds)
          (subst (λ (numbers : List ℕ). HasInserted records plan (c.rounds.so_far ++ round_ended ended ∷ []) ended.keys.items
          ended.left.items numbers) (sym changed) (inserted_push c.rounds.invariant.inserted ended ends));
      workers = subst (All (HasWorkers plan.seats)) (sym rounds)
          (All-push (HasWorkers plan.seats) c.rounds.so_far (round_ended ended) c.rounds.invariant.workers ends.workers);
    }
