use Rattle.std.proofs.Common.{List, flat_map, length, map, sym, ap, ◌∙◌, subst, arith}
use Rattle.std.specs.List.{All}
use Rattle.std.proofs.lemmas.Result.{IfOk-weaker}
use Rattle.cells.specs.Ends.{AreAllPasses}
use Rattle.cells.specs.Tokens.{PassValue}
use Rattle.rounds.specs.Halts.{AreAtRest}
use Rattle.dedup.specs.Crews.{rest_of}
use Rattle.dedup.specs.Rounds.{AddsRound, ClosesRound, SettlesRound}
use Rattle.dedup.specs.Settling.{CanSettle}
use Rattle.dedup.specs.declared.worker.Hand.{Hand}
use Rattle.dedup.specs.declared.worker.Worker.{Worker}
use Rattle.dedup.proofs.LawClosing.{all_at_rest, all_passes, can_settle, ends_round, few_hands}
use Rattle.dedup.proofs.one_round.close_round.Goals as goal

-- the passes are all of the round
pub closed-requires-clause-passes : goal.closed-requires-clause-passes
closed-requires-clause-passes c =
    subst (λ (ps : List PassValue). AreAllPasses c.args.round ps) (sym c.in_ok-passes.ensures.passes)
    (all_passes c.args.records.now c.args.round c.args.left.now c.args.workers.items c.requires.job c.requires.done)

-- and at rest
pub closed-requires-clause-at_rest : goal.closed-requires-clause-at_rest
closed-requires-clause-at_rest c =
    subst (λ (ps : List PassValue). AreAtRest ps) (sym c.in_ok-passes.ensures.passes)
    (all_at_rest c.args.records.now c.args.round c.args.left.now c.args.workers.items c.requires.job c.requires.done)

-- what was refused can be settled
pub settled_round-requires-clause-hands : goal.settled_round-requires-clause-hands
settled_round-requires-clause-hands c =
    subst (λ (hs : List Hand). All (CanSettle c.args.records.now) hs) (sym c.in_ok-passes.ensures.hands)
    (can_settle c.args.records.now c.args.round c.args.left.now c.args.workers.items c.requires.job c.requires.done)

-- there are few hands
pub settled_round-requires-clause-few : goal.settled_round-requires-clause-few
settled_round-requires-clause-few c =
    omega (
      arith,
      ap length c.in_ok-passes.ensures.hands,
      few_hands c.args.records.now c.args.round c.args.left.now c.args.workers.items c.requires.job c.requires.done,
    )

-- the round is one of a chain
pub returns : goal.returns
returns c =
    let records = c.args.records.now in
    let round = c.args.round in
    let left = c.args.left.now in
    let workers : List Worker = c.args.workers.items in
    let hands : List Hand = map (λ (worker : Worker). worker.hand) workers in
    let passes : List PassValue = map (λ (worker : Worker). worker.pass) workers in
    let closes : ClosesRound round passes c.in_ok-closing.closing =
    subst (λ (ps : List PassValue). ClosesRound round ps c.in_ok-closing.closing) c.in_ok-passes.ensures.passes c.in_ok-closing.ensures in
    let rests = c.in_ok-rests.rests.items in
    let rests_are = c.in_ok-rests.ensures ∙ ap (λ (all : List Worker). flat_map (rest_of left) all) c.deref.ensures.value in
    IfOk-weaker c.settled_round.result (SettlesRound records c.in_ok-closing.closing c.in_ok-passes.field-0.hands.items rests)
    (AddsRound records round.plan round.facts.keys left)
    (λ ended settles.
    ends_round records round left workers c.requires.job c.requires.done c.in_ok-closing.closing closes rests ended
    (subst (λ (hs : List Hand). SettlesRound records c.in_ok-closing.closing hs rests ended) c.in_ok-passes.ensures.hands settles)
    rests_are c.requires.some)
    c.settled_round.ensures
