use Rattle.std.proofs.Common.{rules, ◌≡◌, ◌≢◌, ℕ, ◌-◌, ◌<◌, true, refl, subst}
use Rattle.step_core.specs.declared.layout.Plan.{Plan}
use Rattle.step_core.specs.Ledger.{write}
use Rattle.step_core.specs.declared.views.PassView.{PassView}
use Rattle.cells.specs.Lone.{EndsAs, ledger_of}
use Rattle.cells.specs.Tokens.{IsSamePass}
use Rattle.fset.specs.Alone.{AnswersAlone}
use Rattle.fset.specs.Turns.{AnswersTurn}
use Rattle.fset.proofs.laws.AloneRows.{still_alone}
use Rattle.hash_set.specs.Calls.{LosesCall}
use Rattle.hash_set.proofs.laws.Alone.{first_turn}
use Rattle.hash_set.proofs.laws.Trying.{all_lost, none_lost, then_answered, then_full, then_lost}
use Rattle.hash_set.proofs.writing.change.Goals as goal

-- no turn was made yet
pub loop-losses-init : goal.loop-losses-init
loop-losses-init c =
    let same : IsSamePass c.args.pass.now c.args.pass.now = search rules in
    record {
      same = same;
      lost = none_lost c.args.call c.args.key c.args.pass.now.view;
      first = λ alone. refl;
    }

-- this turn was answered
pub returns-in-Done-clause-answer : goal.returns-in-Done-clause-answer
returns-in-Done-clause-answer c =
    let old = c.args.pass.now.view in
    let between = c.loop-losses.pass.view in
    then_answered c.args.call c.args.key c.loop-losses.losses old between c.loop-losses.invariant.lost c.args.round.now.plan.fast
    (c.args.pass.now.calls - 1) c.in-Done.answered c.turn.new.pass.view
    (subst (λ (plan : Plan). c.loop-losses.losses < plan.fast) c.plan-losses-end.ensures c.loop-losses-test.true) c.requires.call.0
    (subst (λ (calls : ℕ). AnswersTurn (calls - 1) c.args.call c.args.key c.in-Done.answered between c.turn.new.pass.view)
    c.loop-losses.invariant.same.calls c.in-Done.ensures.answer)
    c.in-Done.ensures.steps

pub returns-in-Done-clause-ledger : goal.returns-in-Done-clause-ledger
returns-in-Done-clause-ledger c =
    first_turn (λ (view : PassView). AnswersAlone c.args.call c.args.key c.in-Done.answered view c.turn.new.pass.view)
    c.args.pass.now.view c.loop-losses.pass.view c.loop-losses.invariant.same.facts c.loop-losses.invariant.first c.in-Done.ensures.ledger

-- it was refused
pub returns-in-Full-clause-answer : goal.returns-in-Full-clause-answer
returns-in-Full-clause-answer c =
    then_full c.args.call c.args.key c.loop-losses.losses c.args.pass.now.view c.loop-losses.pass.view c.loop-losses.invariant.lost
    c.args.round.now.plan.fast c.turn.new.pass.view
    (subst (λ (plan : Plan). c.loop-losses.losses < plan.fast) c.plan-losses-end.ensures c.loop-losses-test.true) c.in-Full.ensures.answer
    c.in-Full.ensures.steps

pub returns-in-Full-clause-ledger : goal.returns-in-Full-clause-ledger
returns-in-Full-clause-ledger c =
    first_turn (λ (view : PassView). EndsAs (write c.args.call c.args.key (ledger_of view)) true c.turn.new.pass.view)
    c.args.pass.now.view c.loop-losses.pass.view c.loop-losses.invariant.same.facts c.loop-losses.invariant.first c.in-Full.ensures.ledger

-- it was lost, as all before it
pub loop-losses-preserved : goal.loop-losses-preserved
loop-losses-preserved c =
    let same : IsSamePass c.args.pass.now c.turn.new.pass = search rules in
    record {
      same = same;
      lost = then_lost c.args.call c.args.key c.loop-losses.losses c.args.pass.now.view c.loop-losses.pass.view
          c.loop-losses.invariant.lost c.turn.new.pass.view c.in-Lost.ensures.answer c.in-Lost.ensures.steps;
      first = λ alone. absurd (c.in-Lost.ensures.ledger
          (still_alone c.args.pass.now.view c.loop-losses.pass.view c.loop-losses.invariant.same.facts alone));
    }

-- all its turns were lost
pub returns-clause-answer : goal.returns-clause-answer
returns-clause-answer c =
    let old = c.args.pass.now.view in
    let between = c.loop-losses.pass.view in
    let fast : ℕ = c.args.round.now.plan.fast in
    let all : c.loop-losses.losses ≡ fast = search rules in
    let some : c.loop-losses.losses ≢ 0 = search rules in
    subst (λ (turns : ℕ). LosesCall turns c.args.call c.args.key old between) all
    (all_lost c.args.call c.args.key c.loop-losses.losses old between c.loop-losses.invariant.lost some)

-- which never befalls the only pass
pub returns-clause-ledger : goal.returns-clause-ledger
returns-clause-ledger c =
    let some : c.loop-losses.losses ≢ 0 = search rules in
    c.loop-losses.invariant.lost.tries.others some
