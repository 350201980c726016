use Rattle.std.proofs.Common.{◌↔◌, true, false, IsTrue, refl}
use Rattle.set_model.specs.History.{IsLegalFrom}
use Rattle.set_model.proofs.LoopHistory.{legal_goes_on, legal_stops, legal_ends, legal_by_test}
use Rattle.set_model.proofs.plain_set.PlainSet.accepts.Goals as goal

pub loop-place-preserved : goal.loop-place-preserved
loop-place-preserved c =
    legal_goes_on c.args.history.now c.loop-place.place _ c.loop-place-test.true c.args.self.now _ _
    (c.holds_after-present.ensures.test _ (λ _. refl)) c.answer.ensures c.loop-place.invariant c.if-entry-answer.false

-- an answer was wrong
pub returns-then-entry-answer : goal.returns-then-entry-answer
returns-then-entry-answer c =
    let wrong = legal_stops c.args.history.now c.loop-place.place _ c.loop-place-test.true c.args.self.now _ _
    (c.holds_after-present.ensures.test _ (λ _. refl)) c.answer.ensures c.if-entry-answer.true in
    let told : IsTrue false ↔ IsLegalFrom c.args.self.now c.args.history.now = (λ never. cc, λ legal. absurd (wrong legal)) in
    record { set = told; test = legal_by_test c.args.self.now c.args.history.now (IsTrue false) told }

-- all were right
pub returns : goal.returns
returns c =
    let legal = legal_ends c.args.self.now c.args.history.now c.loop-place.place c.loop-place-test.false c.loop-place.invariant in
    let told : IsTrue true ↔ IsLegalFrom c.args.self.now c.args.history.now = (λ _. legal, λ _. refl) in
    record { set = told; test = legal_by_test c.args.self.now c.args.history.now (IsTrue true) told }
