use Rattle.std.proofs.Common.{◌≡◌, ℕ, ◌+◌, take, length, ◌∷◌, [], ◌++◌, List, Bool, false, slice_index, slice_index_or, sym, ap, ◌∙◌, subst, arith}
use Rattle.std.proofs.lemmas.List.{take_more, take_all}
use Rattle.certify.specs.Order.{AreFine}
use Rattle.certify.specs.Judging.{HasJudged}
use Rattle.certify.specs.declared.order.Judged.TheVariants.{Fine}
use Rattle.certify.proofs.LoopOrder.{unset, lent_back, none_judged, verdict_found, none_found, fine_goes_on, ends}
use Rattle.certify.proofs.order.first_wrong.Goals as goal

pub loop-index-init : goal.loop-index-init
loop-index-init c =
    let is = c.in_ok-seen.ensures.items_if_clones_equal (λ y e. e) in
    record {
      fine = λ place some none. absurd (omega arith);
      kept = none_judged c.args.calls.now c.in_ok-seen.seen.items c.new-members.result
          (λ k. ap (λ (flags : List Bool). slice_index_or flags k false) is
          ∙ unset (length c.args.calls.now) k) c.new-members.ensures.empty;
      size = omega (arith, c.in_ok-seen.seen.ok, c.in_ok-seen.ensures.len);
    }

-- what is found at a place is the verdict
pub returns-in-Some : goal.returns-in-Some
returns-in-Some c =
    let kept : HasJudged c.args.calls.now (take c.loop-index.index c.args.order.now) c.deref_mut.result.now c.loop-index.members =
    rw c.deref_mut.ensures.value c.loop-index.invariant.kept in
    verdict_found c.args.calls.now c.args.order.now c.loop-index.index c.loop-index.invariant.fine c.loop-index-test.true
    c.in_ok-judged.judged (c.in_ok-judged.ensures.judged (take c.loop-index.index c.args.order.now) kept) c.in-Some.verdict
    (sym c.in-Some.ensures)

-- where nothing is found, the place is fine too
pub loop-index-preserved : goal.loop-index-preserved
loop-index-preserved c =
    let calls = c.args.calls.now in
    let order = c.args.order.now in
    let index = c.loop-index.index in
    let earlier = take index order in
    let judged = c.in_ok-judged.judged in
    let kept : HasJudged calls earlier c.deref_mut.result.now c.loop-index.members =
    rw c.deref_mut.ensures.value c.loop-index.invariant.kept in
    let is_fine : judged ≡ Fine = none_found calls order index c.loop-index.invariant.fine c.loop-index-test.true judged c.verdict.result
    c.verdict.ensures c.in_default.not-Some in
    let size : length c.judge.new.seen ≡ length calls = omega
    (arith, c.judge.auto.seen, c.deref_mut.ensures.len, c.loop-index.invariant.size, c.loop-index.seen.ok) in
    let back = lent_back c.loop-index.seen.len c.judge.new.seen c.loop-index.seen.items
    (omega (arith, size, c.loop-index.invariant.size, c.loop-index.seen.ok)) in
    let more : earlier ++ slice_index order index ∷ [] ≡ take (index + 1) order = sym (take_more order index 0 c.loop-index-test.true) in
    record {
      fine = fine_goes_on calls order index c.loop-index.invariant.fine c.loop-index-test.true judged
          (c.in_ok-judged.ensures.judged earlier kept) is_fine;
      kept = rw (back, ← more) (c.in_ok-judged.ensures.goes_on is_fine earlier kept);
      size = rw back size;
    }

-- behind the last place
pub returns : goal.returns
returns c =
    let calls = c.args.calls.now in
    let order = c.args.order.now in
    let all : c.loop-index.index ≡ length order = omega arith in
    let fine : AreFine calls order (length order) = rw all at c.loop-index.invariant.fine in
    let kept : HasJudged calls order c.loop-index.seen.items c.loop-index.members =
    subst (λ (earlier : List ℕ). HasJudged calls earlier c.loop-index.seen.items c.loop-index.members)
    (take_all c.loop-index.index order (omega arith))
    c.loop-index.invariant.kept in
    ends calls order c.loop-index.seen.items c.loop-index.members fine kept
    c.loop-index.invariant.size c.unless_missing.result (rw c.deref-2.ensures.value at c.unless_missing.ensures)
