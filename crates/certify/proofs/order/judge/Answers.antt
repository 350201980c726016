use Rattle.std.proofs.Common.{◌-◌, false, get_or, slice_index, inl, inr, sym, ◌∙◌, arith}
use Rattle.certify.specs.declared.claimed.Claimed.{Claimed}
use Rattle.set_model.specs.declared.call.Call.TheVariants.{Insert}
use Rattle.certify.proofs.LawJudged.{flag, not_early, is_early, known_once, fine, is_wrong, goes_on, claimed_at, same_answer, other_answer}
use Rattle.certify.proofs.order.judge.Goals as goal

abbrev blank : Claimed
blank = record { who = 0; call = Insert; key = 0; answer = false }

-- an earlier place has the number
pub returns-then-seen-index-clause-judged : goal.returns-then-seen-index-clause-judged
returns-then-seen-index-clause-judged c = λ earlier judged. (
  λ unknown. elim unknown [ inl none ↦ absurd (omega arith) | inr past ↦ absurd (omega arith) ],
  sym (flag c.args.calls.now earlier c.args.seen.now c.args.members.now judged c.args.number (omega arith) (omega arith))
      ∙ c.if-seen-index.true,
)

-- the last call of its caller stands at no earlier place
pub returns-then-is_unseen-clause-judged : goal.returns-then-is_unseen-clause-judged
returns-then-is_unseen-clause-judged c = λ earlier judged.
    let k = c.args.number - 1 in
    let calls = c.args.calls.now in
    let before = known_once calls earlier c.args.seen.now c.args.members.now judged c.args.number (omega arith)
    (omega arith) c.if-seen-index.false in (
      before.0,
      before.1,
      is_early calls earlier c.args.seen.now c.args.members.now judged c.args.number (slice_index c.args.previous.now k)
          (omega arith) (omega arith) (c.requires.last k (omega arith)) c.if-is_unseen.ensures,
    )

-- its answer is wrong
pub returns-then-branch-claimed-clause-judged : goal.returns-then-branch-claimed-clause-judged
returns-then-branch-claimed-clause-judged c = λ earlier judged.
    let k = c.args.number - 1 in
    let calls = c.args.calls.now in
    let before = known_once calls earlier c.args.seen.now c.args.members.now judged c.args.number (omega arith)
    (omega arith) c.if-seen-index.false in
    let ready = not_early calls earlier c.args.seen.now c.args.members.now judged c.args.number (slice_index c.args.previous.now k)
    (omega arith)
    (c.requires.last k (omega arith)) c.if-is_unseen.ensures in (
      before.0,
      before.1,
      ready,
      is_wrong calls earlier c.args.seen.now c.args.members.now judged c.args.number (get_or calls k blank)
          (omega arith) (omega arith) (claimed_at calls k blank (omega arith))
          c.in_ok-apply.field-0 c.in_ok-apply.ensures.answer (other_answer _ _ c.if-branch-claimed.true),
    )

-- nothing is wrong with it
pub returns-clause-judged : goal.returns-clause-judged
returns-clause-judged c = λ earlier judged.
    let k = c.args.number - 1 in
    let calls = c.args.calls.now in
    let ready = not_early calls earlier c.args.seen.now c.args.members.now judged c.args.number (slice_index c.args.previous.now k)
    (omega arith)
    (c.requires.last k (omega arith)) c.if-is_unseen.ensures in
    fine calls earlier c.args.seen.now c.args.members.now judged c.args.number (get_or calls k blank)
    (omega arith) (omega arith) (claimed_at calls k blank (omega arith))
    c.in_ok-apply.field-0 c.in_ok-apply.ensures.answer (same_answer _ _ c.if-branch-claimed.false) c.if-seen-index.false ready

-- and its call was made
pub returns-clause-goes_on : goal.returns-clause-goes_on
returns-clause-goes_on c = λ is earlier judged.
    let k = c.args.number - 1 in
    let calls = c.args.calls.now in
    let ready = not_early calls earlier c.args.seen.now c.args.members.now judged c.args.number (slice_index c.args.previous.now k)
    (omega arith)
    (c.requires.last k (omega arith)) c.if-is_unseen.ensures in
    goes_on calls earlier c.args.seen.now c.args.members.now judged c.args.number (get_or calls k blank)
    (omega arith) (omega arith) (claimed_at calls k blank (omega arith))
    c.apply.new.members c.in_ok-apply.ensures.after ready c.requires.seen
