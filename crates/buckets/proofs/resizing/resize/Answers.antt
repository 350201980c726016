use Rattle.std.proofs.Common.{◌≡◌, ℕ, ◌+◌, ◌⊎◌, ◌∷◌, replicate, inl, inr}
use Rattle.buckets.specs.Filling.{buckets_of}
use Rattle.buckets.specs.Resizing.{IsNextBy, limit_of}
use Rattle.buckets.specs.declared.resizing.Way.{Way}
use Rattle.buckets.specs.declared.resizing.Way.TheVariants.{Grow, Shrink}
use Rattle.buckets.proofs.laws.AloneResizing.{filling_ends, head_ends, next_ends, stays_alone}
use Rattle.buckets.proofs.laws.Resizing.{changed, filling_refused, may_swap, moved, next_refused}
use Rattle.buckets.proofs.resizing.resize.Goals as goal

-- the next exponent is one more or one less
either : (way : Way) (before after : ℕ) → IsNextBy way before after → (after ≡ before + 1) ⊎ (before ≡ after + 1)
either Grow before after next = inl next
either Shrink before after next = inr next

-- there is no next exponent
pub returns-in_default-clause-ledger : goal.returns-in_default-clause-ledger
returns-in_default-clause-ledger c = λ alone.
    stays_alone c.load_head-head.result.at c.load_head-head.result.exponent c.args.pass.now.view c.load_head-head.new.pass.view
    c.load_head-head.ensures.answer alone (limit_of c.args.way) c.in_default.ensures.limit

-- a bucket can't be filled
pub returns-in_default-fill_head-clause-answer : goal.returns-in_default-fill_head-clause-answer
returns-in_default-fill_head-clause-answer c =
    filling_refused c.load_head-head.result.at c.load_head-head.result.exponent c.args.pass.now.view c.load_head-head.new.pass.view
    c.load_head-head.ensures.answer (IsNextBy c.args.way) c.in-Some.exponent c.in-Some.ensures.next.0 c.in-Some.ensures.next.1 c.fill_head.new.pass.view
    c.in_default-fill_head.ensures.full

pub returns-in_default-fill_head-clause-ledger : goal.returns-in_default-fill_head-clause-ledger
returns-in_default-fill_head-clause-ledger c = λ alone.
    filling_ends c.load_head-head.result.at c.load_head-head.result.exponent c.args.pass.now.view c.load_head-head.new.pass.view
    c.load_head-head.ensures.answer alone (IsNextBy c.args.way) c.in-Some.exponent c.in-Some.ensures.next.0 c.in-Some.ensures.next.1
    c.fill_head.new.pass.view c.load_head-head.ensures.pass.facts c.in_default-fill_head.ensures.ledger

-- there is no block for the generation
pub returns-in_default-build_next-clause-answer : goal.returns-in_default-build_next-clause-answer
returns-in_default-build_next-clause-answer c =
    next_refused c.load_head-head.result.at c.load_head-head.result.exponent c.args.pass.now.view c.load_head-head.new.pass.view
    c.load_head-head.ensures.answer (IsNextBy c.args.way) c.in-Some.exponent c.in-Some.ensures.next.0 c.in-Some.ensures.next.1 c.fill_head.new.pass.view
    c.in-Ok.ensures.answer c.build_next.new.pass.view c.in_default-build_next.ensures.full

pub returns-in_default-build_next-clause-ledger : goal.returns-in_default-build_next-clause-ledger
returns-in_default-build_next-clause-ledger c = λ alone.
    next_ends c.load_head-head.result.at c.load_head-head.result.exponent c.args.pass.now.view c.load_head-head.new.pass.view
    c.load_head-head.ensures.answer alone (IsNextBy c.args.way) c.in-Some.exponent c.in-Some.ensures.next.0 c.in-Some.ensures.next.1
    c.fill_head.new.pass.view c.load_head-head.ensures.pass.facts c.in-Ok.ensures.ledger
    c.fill_head.ensures.pass.facts c.build_next.new.pass.view c.in_default-build_next.ensures.ledger

-- the generation may be put in
pub swap_head-requires-clause-may : goal.swap_head-requires-clause-may
swap_head-requires-clause-may c =
    may_swap c.load_head-head.result.at c.load_head-head.result.exponent c.args.pass.now.view c.load_head-head.new.pass.view
    c.load_head-head.ensures.answer (IsNextBy c.args.way) c.in-Some.exponent c.in-Some.ensures.next.0 c.in-Some.ensures.next.1 c.fill_head.new.pass.view
    c.in-Ok.ensures.answer c.build_next.new.pass.view c.in-Ok-build_next.block.at c.in-Ok-build_next.ensures.answer
    (either c.args.way)

-- it is in the head's place
pub returns-in-Ok-swap_head-clause-answer : goal.returns-in-Ok-swap_head-clause-answer
returns-in-Ok-swap_head-clause-answer c =
    changed c.load_head-head.result.at c.load_head-head.result.exponent c.args.pass.now.view c.load_head-head.new.pass.view
    c.load_head-head.ensures.answer (IsNextBy c.args.way) c.in-Some.exponent c.in-Some.ensures.next.0 c.in-Some.ensures.next.1 c.fill_head.new.pass.view
    c.in-Ok.ensures.answer c.build_next.new.pass.view c.in-Ok-build_next.block.at c.in-Ok-build_next.ensures.answer
    c.swap_head.new.pass.view c.in-Ok-swap_head.ensures.won

pub returns-in-Ok-swap_head-clause-ledger : goal.returns-in-Ok-swap_head-clause-ledger
returns-in-Ok-swap_head-clause-ledger c = λ alone.
    head_ends c.load_head-head.result.at c.load_head-head.result.exponent c.args.pass.now.view c.load_head-head.new.pass.view
    c.load_head-head.ensures.answer alone (IsNextBy c.args.way) c.in-Some.exponent c.in-Some.ensures.next.0 c.in-Some.ensures.next.1
    c.fill_head.new.pass.view c.load_head-head.ensures.pass.facts c.in-Ok.ensures.ledger
    c.fill_head.ensures.pass.facts c.build_next.new.pass.view c.in-Ok-build_next.ensures.ledger c.build_next.ensures.pass.facts
    c.in-Ok-build_next.block.at (c.load_head-head.result.at ∷ replicate (buckets_of c.in-Some.exponent) 0)
    c.in-Ok-build_next.ensures.answer.built c.swap_head.new.pass.view c.in-Ok-swap_head.ensures.won

-- another is there
pub returns-in-Err-clause-answer : goal.returns-in-Err-clause-answer
returns-in-Err-clause-answer c =
    moved c.load_head-head.result.at c.load_head-head.result.exponent c.args.pass.now.view c.load_head-head.new.pass.view
    c.load_head-head.ensures.answer (IsNextBy c.args.way) c.in-Some.exponent c.in-Some.ensures.next.0 c.in-Some.ensures.next.1 c.fill_head.new.pass.view
    c.in-Ok.ensures.answer c.build_next.new.pass.view c.in-Ok-build_next.block.at c.in-Ok-build_next.ensures.answer
    c.in-Err.lost.found c.swap_head.new.pass.view c.in-Err.ensures.lost.0 c.in-Err.ensures.lost.2

-- that comes from another pass
pub returns-in-Err-clause-ledger : goal.returns-in-Err-clause-ledger
returns-in-Err-clause-ledger c = (returns-in-Err-clause-answer c).others
