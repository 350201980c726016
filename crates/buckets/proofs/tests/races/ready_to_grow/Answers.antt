use Rattle.std.proofs.Common.{inl}
use Rattle.buckets.specs.Resizing.{IsNextBy}
use Rattle.buckets.specs.declared.resizing.Way.TheVariants.{Grow}
use Rattle.buckets.proofs.laws.Resizing.{may_swap}
use Rattle.buckets.proofs.tests.races.ready_to_grow.Goals as goal

-- the generation may be put in
pub returns-clause-may : goal.returns-clause-may
returns-clause-may c =
    may_swap c.load_head-head.result.at c.load_head-head.result.exponent c.args.pass.now.view c.load_head-head.new.pass.view
    c.load_head-head.ensures.answer (IsNextBy Grow) c.in-Some.exponent c.in-Some.ensures.next.0 c.in-Some.ensures.next.1 c.fill_head.new.pass.view
    c.in-Ok.ensures.answer c.build_next.new.pass.view c.in-Ok-build_next.block.at c.in-Ok-build_next.ensures.answer
    (λ before after next. inl next)
