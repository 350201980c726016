use Rattle.std.proofs.Common.{ap, ◌∙◌, sym, arith}
use Rattle.step_core.specs.declared.views.PassView.{PassView}
use Rattle.cells.proofs.laws.HeadLoads.{load_head_knows}
use Rattle.cells.proofs.laws.Sealed.{knows_exponent}
use Rattle.fset.proofs.laws.Looking.{buckets_within, exponent_is, still_known}
use Rattle.hash_set.proofs.tests.resizing.find_head.Goals as goal

-- the head is known
pub load_sealed-exponent-requires-clause-knows : goal.load_sealed-exponent-requires-clause-knows
load_sealed-exponent-requires-clause-knows c =
    let loads = c.load_head-at.ensures.answer in
    knows_exponent c.load_head-at.new.pass.view c.load_head-at.result loads.generation
    (load_head_knows c.args.pass.now.view c.load_head-at.result c.load_head-at.new.pass.view loads)

-- its exponent is at most 24
pub overflow_cast-result : goal.overflow_cast-result
overflow_cast-result c =
    let loads = c.load_head-at.ensures.answer in
    let within = buckets_within c.load_head-at.new.pass.view c.load_sealed-exponent.new.pass.view c.load_head-at.result
    c.load_sealed-exponent.result loads.generation
    (load_head_knows c.args.pass.now.view c.load_head-at.result c.load_head-at.new.pass.view loads) c.load_sealed-exponent.ensures.answer
    c.sound.ensures.view in
    omega (arith, within.1)

pub returns-clause-small : goal.returns-clause-small
returns-clause-small c =
    let loads = c.load_head-at.ensures.answer in
    let within = buckets_within c.load_head-at.new.pass.view c.load_sealed-exponent.new.pass.view c.load_head-at.result
    c.load_sealed-exponent.result loads.generation
    (load_head_knows c.args.pass.now.view c.load_head-at.result c.load_head-at.new.pass.view loads) c.load_sealed-exponent.ensures.answer
    c.sound.ensures.view in
    omega (arith, within.1)

-- and it has this one
pub returns-clause-knows : goal.returns-clause-knows
returns-clause-knows c =
    let v1 = c.load_head-at.new.pass.view in
    let v2 = c.load_sealed-exponent.new.pass.view in
    let loads = c.load_head-at.ensures.answer in
    let known = load_head_knows c.args.pass.now.view c.load_head-at.result v1 loads in
    record {
      generation = loads.generation;
      known = still_known v1 v2 c.load_head-at.result c.load_sealed-exponent.result loads.generation known c.load_sealed-exponent.ensures.answer;
      here = sym (exponent_is v1 v2 c.load_head-at.result c.load_sealed-exponent.result loads.generation known
          c.load_sealed-exponent.ensures.answer);
    }

pub returns-clause-idle : goal.returns-clause-idle
returns-clause-idle c =
    ap (λ (view : PassView). view.flight) c.load_sealed-exponent.ensures.answer.view
    ∙ ap (λ (view : PassView). view.flight) c.load_head-at.ensures.answer.view
