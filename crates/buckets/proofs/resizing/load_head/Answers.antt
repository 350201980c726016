use Rattle.std.proofs.Common.{ℕ, sym, arith}
use Rattle.step_core.specs.declared.views.PassView.{PassView}
use Rattle.cells.specs.Steps.{LoadsHead, LoadsSealed}
use Rattle.cells.proofs.laws.HeadLoads.{load_head_knows}
use Rattle.cells.proofs.laws.Sealed.{knows_exponent}
use Rattle.fset.proofs.laws.Looking.{buckets_within, exponent_is, exponent_still}
use Rattle.buckets.specs.Resizing.{LoadsExponent}
use Rattle.buckets.proofs.laws.AloneFilling.{loads_alone}
use Rattle.buckets.proofs.resizing.load_head.Goals as goal

-- the head and its exponent are loaded
loads : (at exponent : ℕ) (v0 v1 v2 : PassView) → LoadsHead v0 at v1 → LoadsSealed at v1 exponent v2 → LoadsExponent at exponent v0 v2
loads at exponent v0 v1 v2 head sealed =
    let known = load_head_knows v0 at v1 head in
    record {
      between = v1;
      loads = head;
      here = sym (exponent_is v1 v2 at exponent head.generation known sealed);
      same = exponent_still v1 v2 at exponent head.generation known sealed;
    }

-- the head is known
pub load_sealed-exponent-requires-clause-knows : goal.load_sealed-exponent-requires-clause-knows
load_sealed-exponent-requires-clause-knows c =
    let loads = c.load_head-at.ensures.answer in
    knows_exponent c.load_head-at.new.pass.view c.load_head-at.result loads.generation
    (load_head_knows c.args.pass.now.view c.load_head-at.result c.load_head-at.new.pass.view loads)

-- its exponent is at most 24
pub overflow_cast-result : goal.overflow_cast-result
overflow_cast-result c =
    let loads = c.load_head-at.ensures.answer in
    let within = buckets_within c.load_head-at.new.pass.view c.load_sealed-exponent.new.pass.view c.load_head-at.result
    c.load_sealed-exponent.result loads.generation
    (load_head_knows c.args.pass.now.view c.load_head-at.result c.load_head-at.new.pass.view loads) c.load_sealed-exponent.ensures.answer
    c.sound.ensures.view in
    omega (arith, within.1)

pub returns-clause-small : goal.returns-clause-small
returns-clause-small c =
    let loads = c.load_head-at.ensures.answer in
    let within = buckets_within c.load_head-at.new.pass.view c.load_sealed-exponent.new.pass.view c.load_head-at.result
    c.load_sealed-exponent.result loads.generation
    (load_head_knows c.args.pass.now.view c.load_head-at.result c.load_head-at.new.pass.view loads) c.load_sealed-exponent.ensures.answer
    c.sound.ensures.view in
    omega (arith, within.1)

pub returns-clause-answer : goal.returns-clause-answer
returns-clause-answer c =
    loads c.load_head-at.result c.load_sealed-exponent.result c.args.pass.now.view c.load_head-at.new.pass.view
    c.load_sealed-exponent.new.pass.view c.load_head-at.ensures.answer c.load_sealed-exponent.ensures.answer

-- as the ledger of the only pass says
pub returns-clause-ledger : goal.returns-clause-ledger
returns-clause-ledger c =
    loads_alone c.load_head-at.result c.load_sealed-exponent.result c.args.pass.now.view c.load_sealed-exponent.new.pass.view
    (loads c.load_head-at.result c.load_sealed-exponent.result c.args.pass.now.view c.load_head-at.new.pass.view
    c.load_sealed-exponent.new.pass.view c.load_head-at.ensures.answer c.load_sealed-exponent.ensures.answer)
