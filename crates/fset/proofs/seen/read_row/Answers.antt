use Rattle.std.proofs.Common.{ℕ, ◌+◌, [], refl, sym, subst, arith}
use Rattle.step_core.specs.declared.views.PassView.{PassView}
use Rattle.cells.specs.Frames.{after_reads}
use Rattle.cells.specs.Known.{KnowsSealed, row_at}
use Rattle.cells.specs.Steps.{LoadsSealed}
use Rattle.cells.proofs.laws.Known.{sealed_stays}
use Rattle.cells.proofs.laws.Sealed.{knows_op}
use Rattle.cells.proofs.laws.Within.{row_within}
use Rattle.fset.proofs.laws.Reading.{count_keeps, row_read}
use Rattle.fset.proofs.seen.read_row.Goals as goal

-- a known row lies in the arena
pub op_place-requires : goal.op_place-requires
op_place-requires c =
    let view = c.args.pass.now.view in
    let inside = row_within view c.sound.ensures.view c.args.at (row_at view.known c.args.at) c.requires.knows in
    omega (arith, inside.small)

-- after the first load it is still known
pub load_sealed-op-requires-clause-knows : goal.load_sealed-op-requires-clause-knows
load_sealed-op-requires-clause-knows c =
    let old = c.args.pass.now.view in
    let new = c.load_sealed-count.new.pass.view in
    let keeps = count_keeps c.args.at old c.requires.knows c.load_sealed-count.result new c.load_sealed-count.ensures.answer in
    subst (λ (z : PassView × ℕ). KnowsSealed z.0 z.1) (λ i. (sym keeps i, sym c.op_place.ensures i))
    (sealed_stays [] old (after_reads 1 old) refl (c.args.at + 1) (knows_op old c.args.at (row_at old.known c.args.at) c.requires.knows))

-- the two loads read the row
pub returns-clause-answer : goal.returns-clause-answer
returns-clause-answer c =
    row_read c.args.at c.load_sealed-count.result c.load_sealed-op.result c.args.pass.now.view
    c.load_sealed-count.new.pass.view c.load_sealed-op.new.pass.view c.requires.knows c.sound-2.ensures.view
    c.load_sealed-count.ensures.answer
    (subst (λ (place : ℕ). LoadsSealed place c.load_sealed-count.new.pass.view c.load_sealed-op.result c.load_sealed-op.new.pass.view)
    c.op_place.ensures c.load_sealed-op.ensures.answer)
