use Rattle.std.proofs.Common.{slice_index, sym, ap, ◌∙◌, arith}
use Rattle.step_core.specs.declared.views.PassView.{PassView}
use Rattle.cells.specs.Known.{row_at, keys_at}
use Rattle.fset.proofs.laws.Found.{taken_here, absent_past_end}
use Rattle.fset.proofs.content.place_among.Goals as goal

-- the key found isn't below the one sought
pub returns-then-found-key-clause-taken : goal.returns-then-found-key-clause-taken
returns-then-found-key-clause-taken c =
    let view = c.args.pass.now.view in
    let at = c.args.seen.now.at in
    let row = c.sound.ensures.view.rows at (row_at view.known at) c.requires.knows.known in
    taken_here (keys_at view at) c.args.key c.loop-i.i row.rising c.loop-i.invariant.below c.key_at-found.result
    (c.key_at-found.ensures.answer ∙ ap (λ (view : PassView). slice_index (keys_at view at) c.loop-i.i) c.loop-i.invariant.view)
    (omega (arith, c.requires.knows.count, c.loop-i-test.true)) c.if-found-key.true

-- all keys are below it
pub returns-clause-taken : goal.returns-clause-taken
returns-clause-taken c =
    let view = c.args.pass.now.view in
    let at = c.args.seen.now.at in
    let row = c.sound.ensures.view.rows at (row_at view.known at) c.requires.knows.known in
    sym (absent_past_end (keys_at view at) c.args.key c.loop-i.i row.rising c.loop-i.invariant.below
    (omega (arith, c.requires.knows.count, c.loop-i-test.false)))
