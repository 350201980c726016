use Rattle.std.proofs.Common.{sym, ◌∙◌}
use Rattle.std.specs.FinSet as set
use Rattle.set_model.proofs.LoopHistory.{key_goes_on, key_ends, held_by_test}
use Rattle.set_model.proofs.plain_set.PlainSet.holds_after.Goals as goal

pub loop-entry-preserved : goal.loop-entry-preserved
loop-entry-preserved c =
    key_goes_on c.args.history.now c.loop-entry.entry-index _ c.loop-entry-test.true (set.contains c.args.self.now) c.args.key _
    (c.leaves-present.ensures _ (sym c.loop-entry.invariant))

pub returns : goal.returns
returns c =
    let held =
    c.loop-entry.invariant ∙ key_ends c.args.self.now c.args.history.now c.loop-entry.entry-index c.loop-entry-test.false c.args.key in
    record { set = held; test = held_by_test c.args.self.now c.args.history.now c.loop-entry.present c.args.key held }
