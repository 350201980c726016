use Rattle.std.proofs.Common.{rules}
use Rattle.set_model.proofs.LoopHistory.{set_goes_on, set_stops}
use Rattle.set_model.proofs.plain_set.PlainSet.replay.Goals as goal

pub loop-entry-preserved : goal.loop-entry-preserved
loop-entry-preserved c =
    set_goes_on c.args.history.now c.loop-entry.entry-index _ c.loop-entry-test.true c.args.self.now c.loop-entry.self c.apply.new.self
    c.loop-entry.invariant c.in_ok-apply.ensures.after

pub returns-in_err-apply-clause-refused : goal.returns-in_err-apply-clause-refused
returns-in_err-apply-clause-refused c =
    let stops =
    set_stops c.args.history.now c.loop-entry.entry-index _ c.loop-entry-test.true c.args.self.now c.loop-entry.self c.apply.new.self
    c.loop-entry.invariant c.in_err-apply.ensures.no_memory c.in_err-apply.ensures.refused in
    search (rules, stops)
