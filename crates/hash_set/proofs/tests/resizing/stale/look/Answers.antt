use Rattle.fset.proofs.laws.LookedUp.{head_now, met_known}
use Rattle.fset.proofs.laws.Meeting.{met_row}
use Rattle.hash_set.proofs.laws.Playing.{keep_then, kept_idle}
use Rattle.hash_set.proofs.tests.resizing.stale.look.Goals as goal

-- the row is met
pub find_in-answer-requires-clause-knows : goal.find_in-answer-requires-clause-knows
find_in-answer-requires-clause-knows c =
    let v1 = c.load_head-head.new.pass.view in
    let v2 = c.meet_row-met.new.reader.view in
    met_known c.key-key.result c.meet_row-met.result.at v1 v2
    (met_row c.load_head-head.result c.key-key.result c.meet_row-met.result.at v1 v2 c.sound.ensures.view
    (head_now c.args.reader.now.view c.load_head-head.result v1 c.load_head-head.ensures.answer) c.meet_row-met.ensures.answer)

-- the others are idle
pub find_in-answer-requires-clause-others : goal.find_in-answer-requires-clause-others
find_in-answer-requires-clause-others c =
    kept_idle c.args.round.now c.args.others.now c.meet_row-met.new.others c.meet_row-met.ensures.others

-- and stay so
pub returns-clause-others : goal.returns-clause-others
returns-clause-others c =
    keep_then c.args.round.now c.args.others.now c.meet_row-met.new.others c.find_in-answer.new.others
    c.meet_row-met.ensures.others c.find_in-answer.ensures.others
