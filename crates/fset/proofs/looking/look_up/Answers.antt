use Rattle.cells.proofs.laws.HeadLoads.{load_head_knows}
use Rattle.fset.proofs.laws.LookedUp.{head_now, looked_up, met_known}
use Rattle.fset.proofs.laws.Meeting.{met_row}
use Rattle.fset.proofs.laws.Visiting.{met_once, once_read}
use Rattle.fset.proofs.looking.look_up.Goals as goal

-- the head is known, from the front of now
pub meet_row-at-requires-clause-knows : goal.meet_row-at-requires-clause-knows
meet_row-at-requires-clause-knows c =
    let loads = c.load_head-head.ensures.answer in
    (loads.generation, load_head_knows c.args.pass.now.view c.load_head-head.result c.load_head-head.new.pass.view loads)

pub meet_row-at-requires-clause-now : goal.meet_row-at-requires-clause-now
meet_row-at-requires-clause-now c =
    head_now c.args.pass.now.view c.load_head-head.result c.load_head-head.new.pass.view c.load_head-head.ensures.answer

-- the row is met
pub read_row-seen-requires-clause-knows : goal.read_row-seen-requires-clause-knows
read_row-seen-requires-clause-knows c =
    let v1 = c.load_head-head.new.pass.view in
    let v2 = c.meet_row-at.new.pass.view in
    met_known c.args.key c.meet_row-at.result v1 v2
    (met_row c.load_head-head.result c.args.key c.meet_row-at.result v1 v2 c.sound.ensures.view
    (head_now c.args.pass.now.view c.load_head-head.result v1 c.load_head-head.ensures.answer) c.meet_row-at.ensures.answer)

-- and read
pub returns-clause-answer : goal.returns-clause-answer
returns-clause-answer c =
    let v1 = c.load_head-head.new.pass.view in
    let v2 = c.meet_row-at.new.pass.view in
    looked_up c.args.key c.load_head-head.result c.meet_row-at.result c.args.pass.now.view v1 v2 c.read_row-seen.new.pass.view
    c.read_row-seen.result c.load_head-head.ensures.answer
    (met_row c.load_head-head.result c.args.key c.meet_row-at.result v1 v2 c.sound.ensures.view
    (head_now c.args.pass.now.view c.load_head-head.result v1 c.load_head-head.ensures.answer) c.meet_row-at.ensures.answer)
    c.read_row-seen.ensures.answer c.sound-3.ensures.view
    (once_read c.load_head-head.result c.args.key c.meet_row-at.result c.args.pass.now.view v1 v2 c.read_row-seen.new.pass.view c.read_row-seen.result
    c.load_head-head.ensures.answer c.read_row-seen.ensures.answer
    (met_once c.load_head-head.result c.args.key c.meet_row-at.result v1 v2 c.sound.ensures.view c.sound-2.ensures.view c.meet_row-at.ensures.answer))
