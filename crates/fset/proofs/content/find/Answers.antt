use Rattle.std.proofs.Common.{sym, ◌∙◌}
use Rattle.cells.specs.Known.{row_at}
use Rattle.fset.proofs.laws.Reading.{seen_content-plain}
use Rattle.fset.proofs.content.find.Goals as goal

-- no operation is published yet, so the content is the keys
pub returns-clause-answer : goal.returns-clause-answer
returns-clause-answer c =
    let view = c.args.pass.now.view in
    let seen = c.args.seen.now in
    let knows = c.requires.knows in
    let plain = knows.op ∙ c.sound.ensures.view.no_op seen.at (row_at view.known seen.at) knows.known in
    c.place_among.ensures.taken ∙ sym (seen_content-plain view seen c.args.key plain)
