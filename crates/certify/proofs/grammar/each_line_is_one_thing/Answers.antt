use Rattle.certify.proofs.LawFound.{each_line}
use Rattle.certify.proofs.grammar.each_line_is_one_thing.Goals as goal

pub returns : goal.returns
returns c = each_line
