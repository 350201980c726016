use Rattle.idfiles.proofs.LawLines.{file_has, lines_are}
use Rattle.idfiles.proofs.grammar.each_file_has_one_list_of_lines.Goals as goal

pub returns : goal.returns
returns c = λ bytes lines. (lines_are lines bytes, file_has bytes lines)
