use Rattle.std.proofs.Common.{ap, ◌∙◌, ◌++◌, take}
use Rattle.outside.proofs.LawPieces.{take-put_mid_more}
use Rattle.outside.proofs.script.append_front.Goals as goal

pub returns-clause-copied : goal.returns-clause-copied
returns-clause-copied c =
    let copied = c.copy_front.ensures in
    take-put_mid_more c.args.used c.copy_front.result c.args.space.now c.copy_front.new.to c.requires.used copied.to
    ∙ ap (λ l. take c.args.used c.args.space.now ++ l) copied.copied
