use Rattle.std.proofs.Common.{sym, ◌∙◌}
use Rattle.cells.proofs.laws.Lone.{ledger_of-next}
use Rattle.cells.proofs.tests.lone.draw_as_told.Goals as goal

-- the place found is the ledger's next
pub returns-in-Ok-clause-place : goal.returns-in-Ok-clause-place
returns-in-Ok-clause-place c =
    c.at.ensures ∙ c.in-Ok.ensures.answer.1.found.alone c.requires.alone ∙ sym (ledger_of-next c.args.pass.now.view)
