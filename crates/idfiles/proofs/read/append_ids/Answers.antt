use Rattle.std.proofs.Common.{Ok, sym, ◌∙◌}
use Rattle.std.proofs.lemmas.Result.{err_from_is_err_and}
use Rattle.std.specs.Option.{option_map}
use Rattle.outside.specs.Files.{bytes_of}
use Rattle.idfiles.proofs.LawAnswer.{no_memory, no_start}
use Rattle.idfiles.proofs.LawFile.{failed, in_room}
use Rattle.idfiles.proofs.read.append_ids.Goals as goal

-- there was no memory for the buffer
pub returns-in_err-buffer-clause-answer : goal.returns-in_err-buffer-clause-answer
returns-in_err-buffer-clause-answer g c =
    let p = err_from_is_err_and c.from_residual.result c.from_residual.ensures.1 in
    rw (p.1, p.2) (no_memory c.args.file c.args.room
    (option_map (λ files. bytes_of files c.args.name.now) (g.I.Inputs.files c.args.inputs.now)) (g.I.Inputs.left c.args.inputs.now))

-- the file couldn't be started
pub returns-then-is_err-clause-answer : goal.returns-then-is_err-clause-answer
returns-then-is_err-clause-answer g c =
    no_start c.args.file c.args.room (option_map (λ files. bytes_of files c.args.name.now) (g.I.Inputs.files c.args.inputs.now))
    (g.I.Inputs.left c.start.new.self) (failed c.start.result c.start.ensures.left.nothing (sym c.is_err.ensures.value ∙ c.if-is_err.true))

pub returns-clause-room : goal.returns-clause-room
returns-clause-room g c =
    in_room c.args.file c.args.room (g.I.Inputs.left c.start.new.self) (g.I.Inputs.left c.append_started-read.new.inputs)
    (Ok c.in_default.field-0) c.args.records.now c.append_started-read.new.records c.in_default.ensures.answer
