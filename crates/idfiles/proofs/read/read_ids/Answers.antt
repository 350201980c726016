use Rattle.std.proofs.Common.{Ok, Err}
use Rattle.std.proofs.lemmas.Result.{err_from_is_err_and}
use Rattle.idfiles.proofs.LawFile.{given_alone, reads_back}
use Rattle.idfiles.proofs.read.read_ids.Goals as goal

-- the file was refused
pub returns-in_err-append_ids-clause-read_back : goal.returns-in_err-append_ids-clause-read_back
returns-in_err-append_ids-clause-read_back g c =
    let p = err_from_is_err_and c.from_residual.result c.from_residual.ensures.1 in
    rw (p.1, p.2)
    (reads_back c.args.file c.args.room (g.I.Inputs.files c.args.inputs.now) c.args.name.now (g.I.Inputs.left c.append_ids.new.inputs)
    (Err c.in_err-append_ids.field-0.0) c.in_err-append_ids.ensures.answer)

-- the file was read, behind no records
pub returns-clause-read_back : goal.returns-clause-read_back
returns-clause-read_back g c =
    let files = g.I.Inputs.files c.args.inputs.now in
    let left = g.I.Inputs.left c.append_ids.new.inputs in
    reads_back c.args.file c.args.room files c.args.name.now left (Ok c.append_ids.new.records)
    (given_alone c.in_ok-append_ids.field-0 c.args.file c.args.room files c.args.name.now left c.new-records.result.items
    c.append_ids.new.records c.new-records.ensures.items c.in_ok-append_ids.ensures.answer)
