use Rattle.std.proofs.Common.{sym, ◌∙◌}
use Rattle.std.proofs.lemmas.Result.{err_from_is_err_and}
use Rattle.std.specs.Option.{option_map}
use Rattle.outside.specs.Files.{bytes_of}
use Rattle.certify.proofs.LoopRead.{no_memory, read_fault, reads_started}
use Rattle.certify.proofs.read.read_file.Goals as goal

-- there was no memory for the buffer
pub returns-in_err-buffer-clause-answer : goal.returns-in_err-buffer-clause-answer
returns-in_err-buffer-clause-answer g c =
    let p = err_from_is_err_and c.from_residual.result c.from_residual.ensures.1 in
    rw (p.1, p.2) (no_memory (option_map (λ files. bytes_of files c.args.name.now) (g.I.Inputs.files c.args.inputs.now)))

-- the file couldn't be started
pub returns-then-is_err-clause-answer : goal.returns-then-is_err-clause-answer
returns-then-is_err-clause-answer g c =
    read_fault (option_map (λ files. bytes_of files c.args.name.now) (g.I.Inputs.files c.args.inputs.now))

-- the file was started, and its bytes were left to be read
pub returns-clause-answer : goal.returns-clause-answer
returns-clause-answer g c =
    let left = g.I.Inputs.left in
    reads_started (g.I.Inputs.files c.args.inputs.now) (left c.args.inputs.now) (left c.start.new.self) c.args.name.now c.start.result
    c.read_started.result (sym c.is_err.ensures.value ∙ c.if-is_err.false) c.start.ensures.left c.read_started.ensures.answer
