use Rattle.std.proofs.Common.{take, arith}
use Rattle.std.proofs.lemmas.Result.{err_from_is_err_and}
use Rattle.certify.proofs.LoopRead.{no_memory, read_fault, reads_too_much}
use Rattle.certify.proofs.read.read_started.Goals as goal

-- the read failed
pub returns-in_default-clause-answer : goal.returns-in_default-clause-answer
returns-in_default-clause-answer g c = read_fault (g.I.Inputs.left c.args.inputs.now)

-- one byte too many was read
pub returns-then-count-len-clause-answer : goal.returns-then-count-len-clause-answer
returns-then-count-len-clause-answer g c =
    let left = g.I.Inputs.left in
    let piece = take c.in-Ok.count c.read.new.buf in
    reads_too_much (left c.args.inputs.now) (left c.pieces.inputs) (left c.read.new.self) c.pieces.bytes.items piece
    (omega (arith, c.in-Ok.ensures.bound.1, c.len.ensures, c.pieces.bytes.ok))
    c.pieces.invariant.taken c.in-Ok.ensures.left.0

-- there was no memory for it
pub returns-in_err-extend_from_slice-clause-answer : goal.returns-in_err-extend_from_slice-clause-answer
returns-in_err-extend_from_slice-clause-answer g c =
    let p = err_from_is_err_and c.from_residual.result c.from_residual.ensures.1 in
    rw (p.1, p.2) (no_memory (g.I.Inputs.left c.args.inputs.now))
