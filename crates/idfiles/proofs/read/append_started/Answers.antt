use Rattle.std.proofs.Common.{ℕ, ◌-◌, ◌++◌, take, subst, sym, ◌∙◌, arith}
use Rattle.std.proofs.KnownBytes.{Consumes-trans}
use Rattle.std.proofs.lemmas.Result.{err_from_is_err_and}
use Rattle.idfiles.specs.declared.fault.TheConstants.{MAX_BYTES}
use Rattle.idfiles.proofs.LoopRead.{HasRead, reads_piece}
use Rattle.idfiles.proofs.LawPrefix.{prefix_trans}
use Rattle.idfiles.proofs.LawAnswer.{read_fault, nothing_more, answers_all, answers_last, answers_piece}
use Rattle.idfiles.proofs.read.append_started.Goals as goal

-- the read failed
pub returns-in_default-clause-answer : goal.returns-in_default-clause-answer
returns-in_default-clause-answer g c =
    let left = g.I.Inputs.left in
    let so_far = c.pieces.invariant.read in
    let kept = rw c.in_default.is at c.read.ensures.left in
    read_fault c.args.file c.args.room c.pieces.left c.args.records.now.items
    so_far.0 (left c.args.inputs.now) (left c.pieces.inputs) (left c.read.new.self)
    c.pieces.scan c.pieces.records.items so_far.2 so_far.1 kept

-- the input ended, in a line that was refused
pub returns-in_err-end_line-clause-answer : goal.returns-in_err-end_line-clause-answer
returns-in_err-end_line-clause-answer g c =
    let left = g.I.Inputs.left in
    let so_far = c.pieces.invariant.read in
    let read = c.in-Ok.ensures.left in
    let none = c.if-count-eq0.true in
    let taken = nothing_more (left c.args.inputs.now) (left c.pieces.inputs) (left c.read.new.self) so_far.0 c.read.new.buf c.in-Ok.count
    none so_far.1 read.0 in
    let p = err_from_is_err_and c.from_residual.result c.from_residual.ensures.1 in
    rw (p.1, p.2)
    (answers_last c.args.file c.args.room c.pieces.left c.args.records.now.items
    so_far.0 (left c.args.inputs.now) (left c.read.new.self) c.pieces.scan
    c.pieces.records.items
    c.in_err-end_line.field-0.0 so_far.2 taken (read.1 none (omega arith)) c.in_err-end_line.ensures.read)

-- the input ended
pub returns-then-count-eq0-clause-answer : goal.returns-then-count-eq0-clause-answer
returns-then-count-eq0-clause-answer g c =
    let left = g.I.Inputs.left in
    let so_far = c.pieces.invariant.read in
    let read = c.in-Ok.ensures.left in
    let none = c.if-count-eq0.true in
    let taken = nothing_more (left c.args.inputs.now) (left c.pieces.inputs) (left c.read.new.self) so_far.0 c.read.new.buf c.in-Ok.count
    none so_far.1 read.0 in
    answers_all {T = Unit {0}} tt c.args.file c.args.room c.pieces.left c.args.records.now.items
    so_far.0 (left c.args.inputs.now) (left c.read.new.self) c.pieces.scan
    c.in_ok-end_line.field-0
    c.pieces.records.items c.end_line.new.records.items so_far.2 taken (read.1 none (omega arith)) c.in_ok-end_line.ensures.read

-- a piece had a fault
pub returns-in_err-scan-clause-answer : goal.returns-in_err-scan-clause-answer
returns-in_err-scan-clause-answer g c =
    let left = g.I.Inputs.left in
    let so_far = c.pieces.invariant.read in
    let piece = take c.in-Ok.count c.read.new.buf in
    let taken = Consumes-trans (left c.args.inputs.now) (left c.pieces.inputs) (left c.read.new.self) so_far.0 piece so_far.1
    c.in-Ok.ensures.left.0 in
    let p = err_from_is_err_and c.from_residual-in_err-scan.result c.from_residual-in_err-scan.ensures.1 in
    rw (p.1, p.2)
    (answers_piece c.args.file c.args.room c.pieces.left c.args.records.now.items
    so_far.0 piece (left c.args.inputs.now) (left c.read.new.self) c.pieces.scan
    c.pieces.records.items
    c.in_err-scan.field-0.0 so_far.2 taken c.in_err-scan.ensures.read)

-- one more piece was read without a fault
pub pieces-preserved : goal.pieces-preserved
pieces-preserved g c =
    let left = g.I.Inputs.left in
    let before = c.pieces.invariant in
    let so_far = before.read in
    let piece = take c.in-Ok.count c.read.new.buf in
    let taken = Consumes-trans (left c.args.inputs.now) (left c.pieces.inputs) (left c.read.new.self) so_far.0 piece so_far.1
    c.in-Ok.ensures.left.0 in
    let next = reads_piece MAX_BYTES c.args.file c.args.room c.pieces.left c.args.records.now.items
    so_far.0 piece c.pieces.scan c.in_ok-scan.scan
    c.pieces.records.items c.feed_within.new.records.items
    so_far.2 c.in_ok-scan.ensures.read c.in_ok-scan.ensures.within in
    let count = c.in-Ok.ensures.bound.1 in
    let now = subst (λ (n : ℕ). HasRead MAX_BYTES c.args.file c.args.room c.args.records.now.items (so_far.0 ++ piece)
    (c.pieces.left - n) c.in_ok-scan.scan c.feed_within.new.records.items) (sym count) next in
    record {
      read = (so_far.0 ++ piece, taken, now);
      front = prefix_trans _ _ _ before.front c.in_ok-scan.ensures.front;
      line = omega (arith, before.line, c.in_ok-scan.ensures.line, c.in_ok-scan.ensures.within, count);
      kept = c.in-Ok.ensures.cause.kept ∙ before.kept;
      files = c.in-Ok.ensures.files ∙ before.files;
    }
