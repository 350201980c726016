use Rattle.std.proofs.Common.{arith}
use Rattle.std.proofs.lemmas.Result.{err_from_is_err_and}
use Rattle.idfiles.proofs.LawPrefix.{prefix_trans}
use Rattle.idfiles.proofs.LoopPlain.{has_digits, refuses_plain, takes_digits, takes_plain}
use Rattle.idfiles.proofs.scan.Scan.plain_lines.Goals as goal

-- digits with something else than an LF behind them
pub returns-then-front-digits-ne10-clause-read : goal.returns-then-front-digits-ne10-clause-read
returns-then-front-digits-ne10-clause-read c =
    let bytes = c.args.bytes.now in
    let before = c.loop-at.invariant in
    let found = c.leading_digits-digits in
    let has = has_digits bytes c.loop-at.at found.result.count found.result.value (omega (arith, c.loop-at-test.true))
    (omega (arith, c.if-digits-eq0.false)) found.ensures.count.0 found.ensures.digits found.ensures.value (omega arith) in
    rw c.of_digits-scan.ensures
    (takes_digits bytes c.loop-at.at found.result.count found.result.value c.loop-at.scan c.loop-at.records.items _ has
    before.blank before.rest)

-- the room or the memory for a record was missing
pub returns-in_err-scan-clause-read : goal.returns-in_err-scan-clause-read
returns-in_err-scan-clause-read c =
    let bytes = c.args.bytes.now in
    let before = c.loop-at.invariant in
    let found = c.leading_digits-digits in
    let has = has_digits bytes c.loop-at.at found.result.count found.result.value (omega (arith, c.loop-at-test.true))
    (omega (arith, c.if-digits-eq0.false)) found.ensures.count.0 found.ensures.digits found.ensures.value (omega arith) in
    let p = err_from_is_err_and c.from_residual.result c.from_residual.ensures.1 in
    rw (p.1, p.2)
    (refuses_plain bytes c.loop-at.at found.result.count found.result.value c.loop-at.scan c.loop-at.records.items _ c.in_err-scan.field-0.0
    has c.if-front-digits-ne10.false before.blank before.rest c.in_err-scan.ensures.read)

-- one line more was read
pub loop-at-preserved : goal.loop-at-preserved
loop-at-preserved c =
    let bytes = c.args.bytes.now in
    let before = c.loop-at.invariant in
    let found = c.leading_digits-digits in
    let has = has_digits bytes c.loop-at.at found.result.count found.result.value (omega (arith, c.loop-at-test.true))
    (omega (arith, c.if-digits-eq0.false)) found.ensures.count.0 found.ensures.digits found.ensures.value (omega arith) in
    let next = takes_plain bytes c.loop-at.at found.result.count found.result.value c.loop-at.scan c.in_ok-scan.scan c.loop-at.records.items
    c.end_id.new.records.items _ has c.if-front-digits-ne10.false before.blank before.rest c.in_ok-scan.ensures.read in
    record {
      blank = next.0;
      within = omega (arith, c.loop-at-test.true, found.ensures.count);
      line = omega (arith, before.line, c.in_ok-scan.ensures.line);
      front = prefix_trans _ _ _ before.front c.in_ok-scan.ensures.front;
      rest = next.1;
    }
