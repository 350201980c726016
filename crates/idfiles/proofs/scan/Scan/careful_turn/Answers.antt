use Rattle.std.proofs.Common.{◌≡◌}
use Rattle.idfiles.specs.declared.line.LineState.TheVariants.{Blank}
use Rattle.idfiles.proofs.LoopFeed.{takes_lines, takes_run}
use Rattle.idfiles.proofs.scan.Scan.careful_turn.Goals as goal

-- bytes without an LF were taken
pub returns-then-bytes-ne10-clause-read : goal.returns-then-bytes-ne10-clause-read
returns-then-bytes-ne10-clause-read c =
    let run = c.run-run in
    rw run.ensures.state (takes_run c.args.self c.args.records.now.items c.args.bytes.now run.result.taken run.ensures.inner)

-- LFs were taken where a line has nothing but blanks
pub returns-then-is_blank-clause-read : goal.returns-then-is_blank-clause-read
returns-then-is_blank-clause-read c =
    let lines = c.leading-lines in
    let blank : c.args.self.state ≡ Blank = c.is_blank.ensures.0 c.if-is_blank.true in
    takes_lines c.args.self c.args.records.now.items c.args.bytes.now lines.result lines.ensures.within blank lines.ensures.all
