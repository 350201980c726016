use Rattle.std.proofs.Common.{◌≡◌, ◌+◌, ◌-◌, ◌≤◌, length, drop}
use mathlib.Core.List.{IsPrefix}
use Rattle.idfiles.specs.Scan.{scanned}
use Rattle.idfiles.specs.declared.line.LineState.TheVariants.{Blank}
use Rattle.idfiles.proofs.scan.Scan.plain_lines.Given as goal

-- what is left, read from here, gives what all gives, read from the start
abbrev pub invariant-loop-at : goal.invariant-loop-at
invariant-loop-at l = record {
  blank : l.scan.state ≡ Blank;
  within : l.at ≤ length l.bytes;
  line : l.scan.line ≤ l.fn.self.line + l.at;
  front : IsPrefix l.fn.records.items l.records.items;
  rest : scanned l.scan l.records.items (drop l.at l.bytes) ≡ scanned l.fn.self l.fn.records.items l.bytes;
}

abbrev pub decreases-loop-at : goal.decreases-loop-at
decreases-loop-at l = length l.bytes - l.at
