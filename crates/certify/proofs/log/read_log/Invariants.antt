use Rattle.std.proofs.Common.{◌≡◌, ◌≤◌, ◌+◌, ◌++◌, length}
use Rattle.certify.specs.Log.{bad_from, calls_of, first_bad, lines_of, numbers_of}
use Rattle.certify.specs.declared.fault.TheConstants.{MAX_BYTES}
use Rattle.certify.proofs.log.read_log.Given as goal

-- with the lines that are left, the lines taken are those of the file
abbrev pub invariant-loop-rest : goal.invariant-loop-rest
invariant-loop-rest l = record {
  bad : bad_from l.log.is_ordered l.number (lines_of l.rest) ≡ first_bad l.bytes;
  claims : l.log.calls.items ++ calls_of (lines_of l.rest) ≡ calls_of (lines_of l.bytes);
  numbers : l.log.order.items ++ numbers_of (lines_of l.rest) ≡ numbers_of (lines_of l.bytes);
  count : l.number + length l.rest ≤ MAX_BYTES + 1;
}

abbrev pub decreases-loop-rest : goal.decreases-loop-rest
decreases-loop-rest l = length l.rest
