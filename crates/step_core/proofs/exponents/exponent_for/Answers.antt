use Rattle.std.proofs.Common.{arith}
use Rattle.step_core.proofs.tables.OneExponent.{exponent_for-only}
use Rattle.step_core.proofs.exponents.exponent_for.Goals as goal

pub returns-then-count-bucket_count-clause-exponent : goal.returns-then-count-bucket_count-clause-exponent
returns-then-count-bucket_count-clause-exponent c =
    exponent_for-only c.args.count c.loop-exponent.exponent (record {
      enough = omega (arith, c.if-count-bucket_count.true, c.bucket_count.ensures.count);
      least = c.loop-exponent.invariant;
    })
