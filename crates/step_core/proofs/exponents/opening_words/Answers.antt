use Rattle.std.proofs.Common.{length, arith}
use Rattle.step_core.proofs.tables.OneExponent.{exponent_for-bound}
use Rattle.step_core.proofs.exponents.opening_words.Goals as goal

pub returns-clause-bound : goal.returns-clause-bound
returns-clause-bound c =
    let exponent = c.exponent_for.ensures in
    omega (arith, exponent_for-bound (length c.args.keys.now) c.exponent_for.result exponent.least)
