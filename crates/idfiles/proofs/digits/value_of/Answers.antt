use Rattle.std.proofs.Common.{◌∙◌}
use Rattle.idfiles.proofs.LawDigits.{digits-at, digits-take, digits_value-safe, longer}
use Rattle.idfiles.proofs.digits.value_of.Goals as goal

-- one digit more fits behind those so far
pub with_safe_digit-value-requires-clause-safe : goal.with_safe_digit-value-requires-clause-safe
with_safe_digit-value-requires-clause-safe c =
    let digits = c.args.digits.now in
    let place = c.loop-digit.digit-index in
    rw c.loop-digit.invariant
    (digits_value-safe digits place c.requires.safe c.loop-digit-test.true (digits-take digits place c.requires.digits))

pub with_safe_digit-value-requires-clause-digit : goal.with_safe_digit-value-requires-clause-digit
with_safe_digit-value-requires-clause-digit c =
    digits-at c.args.digits.now c.loop-digit.digit-index c.loop-digit-test.true c.requires.digits

pub loop-digit-preserved : goal.loop-digit-preserved
loop-digit-preserved c =
    let digits = c.args.digits.now in
    let place = c.loop-digit.digit-index in
    let next = longer digits place c.loop-digit-test.true (digits-take digits place c.requires.digits)
    (digits-at digits place c.loop-digit-test.true c.requires.digits) in
    c.with_safe_digit-value.ensures ∙ rw c.loop-digit.invariant next.value
