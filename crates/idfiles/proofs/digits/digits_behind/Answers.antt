use Rattle.std.proofs.Common.{sym, ◌∙◌, arith}
use Rattle.idfiles.proofs.LawDigits.{digits_value-safe, longer}
use Rattle.idfiles.proofs.digits.digits_behind.Goals as goal

-- one digit more fits behind those so far
pub with_safe_digit-value-requires-clause-safe : goal.with_safe_digit-value-requires-clause-safe
with_safe_digit-value-requires-clause-safe c =
    let so_far = c.loop-count.invariant in
    rw so_far.value (digits_value-safe c.args.front.now c.loop-count.count c.requires.safe c.loop-count-test.true so_far.digits)

pub loop-count-preserved : goal.loop-count-preserved
loop-count-preserved c =
    let so_far = c.loop-count.invariant in
    let next = longer c.args.front.now c.loop-count.count c.loop-count-test.true so_far.digits
    (sym c.is_ascii_digit.ensures.value ∙ c.if-is_ascii_digit.true) in
    record {
      known = omega (arith, so_far.known);
      within = omega (arith, c.loop-count-test.true);
      digits = next.digits;
      value = c.with_safe_digit-value.ensures ∙ rw so_far.value next.value;
    }
