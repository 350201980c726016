use Rattle.std.proofs.Common.{◌≡◌, sym, ◌∙◌, ap, ℕ, ◌+◌, ◌-◌, ◌*◌, get_or, true}
use Rattle.std.specs.Char.{is_ascii_digit}
use Rattle.certify.proofs.LawDigits.{digits_value-safe, digits_more, value_more}
use Rattle.certify.proofs.number.few_digits.Goals as goal

-- one digit more fits behind those so far
pub with_safe_digit-value-requires-clause-safe : goal.with_safe_digit-value-requires-clause-safe
with_safe_digit-value-requires-clause-safe c =
    rw c.loop-byte.invariant.value
    (digits_value-safe c.args.text.now c.loop-byte.byte-index c.requires c.loop-byte-test.true c.loop-byte.invariant.digits)

pub loop-byte-preserved : goal.loop-byte-preserved
loop-byte-preserved c =
    let text = c.args.text.now in
    let i = c.loop-byte.byte-index in
    let ten : is_ascii_digit (get_or text i 0) ≡ true = sym c.if-not-is_ascii_digit.ensures.value in
    record {
      digits = digits_more text i c.loop-byte-test.true c.loop-byte.invariant.digits ten;
      value = c.with_safe_digit-value.ensures
          ∙ ap (λ (n : ℕ). n * 10 + (get_or text i 0 - 48)) c.loop-byte.invariant.value
          ∙ sym (value_more text i c.loop-byte-test.true ten);
    }
