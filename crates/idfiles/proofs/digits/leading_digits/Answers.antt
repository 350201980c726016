use Rattle.std.proofs.Common.{◌<◌, length, sym, ◌∙◌, arith}
use Rattle.idfiles.proofs.LawDigits.{longer}
use Rattle.idfiles.proofs.digits.leading_digits.Goals as goal

-- one digit more, which fits
pub returns-in-Some-clause-value : goal.returns-in-Some-clause-value
returns-in-Some-clause-value c =
    let front = c.safe_front-front in
    let bytes = c.args.bytes.now in
    let within : front.result.count < length bytes = omega (arith, front.ensures.count, c.if-count-bytes.false) in
    let next = longer bytes front.result.count within front.ensures.digits
    (sym c.is_ascii_digit.ensures.value ∙ c.if-not-is_ascii_digit.false) in
    c.in-Some.ensures.1 ∙ rw front.ensures.value next.value
