use Rattle.std.proofs.Common.{◌∙◌, arith}
use Rattle.certify.proofs.LawDigits.{number_none, number_some}
use Rattle.certify.proofs.number.number_in.Goals as goal

pub returns-in_err-front : goal.returns-in_err-front
returns-in_err-front c = c.from_residual.ensures ∙ number_none c.args.most c.args.text.now (omega arith) c.in_err-front.ensures

pub returns : goal.returns
returns c = number_some c.args.most c.args.text.now (omega arith)
    (omega arith) c.in_ok-front.ensures.0 c.in_ok-front.front c.in_ok-front.ensures.1
    c.with_digit.result c.with_digit.ensures
