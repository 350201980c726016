use Rattle.std.proofs.Common.{◌^◌, ◌<◌, take, arith}
use Rattle.std.specs.Str.Parse.{digits_value}
use Rattle.idfiles.proofs.LawRun.{is_inner-digits, blank_front}
use Rattle.idfiles.proofs.line.digits_run.Goals as goal

pub returns-clause-inner : goal.returns-clause-inner
returns-clause-inner c =
    is_inner-digits (take c.leading_digits-digits.result.count c.args.bytes.now) c.leading_digits-digits.ensures.digits

pub returns-clause-state : goal.returns-clause-state
returns-clause-state c =
    let digits = c.leading_digits-digits in
    let front = take digits.result.count c.args.bytes.now in
    let some = digits.ensures.some c.requires in
    let fits : digits_value 10 front < 2 ^ 64 = omega (arith, digits.ensures.value) in
    rw (c.of_digits.ensures, digits.ensures.value)
    (blank_front digits.result.count c.args.bytes.now some digits.ensures.count.0 digits.ensures.count.1 digits.ensures.digits fits)
