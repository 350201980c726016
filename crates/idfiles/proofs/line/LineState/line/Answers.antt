-- what each state is at the end of the line
use Rattle.std.proofs.Common.{◌≡◌, rules}
use Rattle.idfiles.specs.Machine.{at_end}
use Rattle.idfiles.specs.declared.line.Line.TheVariants.{Blank, Id, Bad}
use Rattle.idfiles.proofs.LawGrammar.{ends_as}
use Rattle.idfiles.proofs.line.LineState.line.Goals as goal

pub returns-in-Blank-clause-grammar : goal.returns-in-Blank-clause-grammar
returns-in-Blank-clause-grammar c =
    let e : at_end c.args.self ≡ Blank = search rules in λ text. ends_as c.args.self _ text e

pub returns-in-Bad-clause-grammar : goal.returns-in-Bad-clause-grammar
returns-in-Bad-clause-grammar c =
    let e : at_end c.args.self ≡ Bad = search rules in λ text. ends_as c.args.self _ text e

pub returns-in-Digits-clause-grammar : goal.returns-in-Digits-clause-grammar
returns-in-Digits-clause-grammar c =
    let e : at_end c.args.self ≡ Id c.in-Digits.value = search rules in λ text. ends_as c.args.self _ text e

pub returns-in-Digits-2-clause-grammar : goal.returns-in-Digits-2-clause-grammar
returns-in-Digits-2-clause-grammar c =
    let e : at_end c.args.self ≡ Id c.in-Digits.value = search rules in λ text. ends_as c.args.self _ text e

pub returns-in-Digits-3-clause-grammar : goal.returns-in-Digits-3-clause-grammar
returns-in-Digits-3-clause-grammar c =
    let e : at_end c.args.self ≡ Id c.in-Digits.value = search rules in λ text. ends_as c.args.self _ text e
