use Rattle.std.proofs.Common.{Some, take, sym, ◌≡◌, ◌∙◌}
use Rattle.idfiles.specs.Machine.{keeps_at}
use Rattle.idfiles.proofs.LawRun.{is_inner-kept, kept_at}
use Rattle.idfiles.proofs.line.LineState.run.Goals as goal

pub returns-in-Some-clause-inner : goal.returns-in-Some-clause-inner
returns-in-Some-clause-inner c =
    let kept : keeps_at c.args.self ≡ Some c.in-Some.kind = sym c.keeps_at.ensures ∙ c.in-Some.is in
    is_inner-kept c.args.self c.in-Some.kind (take c.leading.result c.args.bytes.now) kept c.leading.ensures.all

pub returns-in-Some-clause-state : goal.returns-in-Some-clause-state
returns-in-Some-clause-state c =
    let kept : keeps_at c.args.self ≡ Some c.in-Some.kind = sym c.keeps_at.ensures ∙ c.in-Some.is in
    kept_at c.args.self c.in-Some.kind (take c.leading.result c.args.bytes.now) kept c.leading.ensures.all
