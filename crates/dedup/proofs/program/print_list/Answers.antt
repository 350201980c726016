use Rattle.std.proofs.Common.{◌≡◌, [], Err, List, rules, sym, subst}
use Rattle.chain.specs.Chain.{RoundEnd}
use Rattle.dedup.specs.Run.{Ends}
use Rattle.dedup.specs.Words.{is_command, texts}
use Rattle.dedup.proofs.LawEnds.{Ends-unread}
use Rattle.dedup.proofs.program.print_list.Goals as goal

-- the words were refused
pub returns-in_err-asked-clause-ends : goal.returns-in_err-asked-clause-ends
returns-in_err-asked-clause-ends g c =
    let told = g.I.Inputs.files c.args.inputs.now in
    let words = texts c.args.words.now in
    let before = g.O.Sink.written c.args.out.now in
    let fault = c.in_err-asked.field-0.0 in
    let left = g.I.Inputs.left c.args.inputs.now in
    let refused : Ends told words [] left before before (Err fault) =
    Ends-unread told words left before (is_command words) fault c.in_err-asked.ensures.refused in
    let is : c.from_residual.result ≡ Err fault = search rules in
    subst (λ (rounds : List RoundEnd). Ends told words rounds left before before c.from_residual.result) (sym c.requires)
    (subst (Ends told words [] left before before) (sym is) refused)
