use Rattle.std.proofs.Common.{◌≡◌, ◌∙◌, ap, subst, arith}
use Rattle.step_core.specs.declared.views.PassView.{PassView}
use Rattle.cells.specs.Known.{keys_at}
use Rattle.cells.specs.Lone.{SameLedger}
use Rattle.cells.specs.Tokens.{PassValue}
use Rattle.fset.specs.Content.{loads_to_find}
use Rattle.fset.specs.Looking.{LooksUp}
use Rattle.hash_set.proofs.laws.Alone.{looks_alone}
use Rattle.hash_set.proofs.laws.Looking.{only_looks}
use Rattle.hash_set.proofs.lookup.contains.Goals as goal

-- the call looked at the key's row
pub returns-clause-looks : goal.returns-clause-looks
returns-clause-looks c =
    let view = c.look_up-row.new.pass.view in
    let row = c.look_up-row.result in
    only_looks c.args.key c.args.pass.now.view view c.find.new.pass.view row
    (loads_to_find (keys_at view row.at) c.args.key)
    (subst (λ (old : PassView). LooksUp c.args.key old row view) (ap (λ (pass : PassValue). pass.view) c.begin_call.ensures.pass)
    c.look_up-row.ensures.answer) (omega arith) c.find.ensures.view

-- and the ledger of the only pass answers it
pub returns-clause-ledger : goal.returns-clause-ledger
returns-clause-ledger c =
    let view = c.look_up-row.new.pass.view in
    let row = c.look_up-row.result in
    let begun = ap (λ (pass : PassValue). pass.view) c.begin_call.ensures.pass in
    looks_alone c.args.key (loads_to_find (keys_at view row.at) c.args.key) c.find.result row c.args.pass.now.view view
    c.find.new.pass.view c.sound.ensures.view.facts.rising
    (c.look_up-row.ensures.pass.facts ∙ ap (λ (view : PassView). view.facts) begun)
    (subst (λ (old : PassView). old.facts.seats ≡ 1 → SameLedger old view) begun c.look_up-row.ensures.answer.alone)
    c.find.ensures.answer c.look_up-row.ensures.answer.agrees c.find.ensures.view
