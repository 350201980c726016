use Rattle.std.proofs.Common.{◌≡◌, List, sym, ◌∙◌, subst}
use Rattle.step_core.specs.declared.format.TheConstants.{FIRST_KEY}
use Rattle.step_core.specs.declared.views.Known.{Known}
use Rattle.cells.specs.Tokens.{BlockValue}
use Rattle.fset.specs.Rows.{Builds}
use Rattle.fset.specs.Taking.{Copies}
use Rattle.fset.proofs.laws.Built.{row_refused}
use Rattle.fset.proofs.laws.Taking.{keys_built, keys_refused, started_known, still_known}
use Rattle.fset.proofs.copying.build_from.Goals as goal

-- the keys were counted, and then written
pub returns-clause-answer : goal.returns-clause-answer
returns-clause-answer g c =
    let left = g.K.KeySource.left in
    let count = c.count_left-count.result in
    let block = c.in-Ok.block in
    let old = c.args.pass.now.view in
    let counted = c.count_left-count.new.pass.view in
    let started = c.start_row.new.pass.view in
    let new = c.copy_left.new.pass.view in
    let loads = c.count_left-count.ensures.view in
    let known : started.known ≡ old.known = started_known count block counted started c.in-Ok.ensures.answer ∙ still_known old counted loads in
    subst (λ (last : BlockValue). Builds (left old.known c.args.keys) last old new) (sym c.copy_left.ensures.block)
    (keys_built (left old.known c.args.keys) count block old counted started new loads c.count_left-count.ensures.count c.in-Ok.ensures.answer
    (subst (λ (known : List Known). Copies block.at FIRST_KEY (left known c.args.keys) started new) known c.copy_left.ensures.copies))

-- or no block was to be had for them
pub returns-in_default-clause-full : goal.returns-in_default-clause-full
returns-in_default-clause-full g c =
    let old = c.args.pass.now.view in
    let counted = c.count_left-count.new.pass.view in
    let new = c.start_row.new.pass.view in
    let keys = g.K.KeySource.left old.known c.args.keys in
    keys_refused keys old counted new c.count_left-count.ensures.view
    (row_refused keys c.count_left-count.result counted new (sym c.count_left-count.ensures.count) c.in_default.ensures.full)
