use Rattle.std.proofs.Common.{ℕ, List, IfErr, IfOk, subst, arith}
use Rattle.cells.specs.Known.{keys_at, row_at}
use Rattle.cells.specs.Tokens.{BlockValue}
use Rattle.fset.specs.Rows.{Builds, RefusesRow}
use Rattle.fset.proofs.laws.Built.{removed}
use Rattle.fset.proofs.rows.build_at.Goals as goal

-- the key to be taken out has its place among the others
pub build_without-requires-clause-within : goal.build_without-requires-clause-within
build_without-requires-clause-within c =
    let view = c.args.pass.now.view in
    let at = c.args.seen.now.at in
    let keys = keys_at view at in
    let row = c.sound.ensures.view.rows at (row_at view.known at) c.requires.knows.known in
    let gone = removed c.args.call c.args.key keys c.args.before c.in-Remove.is row.rising c.requires.changes c.requires.before in
    omega (arith, gone.0, c.requires.knows.count)

-- the keys without it are what the remove leaves
pub returns-in-Remove-clause-answer : goal.returns-in-Remove-clause-answer
returns-in-Remove-clause-answer c =
    let view = c.args.pass.now.view in
    let at = c.args.seen.now.at in
    let keys = keys_at view at in
    let row = c.sound.ensures.view.rows at (row_at view.known at) c.requires.knows.known in
    let gone = removed c.args.call c.args.key keys c.args.before c.in-Remove.is row.rising c.requires.changes c.requires.before in
    subst (λ (list : List ℕ). IfOk c.build_without.result (λ (block : BlockValue). Builds list block view c.build_without.new.pass.view))
    gone.1 c.build_without.ensures.answer

pub returns-in-Remove-clause-full : goal.returns-in-Remove-clause-full
returns-in-Remove-clause-full c =
    let view = c.args.pass.now.view in
    let at = c.args.seen.now.at in
    let keys = keys_at view at in
    let row = c.sound.ensures.view.rows at (row_at view.known at) c.requires.knows.known in
    let gone = removed c.args.call c.args.key keys c.args.before c.in-Remove.is row.rising c.requires.changes c.requires.before in
    subst (λ (list : List ℕ). IfErr c.build_without.result (λ _. RefusesRow list view c.build_without.new.pass.view))
    gone.1 c.build_without.ensures.full
