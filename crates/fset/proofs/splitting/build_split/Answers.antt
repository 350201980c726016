use Rattle.std.proofs.Common.{ℕ, List, IfErr, IfOk, subst}
use Rattle.fset.specs.Rows.{Builds, RefusesRow}
use Rattle.fset.proofs.laws.Splitting.{split_left, split_room}
use Rattle.fset.proofs.splitting.build_split.Goals as goal

-- a known row lies in the arena, so one of a part of its keys fits into one draw
pub build_from-requires-clause-fits : goal.build_from-requires-clause-fits
build_from-requires-clause-fits c =
    split_room c.args.exponent c.args.bucket c.args.pass.now.view c.args.seen.now c.of-row.result c.sound.ensures.view c.requires.knows c.of-row.ensures

-- no operation is published yet, so the content is the keys
pub returns-clause-answer : goal.returns-clause-answer
returns-clause-answer c =
    let old = c.args.pass.now.view in
    subst (λ (keys : List ℕ). IfOk c.build_from.result (λ block. Builds keys block old c.build_from.new.pass.view))
    (split_left c.args.exponent c.args.bucket old c.args.seen.now c.of-row.result c.sound.ensures.view c.requires.knows c.of-row.ensures)
    c.build_from.ensures.answer

pub returns-clause-full : goal.returns-clause-full
returns-clause-full c =
    let old = c.args.pass.now.view in
    subst (λ (keys : List ℕ). IfErr c.build_from.result (λ _. RefusesRow keys old c.build_from.new.pass.view))
    (split_left c.args.exponent c.args.bucket old c.args.seen.now c.of-row.result c.sound.ensures.view c.requires.knows c.of-row.ensures)
    c.build_from.ensures.full
