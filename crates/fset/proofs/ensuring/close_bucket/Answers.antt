use Rattle.std.proofs.Common.{ℕ, subst, arith}
use Rattle.fset.specs.Seen.{ReadsRow}
use Rattle.fset.proofs.laws.AloneClosing.{closed_alone}
use Rattle.fset.proofs.laws.Closing.{bucket_closed, source_within}
use Rattle.fset.proofs.ensuring.close_bucket.Goals as goal

-- the bucket lies in the arena
pub overflow_add-at : goal.overflow_add-at
overflow_add-at c =
    let small = source_within c.args.at c.args.bucket c.args.pass.now.view c.requires.knows c.sound.ensures.view in
    omega (arith, small)

pub overflow_add-at-2 : goal.overflow_add-at-2
overflow_add-at-2 c =
    let small = source_within c.args.at c.args.bucket c.args.pass.now.view c.requires.knows c.sound.ensures.view in
    omega (arith, small)

-- it is closed
pub returns-clause-answer : goal.returns-clause-answer
returns-clause-answer c =
    let v0 = c.args.pass.now.view in
    let v1 = c.freeze-word.new.pass.view in
    bucket_closed c.args.at c.args.bucket v0 v1 c.freeze-word.result c.freeze-word.ensures.answer c.requires.knows c.read_row-row.new.pass.view
    c.read_row-row.result
    (subst (λ (at : ℕ). ReadsRow at v1 c.read_row-row.result c.read_row-row.new.pass.view) c.row_address.ensures c.read_row-row.ensures.answer)
    c.sound.ensures.view c.sound-3.ensures.view

-- for the only pass, it has what the set has of untouched buckets
pub returns-clause-ledger : goal.returns-clause-ledger
returns-clause-ledger c =
    let v0 = c.args.pass.now.view in
    let v1 = c.freeze-word.new.pass.view in
    λ alone. closed_alone c.args.at c.args.bucket v0 v1 c.freeze-word.result c.freeze-word.ensures.answer c.read_row-row.new.pass.view
    c.read_row-row.result
    (subst (λ (at : ℕ). ReadsRow at v1 c.read_row-row.result c.read_row-row.new.pass.view) c.row_address.ensures c.read_row-row.ensures.answer)
    c.sound.ensures.view c.sound-3.ensures.view alone (c.freeze-word.ensures.answer.alone alone)
