use Rattle.std.proofs.Common.{ℕ, sym, subst, arith}
use Rattle.fset.specs.Seen.{KnowsRowAt, ReadsRow}
use Rattle.fset.proofs.laws.AloneRows.{still_alone}
use Rattle.fset.proofs.laws.AloneSeeking.{finds_alone}
use Rattle.fset.proofs.laws.Sought.{finds_frozen, found_key, key_row_known}
use Rattle.fset.proofs.seeking.seek.Goals as goal

-- the bucket is frozen
pub returns-then-bucket-eq1-clause-answer : goal.returns-then-bucket-eq1-clause-answer
returns-then-bucket-eq1-clause-answer c =
    finds_frozen c.args.key c.args.pass.now.view c.in-Ok.bucket c.load_key_bucket.new.pass.view c.in-Ok.ensures.answer c.if-bucket-eq1.true

-- its row is known
pub read_row-row-requires-clause-knows : goal.read_row-row-requires-clause-knows
read_row-row-requires-clause-knows c =
    let view = c.load_key_bucket.new.pass.view in
    subst (KnowsRowAt view) (sym c.row_address.ensures)
    (key_row_known c.args.key c.args.pass.now.view c.in-Ok.bucket view c.in-Ok.ensures.answer)

-- bucket and row are found
pub returns-clause-answer : goal.returns-clause-answer
returns-clause-answer c =
    let view = c.load_key_bucket.new.pass.view in
    found_key c.args.key c.args.pass.now.view view c.read_row-row.new.pass.view c.in-Ok.bucket c.read_row-row.result c.in-Ok.ensures.answer
    (omega (arith, c.if-bucket-eq1.false))
    (subst (λ (at : ℕ). ReadsRow at view c.read_row-row.result c.read_row-row.new.pass.view) c.row_address.ensures
    c.read_row-row.ensures.answer)
    c.sound-2.ensures.view

-- For the only pass: the bucket isn't frozen,
pub returns-then-bucket-eq1-clause-ledger : goal.returns-then-bucket-eq1-clause-ledger
returns-then-bucket-eq1-clause-ledger c =
    λ alone. let even = (c.in-Ok.ensures.ledger alone).mutable in absurd (omega (arith, even, c.if-bucket-eq1.true))

-- and what is found is what the ledger says
pub returns-clause-ledger : goal.returns-clause-ledger
returns-clause-ledger c =
    let v0 = c.args.pass.now.view in
    let view = c.load_key_bucket.new.pass.view in
    λ alone. finds_alone c.args.key v0 view c.read_row-row.new.pass.view c.in-Ok.bucket c.read_row-row.result (c.in-Ok.ensures.ledger alone)
    (subst (λ (at : ℕ). ReadsRow at view c.read_row-row.result c.read_row-row.new.pass.view) c.row_address.ensures
    c.read_row-row.ensures.answer)
    (still_alone v0 view c.load_key_bucket.ensures.pass.facts alone)
