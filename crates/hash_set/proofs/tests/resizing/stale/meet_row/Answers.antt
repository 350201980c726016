use Rattle.std.proofs.Common.{ℕ, subst}
use Rattle.cells.specs.Steps.{LoadsSealed}
use Rattle.fset.proofs.laws.Meeting.{before_known}
use Rattle.hash_set.proofs.laws.Playing.{keep_then}
use Rattle.hash_set.proofs.tests.resizing.stale.meet_row.Goals as goal

-- behind a nil bucket there is a generation before
pub load_key_bucket-bucket-requires-2-clause-knows : goal.load_key_bucket-bucket-requires-2-clause-knows
load_key_bucket-bucket-requires-2-clause-knows c =
    let v2 = c.load_key_bucket-bucket.new.pass.view in
    let v3 = c.load_sealed-predecessor.new.pass.view in
    let found = c.load_key_bucket-bucket.result in
    let predecessor = c.load_sealed-predecessor.result in
    before_known c.args.head c.args.key c.args.reader.now.view v2 v3
    (record { bucket = found.bucket; place = found.place; word = found.word }) predecessor
    c.load_key_bucket-bucket.ensures.answer c.if-bucket-ne0.false
    (subst (λ (place : ℕ). LoadsSealed place v2 predecessor v3) c.predecessor_place.ensures c.load_sealed-predecessor.ensures.answer)

-- the others acted twice
pub returns-clause-others : goal.returns-clause-others
returns-clause-others c =
    keep_then c.args.round.now c.args.others.now c.go_on.new.others c.go_on-2.new.others c.go_on.ensures c.go_on-2.ensures
