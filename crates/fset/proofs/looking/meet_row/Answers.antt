use Rattle.std.proofs.Common.{ℕ, subst}
use Rattle.cells.specs.Steps.{LoadsSealed}
use Rattle.fset.proofs.laws.Meeting.{before_known}
use Rattle.fset.proofs.looking.meet_row.Goals as goal

-- behind a nil bucket there is a generation before
pub load_bucket_of-requires-clause-knows : goal.load_bucket_of-requires-clause-knows
load_bucket_of-requires-clause-knows c =
    let v2 = c.load_bucket_of-bucket.new.pass.view in
    let v3 = c.load_sealed-predecessor.new.pass.view in
    let predecessor = c.load_sealed-predecessor.result in
    before_known c.args.head c.args.key c.args.pass.now.view v2 v3 c.load_bucket_of-bucket.result predecessor c.load_bucket_of-bucket.ensures.answer
    c.if-bucket-ne0.false
    (subst (λ (place : ℕ). LoadsSealed place v2 predecessor v3) c.predecessor_place.ensures c.load_sealed-predecessor.ensures.answer)
