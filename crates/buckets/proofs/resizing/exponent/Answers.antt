use Rattle.std.proofs.Common.{refl}
use Rattle.buckets.proofs.laws.AloneResizing.{stays_alone}
use Rattle.buckets.proofs.resizing.exponent.Goals as goal

-- it is the exponent of the ledger
pub returns-clause-ledger : goal.returns-clause-ledger
returns-clause-ledger c = λ alone.
    stays_alone c.load_head.result.at c.load_head.result.exponent c.args.pass.now.view c.load_head.new.pass.view
    c.load_head.ensures.answer alone c.load_head.result.exponent refl
