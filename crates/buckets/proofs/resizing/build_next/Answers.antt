use Rattle.std.proofs.Common.{ℕ, ◌+◌, false, subst}
use Rattle.step_core.specs.Ledger.{drawing}
use Rattle.step_core.specs.declared.format.TheConstants.{FIRST_BUCKET}
use Rattle.cells.specs.Lone.{ledger_of, EndsAs}
use Rattle.buckets.proofs.laws.AloneResizing.{next_drawn}
use Rattle.buckets.proofs.resizing.build_next.Goals as goal

-- the generation is drawn as the ledger of the only pass says
pub returns-clause-ledger : goal.returns-clause-ledger
returns-clause-ledger c = λ alone.
    let old = c.args.pass.now.view in
    let block = c.in_ok-block.block in
    let new = c.write-2.new.pass.view in
    subst (λ (count : ℕ). EndsAs (drawing (FIRST_BUCKET + count) (ledger_of old)) false new) c.bucket_count.ensures.count
    (next_drawn (FIRST_BUCKET + c.bucket_count.result) (block.at + 0) c.into.result (c.write.new.block.at + 1) c.args.head old c.draw.new.pass.view
    c.write.new.pass.view new c.in_ok-block.ensures.alone c.write.ensures.view c.write-2.ensures.view alone)
