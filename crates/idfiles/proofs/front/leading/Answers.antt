use Rattle.std.proofs.Common.{length, ◌-◌, take, drop}
use Rattle.idfiles.specs.Kinds.{is_of}
use Rattle.idfiles.proofs.LawFront.{longer_front}
use Rattle.idfiles.proofs.LoopFeed.{slice_from}
use Rattle.idfiles.proofs.front.leading.Goals as goal

-- the blocks, and the bytes behind them
pub returns-clause-all : goal.returns-clause-all
returns-clause-all c =
    let bytes = c.args.bytes.now in
    let at = c.leading_blocks-blocks.result in
    longer_front (is_of c.args.kind) bytes (take (length bytes - at) (drop at bytes)) at c.leading_bytes.result (slice_from bytes at)
    c.leading_blocks-blocks.ensures.all c.leading_bytes.ensures.all
