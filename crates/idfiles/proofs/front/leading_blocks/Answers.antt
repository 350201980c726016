use Rattle.std.proofs.Common.{◌≡◌, ◌-◌, ◌+◌, true, take, drop, sym, refl, ◌∙◌, arith}
use Rattle.std.specs.List.{list_all}
use Rattle.idfiles.specs.Kinds.{is_of}
use Rattle.idfiles.specs.declared.front.TheConstants.{BLOCK_BYTES}
use Rattle.idfiles.proofs.LawFront.{longer_front}
use Rattle.idfiles.proofs.front.leading_blocks.Goals as goal

-- one more block
pub loop-at-preserved : goal.loop-at-preserved
loop-at-preserved c =
    let bytes = c.args.bytes.now in
    let at = c.loop-at.at in
    let size : at + BLOCK_BYTES - at ≡ BLOCK_BYTES = omega arith in
    let passed : list_all (is_of c.args.kind) (take (at + BLOCK_BYTES - at) (drop at bytes)) ≡ true =
    sym c.all_of.ensures ∙ c.if-all_of.true in
    record {
      within = omega (arith, c.loop-at-test.true);
      all = longer_front (is_of c.args.kind) bytes (drop at bytes) at BLOCK_BYTES refl c.loop-at.invariant.all (rw size at passed);
    }
