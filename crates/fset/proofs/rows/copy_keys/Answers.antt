use Rattle.std.proofs.Common.{rules, ◌≡◌, ℕ, ◌+◌, ◌-◌, ◌≤◌, List, [], ◌∷◌, slice_index, slice_range, ap, ◌∙◌, subst, arith}
use Rattle.cells.specs.Frames.{after_reads}
use Rattle.cells.specs.Known.{keys_at}
use Rattle.cells.specs.Steps.{Writes}
use Rattle.cells.specs.Tokens.{BlockValue, IsSamePass}
use Rattle.cells.proofs.laws.Within.{hand_within}
use Rattle.fset.proofs.laws.Copying.{copied_one, writes_keys}
use Rattle.fset.proofs.rows.copy_keys.Goals as goal

-- the block lies in the arena
pub overflow_add-offset : goal.overflow_add-offset
overflow_add-offset c =
    let place = hand_within c.args.pass.now.view c.sound.ensures.view c.args.block.now.at (c.args.offset + (c.loop-i.i - c.args.from))
    (omega (arith, c.requires.room, c.loop-i-test.true, c.loop-i.invariant.begun)) in
    omega (arith, place.small)

-- one key more was loaded and written
pub loop-i-preserved : goal.loop-i-preserved
loop-i-preserved c =
    let keys = keys_at c.args.pass.now.view c.args.row in
    let same : IsSamePass c.args.pass.now c.write.new.pass = search rules in
    let block : c.write.new.block ≡ c.args.block.now = search rules in
    let begun : c.args.from ≤ c.loop-i.i + 1 = omega (arith, c.loop-i.invariant.begun) in
    let same_keys = writes_keys c.args.block.now.at c.args.offset c.args.row (slice_range keys c.args.from c.loop-i.i)
    (after_reads (c.loop-i.i - c.args.from) c.args.pass.now.view) c.loop-i.pass.view c.loop-i.invariant.writes in
    let key : c.key_at-key.result ≡ slice_index keys c.loop-i.i =
    c.key_at-key.ensures.answer ∙ ap (λ (list : List ℕ). slice_index list c.loop-i.i) same_keys in
    record {
      same = same;
      block = block;
      begun = begun;
      writes = copied_one c.args.block.now.at c.args.offset c.args.from c.loop-i.i c.key_at-key.result keys c.args.pass.now.view
          c.loop-i.pass.view c.key_at-key.new.pass.view c.write.new.pass.view c.loop-i.invariant.begun
          (omega (arith, c.requires.part.1, c.loop-i-test.true)) c.loop-i.invariant.writes c.key_at-key.ensures.view key
          (subst (λ (at : ℕ). Writes at (c.args.offset + (c.loop-i.i - c.args.from)) (c.key_at-key.result ∷ []) c.key_at-key.new.pass.view
          c.write.new.pass.view) (ap (λ (block : BlockValue). block.at) c.loop-i.invariant.block) c.write.ensures.writes);
    }
