use Rattle.std.proofs.Common.{rules, ℕ, ◌+◌, List, [], ◌∷◌, sym, ap, ◌∙◌, subst, arith}
use Rattle.step_core.specs.declared.views.Known.{Known}
use Rattle.cells.specs.Steps.{Writes}
use Rattle.cells.specs.Tokens.{BlockValue, IsSamePass}
use Rattle.cells.proofs.laws.Within.{hand_within}
use Rattle.fset.proofs.laws.Taking.{CopiesFront, copies_all, copies_one, copies_within, loads_none, written_known}
use Rattle.fset.proofs.copying.copy_left.Goals as goal

-- the block lies in the arena
pub overflow_add-place : goal.overflow_add-place
overflow_add-place g c =
    let left = g.K.KeySource.left in
    let old = c.args.pass.now.view in
    let at = c.args.block.now.at in
    let inside = copies_within at c.loop-key.place c.in-Some.key (left old.known c.args.keys) (left c.loop-key.pass.view.known c.loop-key.left)
    (left c.take_first.new.pass.view.known c.take_first.new.self) old c.loop-key.pass.view c.loop-key.pass.view
    c.loop-key.invariant.copies c.in-Some.ensures.first (loads_none c.loop-key.pass.view) c.requires.room in
    let place = hand_within old c.sound.ensures.view at c.loop-key.place (omega (arith, inside, c.loop-key.invariant.copies.copies.1.long)) in
    omega (arith, place.small)

-- one key more was taken and written
pub loop-key-preserved : goal.loop-key-preserved
loop-key-preserved g c =
    let left = g.K.KeySource.left in
    let old = c.args.pass.now.view in
    let before = c.loop-key.invariant in
    let at = c.args.block.now.at in
    let place = c.loop-key.place in
    let key = c.in-Some.key in
    let v1 = c.loop-key.pass.view in
    let v2 = c.take_first.new.pass.view in
    let v3 = c.write.new.pass.view in
    let same : IsSamePass c.args.pass.now c.write.new.pass = search rules in
    let still = written_known c.loop-key.block.at place (key ∷ []) v2 v3 c.write.ensures.writes in
    record {
      same = same;
      block = c.write.ensures.block ∙ before.block;
      knows = subst (λ (known : List Known). g.K.KeySource.are_known known c.take_first.new.self) (sym still) c.take_first.ensures.knows;
      copies = subst (λ (known : List Known). CopiesFront at (place + 1) (left old.known c.args.keys) (left known c.take_first.new.self) old v3)
          (sym still)
          (copies_one at place key (left old.known c.args.keys) (left v1.known c.loop-key.left) (left v2.known c.take_first.new.self) old v1 v2
          before.copies c.in-Some.ensures.first c.take_first.ensures.view v3
          (subst (λ (at : ℕ). Writes at place (key ∷ []) v2 v3) (ap (λ (block : BlockValue). block.at) before.block) c.write.ensures.writes));
    }

-- no key is left
pub returns-clause-copies : goal.returns-clause-copies
returns-clause-copies g c =
    let left = g.K.KeySource.left in
    let old = c.args.pass.now.view in
    copies_all c.args.block.now.at c.loop-key.place (left old.known c.args.keys) (left c.loop-key.pass.view.known c.loop-key.left) old
    c.loop-key.pass.view c.take_first.new.pass.view c.loop-key.invariant.copies c.in_default.ensures.first.0 c.take_first.ensures.view
