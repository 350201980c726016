use Rattle.std.proofs.Common.{◌≡◌, ℕ, ◌+◌, ◌<◌, [], ◌∷◌, length, rules, subst, ap, ◌∙◌, arith}
use Rattle.arena.specs.Hands.{words_at}
use Rattle.atomic_table.specs.Table.{Me}
use Rattle.step_core.specs.declared.views.RoundFacts.{RoundFacts}
use Rattle.cells.specs.Seats.{facts_of, pass_of}
use Rattle.cells.specs.declared.rule.SeatView.{SeatView}
use Rattle.cells.specs.Steps.{Writes, view_after_write}
use Rattle.cells.specs.Tokens.{BlockValue, PassValue}
use Rattle.cells.proofs.laws.Within.{hand_within}
use Rattle.cells.proofs.laws.WritesAddUp.{writes_one}
use Rattle.cells.proofs.keeps.Write.{write_allows}
use Rattle.cells.proofs.round.Round.write.Goals as goal

-- a word of a block in hand lies in the arena
pub overflow_add-place : goal.overflow_add-place
overflow_add-place c =
    let seat = c.pass.inside.seat in
    let within : c.args.offset < length (words_at (pass_of seat.me.0).hands c.block.inside.at) = search rules in
    let inside = hand_within (pass_of seat.me.0) c.pass.invariant.sound c.block.inside.at c.args.offset within in
    let small = inside.small in
    omega arith

-- whatever the round is, the pass may write into a block in its hands
pub store-requires : goal.store-requires
store-requires c =
    let table = c.self.inside.table.shared in
    let seat = c.pass.inside.seat in
    let at = c.block.inside.at in
    let offset = c.args.offset in
    let within : offset < length (words_at (pass_of seat.me.0).hands at) = search rules in
    let same : (pass_of seat.me.0).facts ≡ facts_of table.key = search rules in
    let inside = (hand_within (pass_of seat.me.0) c.pass.invariant.sound at offset within).within in
    let end = ap (λ (facts : RoundFacts). facts.cap) same ∙ c.self.invariant.cap in
    let words = c.self.invariant.words in (
      search rules,
      omega arith,
      write_allows (facts_of table.key) table.table_id.slots seat.id seat.me at offset c.args.value c.pass.invariant.one within,
    )

-- the word is the block's, and no other block's
pub returns-clause-writes : goal.returns-clause-writes
returns-clause-writes c =
    let seat = c.pass.inside.seat in
    let at = c.block.inside.at in
    let within : c.args.offset < length (words_at (pass_of seat.me.0).hands at) = search rules in
    let tells = c.store.ensures.2 in
    let now : pass_of c.store.new.seat.me.0 ≡ view_after_write (at + c.args.offset) c.args.value (pass_of seat.me.0) =
    ap (λ (me : Me ℕ SeatView). pass_of me.0) tells.seat ∙ tells.tells in
    subst (λ (z : BlockValue × PassValue). Writes z.0.at c.args.offset (c.args.value ∷ []) z.1.view (pass_of c.store.new.seat.me.0))
    (λ k. (c.block.view_is k, c.pass.view_is k))
    (writes_one at c.args.offset c.args.value (pass_of seat.me.0) (pass_of c.store.new.seat.me.0) c.pass.invariant.sound within now)
