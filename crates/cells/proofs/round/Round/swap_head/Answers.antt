use Rattle.std.proofs.Common.{rules, ◌==◌, sym, refl, subst}
use mathlib.Core.Option.{none}
use prog.Atomic.{either}
use Rattle.atomic_table.specs.Table.{step}
use Rattle.step_core.specs.declared.format.TheConstants.{HEAD}
use Rattle.step_core.specs.declared.kinds.Step.TheVariants.{SwapHead}
use Rattle.cells.specs.HeadSwaps.{MaySwapHead}
use Rattle.cells.specs.Moves.{HeadTells}
use Rattle.cells.specs.Seats.{facts_of, pass_of}
use Rattle.cells.specs.Tokens.{BlockValue, PassValue}
use Rattle.cells.proofs.keeps.SwapHead.{swap_head_moves}
use Rattle.cells.proofs.laws.Seats.{pass_allows}
use Rattle.cells.proofs.round.Round.swap_head.Goals as goal

-- whatever the round is, the pass may exchange the head that it knows for its generation
pub compare_exchange-found-requires : goal.compare_exchange-found-requires
compare_exchange-found-requires c =
    let table = c.self.inside.table.shared in
    let seat = c.pass.inside.seat in
    let view = pass_of seat.me.0 in
    let first = c.args.old in
    let second = c.block.inside.at in
    let may = subst (λ (z : PassValue × BlockValue). MaySwapHead z.0.view first z.1.at)
    (λ i. (sym c.pass.view_is i, sym c.block.view_is i)) c.requires.may in
    let made = step table.table_id.slots HEAD first second none in (
      search rules,
      search rules,
      pass_allows (facts_of table.key) table.table_id.slots seat.id seat.me HEAD (λ word. either (word == first) second word)
          (SwapHead first second) HeadTells made c.pass.invariant.one refl (λ words state history round. refl)
          (swap_head_moves (facts_of table.key) view made may),
    )
