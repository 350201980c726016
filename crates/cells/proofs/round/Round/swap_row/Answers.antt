use Rattle.std.proofs.Common.{rules, ◌≡◌, ◌-◌, ◌==◌, refl, sym, ap, ◌∙◌, subst, arith}
use mathlib.Core.Option.{some}
use prog.Atomic.{either}
use Rattle.atomic_table.specs.Table.{step}
use Rattle.step_core.specs.declared.kinds.Step.TheVariants.{SwapRow}
use Rattle.step_core.specs.declared.views.RoundFacts.{RoundFacts}
use Rattle.cells.specs.Exchanges.{MaySwapRow}
use Rattle.cells.specs.Moves.{SwapTells}
use Rattle.cells.specs.Seats.{facts_of, pass_of}
use Rattle.cells.specs.Tokens.{BlockValue, HasNewCall, PassValue}
use Rattle.cells.proofs.keeps.SwapRow.{swap_row_moves}
use Rattle.cells.proofs.laws.Seats.{pass_allows}
use Rattle.cells.proofs.laws.Swaps.{swap_fits, swap_within}
use Rattle.cells.proofs.laws.Swapped.{swapped_whole}
use Rattle.cells.proofs.round.Round.swap_row.Goals as goal

-- the row in hand lies in the arena
pub mutable_word-new-requires : goal.mutable_word-new-requires
mutable_word-new-requires c =
    let may = subst (λ (z : PassValue × BlockValue). MaySwapRow z.0.view c.args.at c.args.old z.1.at)
    (λ i. (sym c.pass.view_is i, sym c.block.view_is i)) c.requires.swap in
    swap_fits (pass_of c.pass.inside.seat.me.0) c.args.at c.args.old c.block.inside.at may c.pass.invariant.sound

-- whatever the round is, the pass may exchange the word that it loaded for that of its row
pub compare_exchange_with-found-requires : goal.compare_exchange_with-found-requires
compare_exchange_with-found-requires c =
    let table = c.self.inside.table.shared in
    let seat = c.pass.inside.seat in
    let old = pass_of seat.me.0 in
    let at = c.args.at in
    let first = c.args.old in
    let second = c.mutable_word-new.result in
    let may = subst (λ (z : PassValue × BlockValue). MaySwapRow z.0.view at first z.1.at)
    (λ i. (sym c.pass.view_is i, sym c.block.view_is i)) c.requires.swap in
    let new_call = subst HasNewCall (sym c.pass.view_is) c.requires.call in
    let same : old.facts ≡ facts_of table.key = search rules in
    let end = ap (λ (facts : RoundFacts). facts.cap) same ∙ c.self.invariant.cap in
    let words = c.self.invariant.words in
    let within = swap_within old at first c.block.inside.at may c.pass.invariant.sound in
    let made = step table.table_id.slots at first second (some (c.pass.inside.calls - 1)) in (
      search rules,
      omega arith,
      pass_allows (facts_of table.key) table.table_id.slots seat.id seat.me at (λ word. either (word == first) second word)
          (SwapRow at first second) SwapTells made c.pass.invariant.one refl (λ words state history round. refl)
          (swap_row_moves (facts_of table.key) old made c.block.inside.at c.mutable_word-new.ensures may (omega (arith, new_call))),
    )

-- won or lost, the pass is whole
pub invariant_of-pass : goal.invariant_of-pass
invariant_of-pass c =
    let new_call = subst HasNewCall (sym c.pass.view_is) c.requires.call in
    let made = step c.self.inside.table.shared.table_id.slots c.args.at c.args.old c.mutable_word-new.result
    (some (c.pass.inside.calls - 1)) in
    swapped_whole c.pass.inside _ c.pass.invariant made c.compare_exchange_with-found.result c.compare_exchange_with-found.ensures.2 refl
    (omega (arith, new_call)) refl refl
