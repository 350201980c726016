use Rattle.std.proofs.Common.{rules, ◌≡◌, refl, sym, ap, ◌∙◌, subst, bit_or, arith}
use mathlib.Core.Option.{none}
use Rattle.atomic_table.specs.Table.{step}
use Rattle.step_core.specs.declared.kinds.Step.TheVariants.{Freeze}
use Rattle.step_core.specs.declared.views.RoundFacts.{RoundFacts}
use Rattle.cells.specs.Freezing.{MayFreeze}
use Rattle.cells.specs.Moves.{freeze_tells}
use Rattle.cells.specs.Seats.{facts_of, pass_of}
use Rattle.cells.specs.Tokens.{PassValue}
use Rattle.cells.proofs.keeps.Freeze.{freeze_moves}
use Rattle.cells.proofs.laws.Seats.{pass_allows}
use Rattle.cells.proofs.laws.Within.{bucket_within}
use Rattle.cells.proofs.round.Round.freeze.Goals as goal

-- whatever the round is, the pass may freeze a bucket of a generation that it knows another to follow
pub fetch_or-requires : goal.fetch_or-requires
fetch_or-requires c =
    let table = c.self.inside.table.shared in
    let seat = c.pass.inside.seat in
    let old = pass_of seat.me.0 in
    let at = c.args.at in
    let may = subst (λ (z : PassValue). MayFreeze z.view at) (sym c.pass.view_is) c.requires.may in
    let same : old.facts ≡ facts_of table.key = search rules in
    let end = ap (λ (facts : RoundFacts). facts.cap) same ∙ c.self.invariant.cap in
    let words = c.self.invariant.words in
    let inside = bucket_within old c.pass.invariant.sound at (may.at, may.bucket, may.generation, may.is_word) in
    let within = inside.within in
    let made = step table.table_id.slots at 1 0 none in (
      search rules,
      omega arith,
      pass_allows (facts_of table.key) table.table_id.slots seat.id seat.me at (λ word. bit_or word 1) (Freeze at) freeze_tells made
          c.pass.invariant.one refl (λ words state history round. refl) (freeze_moves (facts_of table.key) old made may),
    )
