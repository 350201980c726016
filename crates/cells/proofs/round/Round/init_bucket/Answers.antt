use Rattle.std.proofs.Common.{rules, ◌≡◌, ◌==◌, refl, sym, ap, ◌∙◌, subst, arith}
use mathlib.Core.Option.{none}
use prog.Atomic.{either}
use Rattle.atomic_table.specs.Table.{step}
use Rattle.step_core.specs.declared.kinds.Step.TheVariants.{InitBucket}
use Rattle.step_core.specs.declared.views.RoundFacts.{RoundFacts}
use Rattle.cells.specs.Filling.{MayFill}
use Rattle.cells.specs.Moves.{FillTells}
use Rattle.cells.specs.Seats.{facts_of, pass_of}
use Rattle.cells.specs.Tokens.{BlockValue, PassValue}
use Rattle.cells.proofs.keeps.InitBucket.{init_bucket_moves}
use Rattle.cells.proofs.laws.BuiltRow.{built_fits}
use Rattle.cells.proofs.laws.Seats.{pass_allows}
use Rattle.cells.proofs.laws.Within.{bucket_within}
use Rattle.cells.proofs.round.Round.init_bucket.Goals as goal

-- the row in hand lies in the arena
pub mutable_word-new-requires : goal.mutable_word-new-requires
mutable_word-new-requires c =
    let may = subst (λ (z : PassValue × BlockValue). MayFill z.0.view c.args.at z.1.at)
    (λ i. (sym c.pass.view_is i, sym c.block.view_is i)) c.requires.may in
    built_fits (pass_of c.pass.inside.seat.me.0) c.block.inside.at may.keys may.built c.pass.invariant.sound

-- whatever the round is, the pass may exchange a nil bucket's word for that of its row
pub compare_exchange-found-requires : goal.compare_exchange-found-requires
compare_exchange-found-requires c =
    let table = c.self.inside.table.shared in
    let seat = c.pass.inside.seat in
    let old = pass_of seat.me.0 in
    let at = c.args.at in
    let second = c.mutable_word-new.result in
    let may = subst (λ (z : PassValue × BlockValue). MayFill z.0.view at z.1.at)
    (λ i. (sym c.pass.view_is i, sym c.block.view_is i)) c.requires.may in
    let same : old.facts ≡ facts_of table.key = search rules in
    let end = ap (λ (facts : RoundFacts). facts.cap) same ∙ c.self.invariant.cap in
    let words = c.self.invariant.words in
    let inside = bucket_within old c.pass.invariant.sound at (may.head, may.bucket, may.generation, may.is_word) in
    let within = inside.within in
    let made = step table.table_id.slots at 0 second none in (
      search rules,
      omega arith,
      pass_allows (facts_of table.key) table.table_id.slots seat.id seat.me at (λ word. either (word == 0) second word)
          (InitBucket at second) FillTells made c.pass.invariant.one refl (λ words state history round. refl)
          (init_bucket_moves (facts_of table.key) old made c.block.inside.at c.mutable_word-new.ensures may),
    )
