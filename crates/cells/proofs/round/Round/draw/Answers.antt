use Rattle.std.proofs.Common.{◌≡◌, ℕ, ◌+◌, ◌%◌, ◌^◌, ◌≤◌, rules, refl, sym, ap, ◌∙◌, subst, arith, None, is_some, true, false}
use mathlib.Core.Option.{none}
use Rattle.atomic_table.specs.Table.{Me, step}
use Rattle.step_core.specs.Ledger.{drawing}
use Rattle.step_core.specs.declared.views.PassView.{PassView}
use Rattle.step_core.specs.declared.views.RoundFacts.{RoundFacts}
use Rattle.cells.specs.Lone.{EndsAs, ledger_of}
use Rattle.cells.specs.Tokens.{PassValue}
use Rattle.cells.specs.declared.rule.SeatView.{SeatView}
use Rattle.cells.proofs.laws.Drawing.{draw_spent, draw_within, draw_past}
use Rattle.step_core.specs.Limits.{max_draw}
use Rattle.step_core.specs.declared.format.TheConstants.{NEXT}
use Rattle.step_core.specs.declared.kinds.Step.TheVariants.{Draw}
use Rattle.cells.specs.Moves.{DrawTells}
use Rattle.cells.specs.Seats.{facts_of, pass_of}
use Rattle.cells.proofs.laws.Seats.{pass_allows}
use Rattle.cells.proofs.keeps.Draw.{draw_moves, draw_fits}
use Rattle.cells.proofs.round.Round.draw.Goals as goal

-- whatever the round is, a pass that isn't spent may draw
pub fetch_add-at-requires : goal.fetch_add-at-requires
fetch_add-at-requires c =
    let table = c.self.inside.table.shared in
    let seat = c.pass.inside.seat in
    let len = c.args.len in
    let unspent : (pass_of seat.me.0).spent ≡ None = search rules in
    let short : len ≤ max_draw = search rules in
    let small = c.self.invariant.small.fixed_words in
    let words = c.self.invariant.words in
    let cap = c.self.invariant.cap in
    let made = step table.table_id.slots NEXT len 0 none in (
      search rules,
      omega arith,
      pass_allows (facts_of table.key) table.table_id.slots seat.id seat.me NEXT (λ word. (word + len) % 2 ^ 64)
          (Draw len) DrawTells made c.pass.invariant.one refl (λ words state history round. draw_fits round len short)
          (draw_moves (facts_of table.key) (pass_of seat.me.0) made unspent short),
    )

-- a spent pass draws nothing, and its ledger says so
pub returns-then-is_some-clause-alone : goal.returns-then-is_some-clause-alone
returns-then-is_some-clause-alone c alone =
    let view = ap (λ (p : PassValue). p.view) c.pass.view_is in
    subst (λ (v : PassView). EndsAs (drawing c.args.len (ledger_of v)) true v) view
    (draw_spent (pass_of c.pass.inside.seat.me.0) c.args.len
    (ap is_some (sym c.pass.invariant.spent) ∙ sym c.is_some.ensures ∙ c.if-is_some.true))

-- a draw within the arena ends as the ledger says
pub returns-then-at-len-clause-alone : goal.returns-then-at-len-clause-alone
returns-then-at-len-clause-alone c alone =
    let seat = c.pass.inside.seat in
    let old = pass_of seat.me.0 in
    let view = ap (λ (p : PassValue). p.view) c.pass.view_is in
    let unspent : old.spent ≡ None = search rules in
    let same : old.facts ≡ facts_of c.self.inside.table.shared.key = search rules in
    let end = ap (λ (facts : RoundFacts). facts.cap) same ∙ c.self.invariant.cap in
    let inside = c.if-at-len.true in
    let told = c.fetch_add-at.ensures.2 in
    subst (λ (z : PassView × PassView). EndsAs (drawing c.args.len (ledger_of z.0)) false z.1)
    (λ i. (view i, sym (ap (λ (me : Me ℕ SeatView). pass_of me.0) told.seat) i))
    (draw_within old told.view (step c.self.inside.table.shared.table_id.slots NEXT c.args.len 0 none) c.fetch_add-at.result unspent
    told.tells (ap (λ (v : PassView). v.facts.seats) view ∙ alone) (omega arith))

-- and so does one that passes its end
pub returns-else-at-len-clause-alone : goal.returns-else-at-len-clause-alone
returns-else-at-len-clause-alone c alone =
    let seat = c.pass.inside.seat in
    let old = pass_of seat.me.0 in
    let view = ap (λ (p : PassValue). p.view) c.pass.view_is in
    let unspent : old.spent ≡ None = search rules in
    let same : old.facts ≡ facts_of c.self.inside.table.shared.key = search rules in
    let end = ap (λ (facts : RoundFacts). facts.cap) same ∙ c.self.invariant.cap in
    let inside = c.if-at-len.false in
    let told = c.fetch_add-at.ensures.2 in
    subst (λ (z : PassView × PassView). EndsAs (drawing c.args.len (ledger_of z.0)) true z.1)
    (λ i. (view i, sym (ap (λ (me : Me ℕ SeatView). pass_of me.0) told.seat) i))
    (draw_past old told.view (step c.self.inside.table.shared.table_id.slots NEXT c.args.len 0 none) c.fetch_add-at.result unspent
    told.tells (ap (λ (v : PassView). v.facts.seats) view ∙ alone) (omega arith))
