use Rattle.std.proofs.Common.{◌≡◌, ℕ, List, rules, refl, sym, ap, subst, arith}
use mathlib.Core.Option.{none}
use Rattle.atomic_table.specs.Table.{Me, step}
use Rattle.set_model.specs.declared.entry.Entry.{Entry}
use Rattle.step_core.specs.declared.views.PassView.{PassView}
use Rattle.step_core.specs.declared.format.TheConstants.{HEAD}
use Rattle.step_core.specs.declared.kinds.Step.TheVariants.{LoadHead}
use Rattle.cells.specs.Moves.{LearnTells, view_after_hear}
use Rattle.cells.specs.Steps.{Learns}
use Rattle.cells.specs.Tokens.{NoteValue, PassValue}
use Rattle.cells.specs.declared.rule.SeatView.{SeatView}
use Rattle.cells.proofs.laws.Learned.{learned_from_note}
use Rattle.cells.specs.Seats.{facts_of, pass_of}
use Rattle.cells.proofs.keeps.Learn.{learn_moves}
use Rattle.cells.proofs.keeps.Notes.{note_joins, one_pass_still}
use Rattle.cells.proofs.laws.Seats.{pass_allows}
use Rattle.cells.proofs.round.Round.learn.Goals as goal

-- a pass may take the front of a note in
pub join_seat-requires : goal.join_seat-requires
join_seat-requires c =
    let seat = c.pass.inside.seat in
    let note = c.note.inside.seat in
    let small = c.self.invariant.small.fixed_words in
    let words = c.self.invariant.words in
    let cap = c.self.invariant.cap in (
      search rules,
      search rules,
      search rules,
      omega arith,
      note_joins (facts_of c.self.inside.table.shared.key) seat.id seat.me note.id note.me c.pass.invariant.one,
    )

-- and learn then which front is longer
pub load-requires : goal.load-requires
load-requires c =
    let table = c.self.inside.table.shared in
    let seat = c.join_seat.new.seat in
    let made = step table.table_id.slots HEAD 0 0 none in
    let small = c.self.invariant.small.fixed_words in
    let words = c.self.invariant.words in
    let cap = c.self.invariant.cap in (
      search rules,
      omega arith,
      pass_allows (facts_of table.key) table.table_id.slots seat.id seat.me HEAD (λ word. word) LoadHead
          (λ old step word new. LearnTells old step word new) made
          (one_pass_still c.pass.inside.seat.me seat.me _ c.pass.invariant.one c.join_seat.ensures.2) refl
          (λ words state history round. refl)
          (learn_moves (facts_of table.key) (pass_of seat.me.0) made),
    )

-- what the pass learned, from what it heard
pub returns-clause-learns : goal.returns-clause-learns
returns-clause-learns c =
    let seat = c.pass.inside.seat in
    let note = c.note.inside.seat in
    let view = ap (λ (p : PassValue). p.view) c.pass.view_is in
    let front = ap (λ (n : NoteValue). n.front) c.note.view_is in
    let joined : pass_of c.join_seat.new.seat.me.0 ≡ view_after_hear note.me.0.front (pass_of seat.me.0) =
    ap (λ (me : Me ℕ SeatView). pass_of me.0) c.join_seat.ensures.2 in
    let told = c.load.ensures.2 in
    let tells = subst (λ (old : PassView). LearnTells old (step c.self.inside.table.shared.table_id.slots HEAD 0 0 none) c.load.result told.view)
    joined told.tells in
    subst (λ (z : PassView × List Entry × PassView). Learns z.0 z.1 z.2)
    (λ i. (view i, front i, sym (ap (λ (me : Me ℕ SeatView). pass_of me.0) told.seat) i))
    (learned_from_note note.me.0.front (pass_of seat.me.0) told.view (step c.self.inside.table.shared.table_id.slots HEAD 0 0 none)
    c.load.result c.pass.invariant.heard tells)
