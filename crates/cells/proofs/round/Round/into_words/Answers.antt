use Rattle.std.proofs.Common.{ℕ, List, sym, ap, ◌∙◌, subst}
use Rattle.atomic_table.specs.Table.{Me}
use Rattle.set_model.specs.declared.entry.Entry.{Entry}
use Rattle.std.specs.List.{range_with_len}
use Rattle.std.specs.List.Sorted.{IsPermutation}
use Rattle.std.specs.Mem.Slots.{slots_items}
use Rattle.step_core.specs.declared.views.RoundFacts.{RoundFacts}
use Rattle.cells.specs.Ends.{EndsRound}
use Rattle.cells.specs.Modeled.{front_of}
use Rattle.cells.specs.Past.{longest_front}
use Rattle.cells.specs.Seats.{facts_of}
use Rattle.cells.specs.Tokens.{RoundValue}
use Rattle.cells.specs.declared.rule.SeatView.{SeatView}
use Rattle.cells.proofs.keeps.Seats.{front_keeps}
use Rattle.cells.proofs.laws.Cutting.{round_word, round_small}
use Rattle.cells.proofs.laws.Ends.{some_passes, ends_round, numbers_of}
use Rattle.cells.proofs.round.Round.into_words.Goals as goal

-- a round has a pass
pub gathered-seat-requires-clause-some : goal.gathered-seat-requires-clause-some
gathered-seat-requires-clause-some c none =
    some_passes c.args.passes.items c.args.self.facts.seats c.requires.passes.once
    (round_small c.self.inside c.args.self c.self.view_is c.self.invariant).some_pass none

-- the longest front may get a table seat of its own
pub split_seat-requires : goal.split_seat-requires
split_seat-requires c =
    let shared = c.self.inside.table.shared in
    let seat = c.gathered-seat.result in
    (c.gathered-seat.ensures.table, round_word c.self.inside c.self.invariant, front_keeps (facts_of shared.key) seat.id seat.me.0)

-- the words and that front are the last words and the history
pub returns-clause-answer : goal.returns-clause-answer
returns-clause-answer c =
    let facts = facts_of c.self.inside.table.shared.key in
    let passes = c.args.passes.items in
    let seat = c.split_seat.new.seat in
    let split = c.split_seat.ensures in
    let gathered = c.gathered-seat.ensures.seat in
    let closed = c.close_with-closed.result in
    let same = ap (λ (v : RoundValue). v.facts) c.self.view_is in
    let once = subst (λ (f : RoundFacts). IsPermutation (numbers_of passes) (range_with_len 0 f.seats)) (sym same)
    c.requires.passes.once in
    let ends = ends_round facts passes seat.id seat.me.0 (slots_items closed.words) (slots_items closed.slots)
    (ap (λ (m : Me ℕ SeatView). m.0) (split.2 ∙ gathered)) once c.gathered-seat.ensures.serials c.close_with-closed.ensures.values.2 in
    let words = c.from_vec.ensures ∙ c.copied-words.ensures in
    let front = ap front_of c.into_badge.ensures.2 ∙ ap (λ (m : Me ℕ SeatView). m.0.front) split.4
    ∙ ap (λ (m : Me ℕ SeatView). longest_front m.0.rights) gathered in
    subst (λ (z : RoundFacts × List ℕ × List Entry). EndsRound z.0 passes z.1 z.2)
    (λ i. (same i, sym words i, sym front i)) ends
