use Rattle.std.proofs.Common.{rules, refl, arith}
use Rattle.cells.specs.Seats.{facts_of}
use Rattle.cells.proofs.keeps.Notes.{note_splits, noted_whole}
use Rattle.cells.proofs.round.Round.note.Goals as goal

-- a pass's front may get a table seat of its own
pub split_seat-seat-requires : goal.split_seat-seat-requires
split_seat-seat-requires c =
    let seat = c.pass.inside.seat in
    let small = c.self.invariant.small.fixed_words in
    let words = c.self.invariant.words in
    let cap = c.self.invariant.cap in
    (search rules, omega arith, note_splits (facts_of c.self.inside.table.shared.key) seat.id seat.me c.pass.invariant.one)

-- the pass is whole with the view that counts the note
pub invariant_of-pass : goal.invariant_of-pass
invariant_of-pass c = noted_whole c.pass.inside _ c.pass.invariant c.split_seat-seat.ensures.2 refl refl refl
