-- What contracts see of the fields of a round, a pass, a block, a note and a front, and what holds of
-- these fields.
use Rattle.std.specs.Prelude.{◌≡◌, List, [], ◌∷◌}
use Rattle.set_model.specs.declared.entry.Entry.{Entry}
use Rattle.step_core.specs.Plans.{IsPlan}
use Rattle.cells.specs.declared.round.Round.TheInside as round
use Rattle.cells.specs.declared.pass.Pass.TheInside as pass
use Rattle.cells.specs.declared.block.Block.TheInside as block
use Rattle.cells.specs.declared.front.Front.TheInside as front
use Rattle.cells.specs.declared.notes.Note.TheInside as note
use Rattle.cells.specs.declared.rule.SeatView.{SeatView}
use Rattle.cells.specs.Sound.{IsSound, AreFacts}
use Rattle.cells.specs.Seats.{facts_of, note_seat, pass_of, pass_seat}
use Rattle.cells.specs.Tokens.{RoundValue, PassValue, BlockValue, NoteValue, HasBegunCalls}

-- a round is its table, with the facts that the table's key says, its layout and its plan
abbrev pub round_value : round.Inside → RoundValue
round_value inside = record {
  table = inside.table.shared.table_id;
  facts = facts_of inside.table.shared.key;
  layout = inside.layout;
  plan = inside.plan;
}

-- the table has the round's words and no slot, and the layout and the plan are those of its facts
pub record IsRound (inside : round.Inside) : Type 0 where
  pub words : inside.table.shared.table_id.words ≡ inside.layout.cap
  pub slots : inside.table.shared.table_id.slots ≡ 0
  pub cap : (facts_of inside.table.shared.key).cap ≡ inside.layout.cap
  pub seats : (facts_of inside.table.shared.key).seats ≡ inside.layout.seats
  pub small : AreFacts (facts_of inside.table.shared.key)
  pub plan : IsPlan inside.plan
  pub planned : inside.plan.seats ≡ inside.layout.seats

-- a pass is what its table seat's view says, and its calls
abbrev pub pass_value : pass.Inside → PassValue
pass_value inside = record {
  table = inside.seat.table_id;
  view = pass_of inside.seat.me.0;
  calls = inside.calls;
}

-- the table seat speaks for one pass, whose plain fields are as its view says
pub record IsWhole (inside : pass.Inside) : Type 0 where
  pub one : inside.seat.me ≡ (pass_seat (pass_of inside.seat.me.0), [])
  pub number : inside.number ≡ (pass_of inside.seat.me.0).number
  pub spent : inside.spent ≡ (pass_of inside.seat.me.0).spent
  pub sound : IsSound (pass_of inside.seat.me.0)
  pub serials : HasBegunCalls (pass_value inside)
  -- it has learned from every note that it took
  pub heard : (pass_of inside.seat.me.0).heard ≡ []

-- a block is its address and its length
abbrev pub block_value : block.Inside → BlockValue
block_value inside = record { at = inside.at; len = inside.len }

-- a note is the front of its table seat
abbrev pub note_value : note.Inside → NoteValue
note_value inside = record { table = inside.seat.table_id; front = inside.seat.me.0.front }

-- the table seat speaks for no pass
abbrev pub IsNote : note.Inside → Type 0
IsNote inside = inside.seat.me ≡ (note_seat inside.seat.me.0.front, [])

-- the front of the only table seat
abbrev pub front_of : List SeatView → List Entry
front_of [] = []
front_of (seat ∷ others) = seat.front

-- a front is that of its badge
abbrev pub front_value : front.Inside → List Entry
front_value inside = front_of inside.badge.views
