-- The numbers that bound a run.
use Rattle.std.specs.Prelude.{ℕ, ◌^◌}

-- the most FILEs of a command
abbrev pub most_files : ℕ
most_files = 64

-- the most workers of a run, and how many there are where none are named
abbrev pub most_workers : ℕ
most_workers = 64

abbrev pub usual_workers : ℕ
usual_workers = 4

-- the most digits that a number of workers is written in
abbrev pub most_workers_digits : ℕ
most_workers_digits = 3

-- the most room of a round that can be asked for, in words of 64 bits, and the room where none is
-- named
abbrev pub most_room : ℕ
most_room = 2 ^ 27

abbrev pub usual_room : ℕ
usual_room = 2 ^ 24

-- the most digits that a room is written in
abbrev pub most_room_digits : ℕ
most_room_digits = 9

-- the most records of a run
abbrev pub most_records : ℕ
most_records = 2 ^ 24

-- how many turns of an insert are tried
abbrev pub tried_turns : ℕ
tried_turns = 64
