-- The limits of a round, each once. The constants of the code are these numbers, by a proof.
use Rattle.std.specs.Prelude.{ℕ, ◌^◌}

-- the most passes
abbrev pub max_passes : ℕ
max_passes = 64

-- the most words, opening and room
abbrev pub max_words : ℕ
max_words = 2 ^ 28

-- the most words of one draw
abbrev pub max_draw : ℕ
max_draw = 2 ^ 28

-- the greatest exponent of a generation
abbrev pub max_exponent : ℕ
max_exponent = 24

-- the most keys of an opening
abbrev pub max_keys : ℕ
max_keys = 2 ^ 24

-- the most calls that a pass begins
abbrev pub max_calls : ℕ
max_calls = 2 ^ 48

-- the most turns of a plan, tried or helped
abbrev pub max_turns : ℕ
max_turns = 1000000
