-- The numbers that bound an id file.
use Rattle.std.specs.Prelude.{ℕ, ◌^◌}

-- the most digits of an id, which are also the most that a number of 64 bits has
abbrev pub most_digits : ℕ
most_digits = 20

-- so many digits write a number below 2 ^ 64, whatever they are
abbrev pub safe_digits : ℕ
safe_digits = 19

-- the most bytes of a file that are judged
abbrev pub most_bytes : ℕ
most_bytes = 2 ^ 30
