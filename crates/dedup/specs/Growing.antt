-- When a worker grows the table of its round, and what that leaves of its pass.
use Rattle.std.specs.Prelude.{ℕ, ◌+◌, ◌*◌, ◌^◌, ◌&&◌, Bool, nat_le, nat_lt}
use mathlib.Core.List.{IsPrefix}
use Rattle.step_core.specs.Limits.{max_exponent}
use Rattle.step_core.specs.declared.format.TheConstants.{FIRST_BUCKET}
use Rattle.cells.specs.Tokens.{IsSamePass, PassValue}
use Rattle.fset.specs.Frames.{KeepsOwn}

-- a bucket with more keys than this is wide
abbrev pub most_keys : ℕ
most_keys = 8

-- a table may have one in so many of the room's words
abbrev pub table_part : ℕ
table_part = 32

-- a table with one bucket bit more than the exponent may stand in so much room
abbrev pub may_grow : ℕ → ℕ → Bool
may_grow exponent room = nat_lt exponent max_exponent
    && nat_le (table_part * (FIRST_BUCKET + 2 ^ (exponent + 1))) room

-- it is the same pass, with no entry more, whose front only grew
pub record OnlyResizes (old new : PassValue) : Type 0 where
  pub same : IsSamePass old new
  pub front : IsPrefix old.view.front new.view.front
  pub own : KeepsOwn old.view new.view
