-- The count of faults that inputs and sinks keep.
use Rattle.std.specs.Prelude.{◌≡◌, ℕ, ◌+◌, ◌-◌, ◌^◌, nat_lt, if◌then◌else◌, Result, OnOk, OnErr}

-- one more, standing still at the greatest value of 64 bits
unfoldable pub one_more : ℕ → ℕ
one_more count = if nat_lt count (2 ^ 64 - 1) then count + 1 else count

-- one fault was counted
abbrev pub Rose : ℕ → ℕ → Type 0
Rose before now = now ≡ one_more before

-- a call that succeeds counts no fault, and one that fails counts one
pub record HasCause {T E : Type 0} (before now : ℕ) (result : Result T E) : Type 0 where
  pub kept : OnOk result (now ≡ before)
  pub rose : OnErr result (Rose before now)
