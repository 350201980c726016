-- What a write takes.
use Rattle.std.specs.Prelude.{ℕ, ◌<◌, ◌≤◌, List, length, Result, IfOk}

-- at most the piece, and something of a piece that isn't empty
abbrev pub TakesSome : {E : Type 0} → List ℕ → Result ℕ E → Type 0
TakesSome piece result = IfOk result (λ n. (n ≤ length piece) × (0 < length piece → 0 < n))
