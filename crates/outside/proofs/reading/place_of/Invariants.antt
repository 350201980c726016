use Rattle.std.proofs.Common.{◌≡◌, ℕ, ◌<◌, false, get_or, String, Vec}
use Rattle.std.specs.declared.alloc.Global.{Global}
use Rattle.outside.proofs.LawFiles.{named}
use Rattle.outside.proofs.reading.place_of.Given as goal

-- no file before has the name
abbrev pub invariant-loop-place : goal.invariant-loop-place
invariant-loop-place l = (k : ℕ) (d : String Global × Vec ℕ Global) → k < l.place → named l.name (get_or l.files k d) ≡ false
