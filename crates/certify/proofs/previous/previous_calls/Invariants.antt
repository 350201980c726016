use Rattle.std.proofs.Common.{◌≡◌, ℕ, ◌<◌, nat_eq, slice_index, unwrap_or, vec_len}
use Rattle.std.specs.HashMap.{get}
use Rattle.certify.specs.Place.{IsLast, callers}
use Rattle.certify.proofs.previous.previous_calls.Given as goal

-- the calls so far have their callers' last ones before, and the map has each caller's last one
abbrev pub invariant-loop-index : goal.invariant-loop-index
invariant-loop-index l = record {
  count : vec_len l.previous ≡ l.index;
  before : (k : ℕ) → k < l.index → IsLast (callers l.calls) k (slice_index (callers l.calls) k) (slice_index l.previous.items k);
  last : (who : ℕ) → IsLast (callers l.calls) l.index who (unwrap_or (get nat_eq l.last who) 0);
}
