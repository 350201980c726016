-- Each word with an owner lies inside the arena and was drawn, and the fixed words come first.
use Rattle.std.proofs.Common.{◌≢◌, ℕ, ◌<◌, lt_of_not-le}
use native.Mathlib.Decide.{dec_le}
use Rattle.arena.specs.Owners.{Owner, free, fixed}
use Rattle.arena.specs.LaidOut.{base, IsBounded}
use Rattle.arena.specs.Laws.{IsDrawn}

module _ {cap seats next : ℕ} {owners : ℕ → Owner} (bounds : IsBounded cap seats next owners) where
  -- what has an owner lies before the end
  pub before_end : (a : ℕ) → owners a ≢ free → a < cap
  before_end a owned = elim (dec_le cap a) [
    | yes le ↦ absurd (owned (bounds.past_end a le))
    | no not_le ↦ lt_of_not-le not_le
  ]

  -- it lies below the next place
  before_next : (a : ℕ) → owners a ≢ free → a < next
  before_next a owned = elim (dec_le next a) [
    | yes le ↦ absurd (owned (bounds.from_next a le))
    | no not_le ↦ lt_of_not-le not_le
  ]

  -- what a block has was drawn
  pub is_drawn : (a : ℕ) → owners a ≢ free → owners a ≢ fixed → IsDrawn cap seats next a
  is_drawn a owned not_fixed = record {
    behind_base = elim (dec_le (base seats) a) [
      | yes le ↦ le
      | no not_le ↦ absurd (not_fixed (bounds.below_base a (lt_of_not-le not_le)))
    ];
    below_next = before_next a owned;
    within = before_end a owned;
  }
