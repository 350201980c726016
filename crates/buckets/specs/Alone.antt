-- How resizes end for a pass that is the only one of its round: as its ledger says.
use Rattle.std.specs.Prelude.{◌≡◌, ℕ, ◌≤◌, Bool, true, false}
use Rattle.step_core.specs.Ledger.{resize, touch, touch_first}
use Rattle.step_core.specs.Limits.{max_exponent}
use Rattle.step_core.specs.declared.views.PassView.{PassView}
use Rattle.cells.specs.Lone.{head_at, ledger_of, EndsAlone, EndsAs, SameLedger}
use Rattle.buckets.specs.declared.outcomes.Resized.{Resized}
use Rattle.buckets.specs.declared.outcomes.Resized.TheVariants.{Changed, Moved, AtLimit, Full}

-- the head and its exponent were loaded, which the pass knew
pub record LoadsAlone (at exponent : ℕ) (old new : PassView) : Type 0 where
  pub same : SameLedger old new
  pub is_head : at ≡ head_at new
  pub is_exponent : exponent ≡ (ledger_of old).exponent

-- a bucket of the head was loaded, and filled where it was nil, or not
abbrev pub FillsOneAlone : ℕ → ℕ → Bool → PassView → PassView → Type 0
FillsOneAlone at bucket full old new = at ≡ head_at old → EndsAlone (touch bucket) full old new

-- so were the head's first buckets
abbrev pub FillsFirstAlone : ℕ → ℕ → Bool → PassView → PassView → Type 0
FillsFirstAlone at count full old new = at ≡ head_at old → EndsAlone (touch_first count) full old new

-- the table was resized to the exponent that comes next
pub record ResizesAlone (IsNext : ℕ → ℕ → Type 0) (exponent : ℕ) (old new : PassView) : Type 0
  where
    pub next : IsNext (ledger_of old).exponent exponent
    pub ends : EndsAs (resize exponent (ledger_of old)) false new

-- no block was to be had for that
pub record RefusesAlone (IsNext : ℕ → ℕ → Type 0) (old new : PassView) : Type 0 where
  pub exponent : ℕ
  pub next : IsNext (ledger_of old).exponent exponent
  pub small : exponent ≤ max_exponent
  pub ends : EndsAs (resize exponent (ledger_of old)) true new

-- the head's exponent is the limit, and the ledger stays
pub record StaysAlone (limit : ℕ) (old new : PassView) : Type 0 where
  pub is_exponent : (ledger_of old).exponent ≡ limit
  pub same : SameLedger old new

-- how a resize ends that goes to the next exponent, but not past the limit: it isn't Moved
abbrev pub EndsResizeAlone : ℕ → (ℕ → ℕ → Type 0) → Resized → PassView → PassView → Type 0
EndsResizeAlone limit IsNext (Changed exponent) old new = ResizesAlone IsNext exponent old new
EndsResizeAlone limit IsNext (Moved head) old new = ⊥
EndsResizeAlone limit IsNext AtLimit old new = StaysAlone limit old new
EndsResizeAlone limit IsNext Full old new = RefusesAlone IsNext old new

-- the exponent is the ledger's, which stays
abbrev pub IsExponentAlone : ℕ → PassView → PassView → Type 0
IsExponentAlone exponent old new = old.facts.seats ≡ 1 → StaysAlone exponent old new
