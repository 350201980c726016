-- Well-formed words show the head generation: where it lies, and how great its exponent may be.
use Rattle.std.proofs.Common.{◌≡◌, ℕ, ◌+◌, ◌<◌, ◌≤◌, ◌^◌, List, length, slice_index, sym, ap, ◌∙◌, arith, add-zero}
use Rattle.step_core.specs.Format.{head_of, next_of}
use Rattle.step_core.specs.Content.{exponent_of}
use Rattle.step_core.specs.Fits.{IsWellFormed}
use Rattle.step_core.specs.Limits.{max_exponent}
use Rattle.step_core.specs.declared.format.TheConstants.{NEXT, FIRST_BUCKET}
use Rattle.step_core.specs.declared.published.Published.TheVariants.{Generation}
use Rattle.step_core.proofs.seen.Shown.{shown_by}

-- where the head generation lies
pub record HasHead (words : List ℕ) : Type 0 where
  pub low : NEXT < head_of words
  pub small : exponent_of words ≤ max_exponent
  pub drawn : head_of words + FIRST_BUCKET + 2 ^ exponent_of words ≤ next_of words
  pub within : head_of words + FIRST_BUCKET + 2 ^ exponent_of words ≤ length words

-- well-formed words have a head generation
pub head_shown : (words : List ℕ) → IsWellFormed words → HasHead words
head_shown words well =
    let fits = (shown_by words well).2 in
    let generation = fits.head.0 in
    let head = fits.shown (head_of words) (Generation generation) fits.head.1 in
    let exponent : exponent_of words ≡ generation.exponent = ap (slice_index words) (sym (add-zero (head_of words)))
    ∙ head.sealed 0 (omega arith) in
    let size : 2 ^ exponent_of words ≡ 2 ^ generation.exponent = ap (λ (e : ℕ). 2 ^ e) exponent in
    record {
      low = omega (arith, head.first);
      small = omega (arith, exponent, fits.small (head_of words) generation fits.head.1);
      drawn = omega (arith, head.drawn, size);
      within = omega (arith, head.within, size);
    }
