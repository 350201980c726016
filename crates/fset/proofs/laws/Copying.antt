-- Keys that are loaded and written one by one add up to a part of the row.
use Rattle.std.proofs.Common.{◌≡◌, ℕ, ◌+◌, ◌-◌, ◌<◌, ◌≤◌, List, [], ◌∷◌, ◌++◌, length, take, drop, slice_index, slice_range, sym, ap, ◌∙◌, subst, length-take, length-drop, arith}
use Rattle.std.proofs.lemmas.List.{take_more, get_or-drop}
use Rattle.step_core.specs.declared.views.PassView.{PassView}
use Rattle.cells.specs.Frames.{after_reads}
use Rattle.cells.specs.Known.{keys_at}
use Rattle.cells.specs.Steps.{Writes}
use Rattle.cells.proofs.laws.WritesAddUp.{writes_both}
use Rattle.fset.proofs.laws.Reading.{after_reads-both}

-- What was written stays so when sealed words are loaded.
pub writes_reads : (at offset loads : ℕ) (values : List ℕ) (old new : PassView) → Writes at offset values old new
    → Writes at offset values (after_reads loads old) (after_reads loads new)
writes_reads at offset loads values old new writes = record {
  only = ap (after_reads loads) writes.only;
  long = writes.long;
  words = writes.words;
  others = writes.others;
}

-- Writing leaves the keys that are known.
pub writes_keys : (at offset row : ℕ) (values : List ℕ) (old new : PassView) → Writes at offset values old new → keys_at new row ≡ keys_at old row
writes_keys at offset row values old new writes = ap (λ (view : PassView). keys_at view row) writes.only

-- A part with the next one.
part_more : (keys : List ℕ) (from i : ℕ) → from ≤ i → i < length keys
    → slice_range keys from (i + 1) ≡ slice_range keys from i ++ slice_index keys i ∷ []
part_more keys from i begun within =
    ap (λ (count : ℕ). take count (drop from keys)) (let count : i + 1 - from ≡ i - from + 1 = omega arith in count)
    ∙ take_more (drop from keys) (i - from) 0 (omega (arith, length-drop from keys))
    ∙ ap (λ (key : ℕ). take (i - from) (drop from keys) ++ key ∷ [])
    (get_or-drop from keys (i - from) 0 ∙ ap (slice_index keys) (let place : from + (i - from) ≡ i = omega arith in place))

length-part : (keys : List ℕ) (from i : ℕ) → from ≤ i → i ≤ length keys → length (slice_range keys from i) ≡ i - from
length-part keys from i begun within = omega (arith, length-take (i - from) (drop from keys), length-drop from keys)

-- A key that was loaded and written behind a part of the row is a part with one key more.
pub copied_one : (at offset from i key : ℕ) (keys : List ℕ) (v0 v1 v2 v3 : PassView) → from ≤ i → i < length keys
    → Writes at offset (slice_range keys from i) (after_reads (i - from) v0) v1 → v2 ≡ after_reads 1 v1 → key ≡ slice_index keys i
    → Writes at (offset + (i - from)) (key ∷ []) v2 v3
    → Writes at offset (slice_range keys from (i + 1)) (after_reads (i + 1 - from) v0) v3
copied_one at offset from i key keys v0 v1 v2 v3 begun within before loaded is_key wrote =
    let first = writes_reads at offset 1 (slice_range keys from i) (after_reads (i - from) v0) v1 before in
    let second = subst (λ (z : PassView × ℕ). Writes at (offset + (i - from)) (z.1 ∷ []) z.0 v3) (λ i. (loaded i, is_key i)) wrote in
    let both = writes_both at offset (offset + (i - from)) (slice_range keys from i) (slice_index keys i ∷ [])
    (after_reads 1 (after_reads (i - from) v0)) (after_reads 1 v1) v3
    (omega (arith, length-part keys from i begun (omega arith))) first second in
    let count : i - from + 1 ≡ i + 1 - from = omega arith in
    subst (λ (z : PassView × List ℕ). Writes at offset z.1 z.0 v3)
    (λ j. ((after_reads-both (i - from) 1 v0 ∙ ap (λ (n : ℕ). after_reads n v0) count) j, sym (part_more keys from i begun within) j)) both
