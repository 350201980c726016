-- The parts into which a list is cut: they rise, lie within it, and tile it.
use Rattle.std.proofs.Common.{◌≡◌, ◌+◌, ◌*◌, ◌/◌, ◌<◌, ◌≤◌, ℕ, suc, List, [], ◌∷◌, ◌++◌, append_assoc, append-nil, drop, flat_map, length, slice_index_or, slice_range, sym, ap, ap₂, ◌∙◌, arith}
use Rattle.std.proofs.Math.Nat.{div-le_of_le-mul, div-mul-le_self, le-div_iff_mul-le, mul-div_cancel_left, mul-le-mul_right, zero-div, zero-mul}
use Rattle.std.proofs.lemmas.List.{drop_all}
use Rattle.std.proofs.lemmas.List.Folds.{drop_split}
use Rattle.dedup.specs.Crews.{cut}
use Rattle.dedup.specs.Workers.{part_of}
use Rattle.dedup.specs.declared.worker.Worker.{Worker}

-- the first part begins at the beginning
pub cut_first : (len parts : ℕ) → cut len parts 0 ≡ 0
cut_first len parts = ap (λ n. n / parts) (zero-mul len) ∙ zero-div parts

-- the last ends at the end
pub cut_last : (len parts : ℕ) → 0 < parts → cut len parts parts ≡ len
cut_last len parts some = mul-div_cancel_left len some

-- none ends before it begins
pub cut_rises : (len parts number : ℕ) → 0 < parts → cut len parts number ≤ cut len parts (number + 1)
cut_rises len parts number some =
    let below : number * len / parts * parts ≤ number * len = div-mul-le_self (number * len) parts in
    let more : number * len ≤ (number + 1) * len = mul-le-mul_right len (omega arith) in
    (le-div_iff_mul-le some).1 (omega (arith, below, more))

-- nor behind the end
pub cut_within : (len parts number : ℕ) → number ≤ parts → cut len parts number ≤ len
cut_within len parts number few = div-le_of_le-mul parts (mul-le-mul_right len few)

module _ (left : List ℕ) (places : ℕ → ℕ) (rise : (number : ℕ) → places number ≤ places (number + 1)) where
  -- workers of parts that follow each other, from a number on
  abbrev pub AreTiles : ℕ → List Worker → Type 0
  AreTiles from workers = (k : ℕ) (d : Worker) → k < length workers
      → ((slice_index_or workers k d).from ≡ places (from + k)) × ((slice_index_or workers k d).to ≡ places (from + k + 1))

  tiles_from : (from : ℕ) (workers : List Worker) → AreTiles from workers
      → flat_map (part_of left) workers ++ drop (places (from + length workers)) left ≡ drop (places from) left
  tiles_from from [] tiles = ap (λ n. drop (places n) left) (let same : from + 0 ≡ from = omega arith in same)
  tiles_from from (worker ∷ workers) tiles =
      let here = tiles 0 worker (omega arith) in
      let first : worker.from ≡ places from = here.0 ∙ ap places (omega arith) in
      let last : worker.to ≡ places (from + 1) = here.1 ∙ ap places (omega arith) in
      let part : part_of left worker ≡ slice_range left (places from) (places (from + 1)) =
      λ i. slice_range left (first i) (last i) in
      let end : from + suc (length workers) ≡ from + 1 + length workers = omega arith in
      let rest = tiles_from (from + 1) workers (λ k d within.
      let its = tiles (suc k) d (omega (arith, within)) in
      (its.0 ∙ ap places (omega arith), its.1 ∙ ap places (omega arith))) in
      ap (λ n. (part_of left worker ++ flat_map (part_of left) workers) ++ drop (places n) left) end
      ∙ append_assoc (part_of left worker) (flat_map (part_of left) workers) (drop (places (from + 1 + length workers)) left)
      ∙ ap₂ (λ (xs ys : List ℕ). xs ++ ys) part rest
      ∙ sym (drop_split left (places from) (places (from + 1)) (rise from))

  -- Where they begin at the beginning and end at the end, they tile the list.
  pub tiles_all : (workers : List Worker) → AreTiles 0 workers → places 0 ≡ 0 → places (length workers) ≡ length left
      → flat_map (part_of left) workers ≡ left
  tiles_all workers tiles first last =
      let none : drop (places (0 + length workers)) left ≡ [] =
      ap (λ n. drop (places n) left) (let same : 0 + length workers ≡ length workers = omega arith in same)
      ∙ ap (λ n. drop n left) last ∙ drop_all (length left) left (omega arith) in
      sym (append-nil (flat_map (part_of left) workers))
      ∙ ap (λ rest. flat_map (part_of left) workers ++ rest) (sym none)
      ∙ tiles_from 0 workers tiles
      ∙ ap (λ n. drop n left) first
