-- The part of a weave that is one pass's own: the pass's entries of the history, and those of its readings.
use Rattle.std.proofs.Common.{◌≡◌, ℕ, suc, ◌+◌, ◌<◌, ◌≤◌, nat_eq, List, [], ◌∷◌, ◌++◌, length, sym, ap, ap₂, ◌∙◌, arith, length-append}
use Rattle.std.proofs.lemmas.List.{nil_from_length}
use Rattle.std.proofs.lemmas.List.Elements.{filter-append}
use Rattle.set_model.specs.declared.entry.Entry.{Entry}
use Rattle.cells.specs.Past.{entries_by}
use Rattle.hash_set.specs.OneHistory.{woven}

-- two lists that together are empty are both empty
both_empty : (first second : List Entry) → first ++ second ≡ [] → (first ≡ []) × (second ≡ [])
both_empty first second empty =
    let none = ap (λ (list : List Entry). length list) empty in
    let sum = length-append first second in
    (nil_from_length first (omega arith), nil_from_length second (omega arith))

module _ (pass : ℕ) where
  -- The pass's entries of a history, with its own readings woven in: at each place, counted from the first number, those of that place.
  abbrev pub own_part : (ℕ → List Entry) → ℕ → List Entry → List Entry
  own_part readings seen [] = readings seen
  own_part readings seen (entry ∷ rest) = readings seen ++ (entries_by pass (entry ∷ []) ++ own_part readings (suc seen) rest)

  -- they are the pass's entries of the whole weave
  pub entries_by-woven : (at readings : ℕ → List Entry) (seen : ℕ) (history : List Entry)
      → ((place : ℕ) → entries_by pass (at place) ≡ readings place)
      → entries_by pass (woven at seen history) ≡ own_part readings seen history
  entries_by-woven at readings seen [] own = own seen
  entries_by-woven at readings seen (entry ∷ rest) own =
      filter-append (λ (entry : Entry). nat_eq entry.who pass) (at seen) (entry ∷ woven at (suc seen) rest)
      ∙ ap₂ (λ (front behind : List Entry). front ++ behind) (own seen)
      (filter-append (λ (entry : Entry). nat_eq entry.who pass) (entry ∷ []) (woven at (suc seen) rest)
      ∙ ap (λ (behind : List Entry). entries_by pass (entry ∷ []) ++ behind) (entries_by-woven at readings (suc seen) rest own))

  -- where nothing of the pass is skipped, and none of its readings stands there, its part begins behind
  pub own_part-skip : (readings : ℕ → List Entry) (seen : ℕ) (skipped behind : List Entry) → entries_by pass skipped ≡ []
      → ((place : ℕ) → place < seen + length skipped → readings place ≡ [])
      → own_part readings seen (skipped ++ behind) ≡ own_part readings (seen + length skipped) behind
  own_part-skip readings seen [] behind others none =
      let same : seen ≡ seen + 0 = omega arith in
      ap (λ (place : ℕ). own_part readings place behind) same
  own_part-skip readings seen (entry ∷ skipped) behind others none =
      let both = both_empty (entries_by pass (entry ∷ [])) (entries_by pass skipped)
      (sym (filter-append (λ (entry : Entry). nat_eq entry.who pass) (entry ∷ []) skipped) ∙ others) in
      let same : suc seen + length skipped ≡ seen + length (entry ∷ skipped) = omega arith in
      ap (λ (front : List Entry). front ++ (entries_by pass (entry ∷ []) ++ own_part readings (suc seen) (skipped ++ behind)))
      (none seen (omega arith))
      ∙ ap (λ (front : List Entry). front ++ own_part readings (suc seen) (skipped ++ behind)) both.0
      ∙ own_part-skip readings (suc seen) skipped behind both.1 (λ place less. none place (omega arith))
      ∙ ap (λ (place : ℕ). own_part readings place behind) same

  -- with the same readings from here on the part is the same
  own_part-same : (readings others : ℕ → List Entry) (seen : ℕ) (history : List Entry)
      → ((place : ℕ) → seen ≤ place → readings place ≡ others place) → own_part readings seen history ≡ own_part others seen history
  own_part-same readings others seen [] same = same seen (omega arith)
  own_part-same readings others seen (entry ∷ rest) same =
      ap₂ (λ (front behind : List Entry). front ++ (entries_by pass (entry ∷ []) ++ behind)) (same seen (omega arith))
      (own_part-same readings others (suc seen) rest (λ place less. same place (omega arith)))

  -- one reading more here stands in front
  pub own_part-reading : (readings more : ℕ → List Entry) (seen : ℕ) (history : List Entry) (reading : Entry)
      → more seen ≡ reading ∷ readings seen → ((place : ℕ) → seen < place → more place ≡ readings place)
      → own_part more seen history ≡ reading ∷ own_part readings seen history
  own_part-reading readings more seen [] reading here further = here
  own_part-reading readings more seen (entry ∷ rest) reading here further =
      ap₂ (λ (front behind : List Entry). front ++ (entries_by pass (entry ∷ []) ++ behind)) here
      (own_part-same more readings (suc seen) rest (λ place less. further place (omega arith)))
