-- A cell of a published block is set, and every other word stays.
use Rattle.std.proofs.Common.{◌≡◌, ℕ, ◌+◌, ◌<◌, List, length, get_or, set, sym, ap, subst, ◌∙◌, arith}
use native.Mathlib.Decide.{ℕ_discrete}
use Rattle.std.proofs.Math.ListN.{length-set}
use Rattle.std.proofs.lemmas.List.{get_or-set_same, get_or-set_other}
use Rattle.arena.specs.declared.held.Held.{Held}
use Rattle.arena.specs.Owners.{Owner, cell}
use Rattle.arena.specs.States.{ArenaState, updated, cells_with}
use Rattle.arena.specs.LaidOut.{IsCells, IsBlock, IsLaidOut, cell_count}
use Rattle.arena.specs.Laws.{CellKeeps}
use Rattle.arena.proofs.laws.States.{updated-same, updated-other, cells_with-other}
use Rattle.arena.proofs.laws.Ranges.{other_word, IsFixed-set, IsRange-set, IsBlock-set}
use Rattle.arena.proofs.keeps.Fixed.{owned_within}

-- the cells of the block itself
IsCells-updated : {words : List ℕ} {owners : ℕ → Owner} {at count block : ℕ} {cells : ℕ → ℕ}
    → IsCells words owners at count block cells → (k value : ℕ) → at + k < length words
    → IsCells (set words (at + k) value) owners at count block (updated cells k value)
IsCells-updated {words} {at = at} {cells = cells} part k value within = record {
  shown = λ j lt. elim (ℕ_discrete j k) [
    | yes same ↦ subst (λ i. get_or (set words (at + k) value) (at + i) 0 ≡ updated cells k value i) (sym same)
        (get_or-set_same words (at + k) value 0 within ∙ sym (updated-same cells k value))
    | no apart ↦ get_or-set_other words (at + k) (at + j) value 0 (λ e. apart (omega arith))
        ∙ part.shown j lt ∙ sym (updated-other cells k value j apart)
  ];
  owned = part.owned;
}

module _ {B V : Type 0} (sealed_words : B → List ℕ) (open_words : B → ℕ) (hands_of : V → List Held)
    {cap seats : ℕ} {words : List ℕ} {state : ArenaState B V}
    (laid : IsLaidOut sealed_words open_words hands_of cap seats words state) where
  pub cell_keeps : CellKeeps sealed_words open_words hands_of cap seats words state
  cell_keeps at k value block is_block is_cell =
      let place : ℕ = at + length (sealed_words block) + k in
      let after : List ℕ = set words place value in
      let set_cells : ℕ → ℕ = updated (state.cells at) k value in
      let cells : ℕ → ℕ → ℕ = cells_with state.cells at k value in
      let stands = laid.blocks at block is_block in
      let owned : state.owners place ≡ cell at k = stands.cell_part.owned k is_cell in
      let within : place < length words = owned_within sealed_words open_words hands_of laid place (λ e. cc) in
      let itself : IsBlock sealed_words open_words after state.owners set_cells at block = record {
        sealed_part = IsRange-set stands.sealed_part place value (λ e. cc);
        cell_part = IsCells-updated stands.cell_part k value within;
      } in
      record {
        size = length-set words place value ∙ laid.size;
        fixed_words = IsFixed-set laid.bounds laid.fixed_words place value (λ e. cc);
        bounds = laid.bounds;
        rest = λ a le. other_word words state.owners place value a (λ e. let is_free = laid.bounds.from_next a le in cc)
            ∙ laid.rest a le;
        blocks = λ from found is_found. elim (ℕ_discrete from at) [
          | yes same ↦ subst (λ (p : ℕ × B). IsBlock sealed_words open_words after state.owners (cells p.0) p.0 p.1)
              (λ i. (sym same i, let e = ap state.blocks same in let is_same : block ≡ found = cc in is_same i))
              (subst (λ shown. IsBlock sealed_words open_words after state.owners shown at block)
              (sym (updated-same state.cells at set_cells)) itself)
          | no apart ↦ subst (λ shown. IsBlock sealed_words open_words after state.owners shown from found)
              (sym (updated-other state.cells at set_cells from apart))
              (IsBlock-set sealed_words open_words (laid.blocks from found is_found) place value
              (λ e. cc) (λ j e. apart (let same : from ≡ at = cc in same)))
        ];
        no_cells = λ from j le.
            let count : from ≡ at → cell_count open_words (state.blocks from) ≡ open_words block =
            λ same. ap (λ a. cell_count open_words (state.blocks a)) same ∙ ap (cell_count open_words) is_block in
            cells_with-other state.cells at k value from j (λ same. let many = count same in omega arith)
            ∙ laid.no_cells from j le;
        hands = λ i view is_view from. IsRange-set (laid.hands i view is_view from) place value (λ e. cc);
      }
