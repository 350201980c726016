-- Which cell is live, and which keys a row without an operation holds.
use Rattle.std.proofs.Common.{◌≡◌, ◌≢◌, ℕ, Bool, cond, Option, sym, ap, ◌∙◌, subst, arith, eq-eqb, ne_eqb}
use native.Mathlib.Decide.{ℕ_discrete}
use Rattle.set_model.specs.Keys.{is_in}
use Rattle.step_core.specs.Content.{bucket_of, spot_of}
use Rattle.step_core.specs.Fits.{IsChain, IsClosed, predecessor_of}
use Rattle.step_core.specs.Format.{IsNil, IsMutable, IsFrozen, row_address}
use Rattle.step_core.specs.Members.{cell_of, bucket_cell, live_cell, row_content, content_at, keys_with_op, is_held}
use Rattle.step_core.specs.States.{IsGeneration, IsRow}
use Rattle.step_core.specs.declared.published.Published.{Published}
use Rattle.step_core.specs.declared.published.GenerationBlock.{GenerationBlock}
use Rattle.step_core.specs.declared.published.RowBlock.{RowBlock}

module _ (head : ℕ) (blocks : ℕ → Option Published) (cells : ℕ → ℕ → ℕ) where
  -- the cell of a published generation's bucket
  pub bucket_cell-there : (at spot : ℕ) (generation : GenerationBlock) → IsGeneration blocks at generation
      → bucket_cell blocks cells at spot ≡ cells at (bucket_of generation.exponent spot)
  bucket_cell-there at spot generation here = ap (λ (block : Option Published). cell_of block (cells at) spot) here

  -- the head's cell is live where it isn't nil,
  pub live_cell-head : (spot : ℕ) → ¬ IsNil (bucket_cell blocks cells head spot)
      → live_cell head blocks cells spot ≡ bucket_cell blocks cells head spot
  unfolding live_cell
  live_cell-head spot some =
      ap (λ (b : Bool). cond b (bucket_cell blocks cells (predecessor_of (blocks head)) spot) (bucket_cell blocks cells head spot))
      (ne_eqb (bucket_cell blocks cells head spot) 0 some)

  -- and else the predecessor's
  pub live_cell-predecessor : (spot : ℕ) → IsNil (bucket_cell blocks cells head spot)
      → live_cell head blocks cells spot ≡ bucket_cell blocks cells (predecessor_of (blocks head)) spot
  unfolding live_cell
  live_cell-predecessor spot nil =
      ap (λ (b : Bool). cond b (bucket_cell blocks cells (predecessor_of (blocks head)) spot) (bucket_cell blocks cells head spot))
      (eq-eqb (bucket_cell blocks cells head spot) 0 nil)

  -- a row without an operation has its keys as content
  pub row_content-plain : (row : RowBlock) (key : ℕ) → row.op ≡ 0 → row_content blocks cells row key ≡ is_in row.keys key
  unfolding row_content
  row_content-plain row key none =
      ap (λ (b : Bool). cond b (is_in row.keys) (keys_with_op (blocks row.op) (cells row.op 0) (is_in row.keys)) key)
      (eq-eqb row.op 0 none)

  -- a key is a member where the row that its live cell names has it
  pub is_held-row : (key word : ℕ) (row : RowBlock) → live_cell head blocks cells (spot_of key) ≡ word
      → IsRow blocks (row_address word) row → is_held head blocks cells key ≡ row_content blocks cells row key
  is_held-row key word row live here =
      ap (λ (word : ℕ). content_at blocks cells (blocks (row_address word)) key) live
      ∙ ap (λ (block : Option Published). content_at blocks cells block key) here

  -- a frozen word isn't mutable
  odd_or_even : (word : ℕ) → IsMutable word → IsFrozen word → ⊥
  odd_or_even word even odd = omega arith

  module _ (chain : IsChain head blocks cells) (at spot : ℕ) (generation : GenerationBlock) (here : IsGeneration blocks at generation)
      (some : ¬ IsNil (cells at (bucket_of generation.exponent spot)))
      (mutable : IsMutable (cells at (bucket_of generation.exponent spot))) where
    -- the cell, as the bucket's
    is_cell : bucket_cell blocks cells at spot ≡ cells at (bucket_of generation.exponent spot)
    is_cell = bucket_cell-there at spot generation here

    -- the cell is not closed
    not_closed : IsClosed blocks cells (cells at (bucket_of generation.exponent spot)) → ⊥
    not_closed closed = odd_or_even (cells at (bucket_of generation.exponent spot)) mutable closed.frozen

    -- in the head it is live,
    live_in_head : at ≡ head → live_cell head blocks cells spot ≡ cells at (bucket_of generation.exponent spot)
    live_in_head same =
        let is : bucket_cell blocks cells head spot ≡ cells at (bucket_of generation.exponent spot) =
        ap (λ (a : ℕ). bucket_cell blocks cells a spot) (sym same) ∙ is_cell in
        live_cell-head spot (subst (λ (word : ℕ). ¬ IsNil word) (sym is) some) ∙ is

    -- and in the predecessor, whose bucket of the head is nil then
    live_before : at ≢ head → at ≡ predecessor_of (blocks head)
        → live_cell head blocks cells spot ≡ cells at (bucket_of generation.exponent spot)
    live_before apart same =
        let first = chain.head_there.0 in
        let first_there = chain.head_there.1 in
        let before : at ≡ first.predecessor = same ∙ ap predecessor_of first_there in
        let head_cell : bucket_cell blocks cells head spot ≡ cells head (bucket_of first.exponent spot) =
        bucket_cell-there head spot first first_there in
        let there : IsGeneration blocks first.predecessor generation =
        subst (λ (a : ℕ). IsGeneration blocks a generation) before here in
        elim (ℕ_discrete (cells head (bucket_of first.exponent spot)) 0) [
          | yes nil ↦
              live_cell-predecessor spot (head_cell ∙ nil)
              ∙ ap (λ (a : ℕ). bucket_cell blocks cells a spot) (sym same)
              ∙ is_cell
          | no filled ↦
              absurd (not_closed (subst (λ (a : ℕ). IsClosed blocks cells (cells a (bucket_of generation.exponent spot)))
              (sym before) (chain.sources first generation spot first_there there filled)))
        ]

    -- An even cell that isn't nil is live.
    pub live_even : live_cell head blocks cells spot ≡ cells at (bucket_of generation.exponent spot)
    live_even = elim (ℕ_discrete at head) [
      | yes same ↦ live_in_head same
      | no apart ↦ elim (ℕ_discrete at (predecessor_of (blocks head))) [
        | yes before ↦ live_before apart before
        | no older ↦ absurd (not_closed (chain.older at generation spot here apart older))
      ]
    ]
