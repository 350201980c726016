-- Where a bucket names a new row, a key of the bucket is held where that row has it, and every other key where it was.
use Rattle.std.proofs.Common.{◌≡◌, ◌≢◌, ⊎_elim, ℕ, Bool, cond, nat_eq, Option, Some, None, refl, sym, ap, ◌∙◌, subst, arith}
use native.Mathlib.Decide.{ℕ_discrete}
use Rattle.arena.proofs.laws.States.{updated-cases, updated-other}
use Rattle.set_model.specs.Keys.{is_in}
use Rattle.step_core.specs.Content.{bucket_of, spot_of, InClass}
use Rattle.step_core.specs.Fits.{IsChain, predecessor_of}
use Rattle.step_core.specs.Format.{IsNil, IsMutable, row_address, mutable_word}
use Rattle.step_core.specs.Members.{cell_of, bucket_cell, live_cell, keys_with_op, row_content, content_at, is_held}
use Rattle.step_core.specs.States.{IsGeneration, IsRow, IsOp}
use Rattle.step_core.specs.declared.published.Published.{Published}
use Rattle.step_core.specs.declared.published.Published.TheVariants.{Generation, Row, Op}
use Rattle.step_core.specs.declared.published.GenerationBlock.{GenerationBlock}
use Rattle.step_core.specs.declared.published.RowBlock.{RowBlock}
use Rattle.step_core.specs.declared.published.OpBlock.{OpBlock}
use Rattle.step_core.proofs.changes.Named.{Names, with_row, with_name, publishes, stays, op_was, result_stays, generation_is, named, cell_cases, some_name, even_name, row_there}
use Rattle.step_core.proofs.changes.Published.{place_apart, predecessor_same}
use Rattle.step_core.proofs.seen.Held.{bucket_cell-there, live_cell-head, live_cell-predecessor, live_even, is_held-row}

-- the published operations and their results are those that were
pub record KeepsOps (blocks : ℕ → Option Published) (cells : ℕ → ℕ → ℕ) (new_blocks : ℕ → Option Published)
    (new_cells : ℕ → ℕ → ℕ) : Type 0 where
  pub stays : (at : ℕ) (op : OpBlock) → IsOp blocks at op → IsOp new_blocks at op
  pub was : (at : ℕ) (op : OpBlock) → IsOp new_blocks at op → IsOp blocks at op
  pub result : (at : ℕ) (op : OpBlock) → IsOp blocks at op → new_cells at 0 ≡ cells at 0

-- what isn't an operation leaves keys as they are
not_op : (block : Option Published) (result : ℕ) (keys : ℕ → Bool) → ((op : OpBlock) → block ≡ Some (Op op) → ⊥)
    → keys_with_op block result keys ≡ keys
not_op None result keys none = refl
not_op (Some (Generation generation)) result keys none = refl
not_op (Some (Row row)) result keys none = refl
not_op (Some (Op op)) result keys none = absurd (none op refl)

module _ {blocks : ℕ → Option Published} {cells : ℕ → ℕ → ℕ} {new_blocks : ℕ → Option Published} {new_cells : ℕ → ℕ → ℕ}
    (keeps : KeepsOps blocks cells new_blocks new_cells) where
  -- where no operation was published, none is
  none_new : (at : ℕ) → ((op : OpBlock) → blocks at ≡ Some (Op op) → ⊥) → (keys : ℕ → Bool)
      → keys_with_op (new_blocks at) (new_cells at 0) keys ≡ keys_with_op (blocks at) (cells at 0) keys
  none_new at none keys =
      not_op (new_blocks at) (new_cells at 0) keys (λ op here. none op (keeps.was at op here))
      ∙ sym (not_op (blocks at) (cells at 0) keys none)

  -- so what is published there does to keys what it did
  same_op : (at : ℕ) (block : Option Published) → blocks at ≡ block → (keys : ℕ → Bool)
      → keys_with_op (new_blocks at) (new_cells at 0) keys ≡ keys_with_op (blocks at) (cells at 0) keys
  same_op at None is keys = none_new at (λ op here. let e : None ≡ Some (Op op) = sym is ∙ here in cc) keys
  same_op at (Some (Generation generation)) is keys =
      none_new at (λ op here. let e : Some (Generation generation) ≡ Some (Op op) = sym is ∙ here in cc) keys
  same_op at (Some (Row row)) is keys = none_new at (λ op here. let e : Some (Row row) ≡ Some (Op op) = sym is ∙ here in cc) keys
  same_op at (Some (Op op)) is keys =
      let block : new_blocks at ≡ blocks at = keeps.stays at op is ∙ sym is in
      let result : new_cells at 0 ≡ cells at 0 = keeps.result at op is in
      λ i. keys_with_op (block i) (result i) keys

  -- a row has the content that it had
  pub content_same : (row : RowBlock) (key : ℕ) → row_content new_blocks new_cells row key ≡ row_content blocks cells row key
  unfolding row_content
  content_same row key =
      let same = same_op row.op (blocks row.op) refl (is_in row.keys) in
      ap (λ (keys : ℕ → Bool). cond (nat_eq row.op 0) (is_in row.keys) keys key) same

  -- and so has a block
  pub block_content : (block : Option Published) (key : ℕ) → content_at new_blocks new_cells block key ≡ content_at blocks cells block key
  block_content None key = refl
  block_content (Some (Generation generation)) key = refl
  block_content (Some (Row row)) key = content_same row key
  block_content (Some (Op op)) key = refl

module _ {blocks : ℕ → Option Published} {cells : ℕ → ℕ → ℕ} {g bucket : ℕ} {generation : GenerationBlock} {at : ℕ} {row : RowBlock}
    (n : Names blocks cells g bucket generation at row) where
  -- the row that is published and the cell that names it change no operation
  pub ops_keep : KeepsOps blocks cells (with_row n) (with_name n)
  ops_keep = record {
    stays = λ from op here. stays n from (Op op) here;
    was = op_was n;
    result = result_stays n;
  }

  module _ {head : ℕ} (chain : IsChain head blocks cells) where
    -- the word that a block shows for a spot doesn't name the place of the new row
    word_apart : (from spot : ℕ) (block : Option Published) → blocks from ≡ block → row_address (cell_of block (cells from) spot) ≢ at
    word_apart from spot None is same = let low = n.some_place in absurd (omega arith)
    word_apart from spot (Some (Generation other)) is same =
        let word : ℕ = cells from (bucket_of other.exponent spot) in
        elim (ℕ_discrete word 0) [
          | yes nil ↦ let low = n.some_place in absurd (omega arith)
          | no some_word ↦
              let home = chain.names from other spot is some_word in
              place_apart (publishes n) (row_address word) (Row home.row) home.here same
        ]
    word_apart from spot (Some (Row other)) is same = let low = n.some_place in absurd (omega arith)
    word_apart from spot (Some (Op other)) is same = let low = n.some_place in absurd (omega arith)

    -- so the live word doesn't
    live_apart : (spot : ℕ) → row_address (live_cell head blocks cells spot) ≢ at
    live_apart spot same = elim (ℕ_discrete (bucket_cell blocks cells head spot) 0) [
      | yes nil ↦ word_apart (predecessor_of (blocks head)) spot (blocks (predecessor_of (blocks head))) refl
          (ap row_address (sym (live_cell-predecessor head blocks cells spot nil)) ∙ same)
      | no some_word ↦ word_apart head spot (blocks head) refl (ap row_address (sym (live_cell-head head blocks cells spot some_word)) ∙ same)
    ]

    -- a spot of another bucket has the cell that it had, whichever block shows it
    cell_same : (from spot : ℕ) (block : Option Published) → blocks from ≡ block
        → ((other : GenerationBlock) → IsGeneration blocks from other → from ≡ g → bucket_of other.exponent spot ≡ bucket → ⊥)
        → bucket_cell (with_row n) (with_name n) from spot ≡ cell_of block (cells from) spot
    cell_same from spot None is other_bucket = ⊎_elim
        (λ (same : (from ≡ at) × (with_row n from ≡ Some (Row row))). ap (λ (b : Option Published). cell_of b (with_name n from) spot) same.1)
        (λ (kept : (from ≢ at) × (with_row n from ≡ blocks from)). ap (λ (b : Option Published). cell_of b (with_name n from) spot) (kept.1 ∙ is))
        (updated-cases blocks at (Some (Row row)) from)
    cell_same from spot (Some (Generation other)) is other_bucket =
        bucket_cell-there head (with_row n) (with_name n) from spot other (stays n from (Generation other) is)
        ∙ ⊎_elim (λ (touched : (from ≡ g) × (bucket_of other.exponent spot ≡ bucket)
        × (with_name n from (bucket_of other.exponent spot) ≡ mutable_word at)).
        absurd (other_bucket other is touched.0 touched.1))
        (λ (kept : with_name n from (bucket_of other.exponent spot) ≡ cells from (bucket_of other.exponent spot)). kept)
        (cell_cases n from (bucket_of other.exponent spot))
    cell_same from spot (Some (Row other)) is other_bucket =
        ap (λ (b : Option Published). cell_of b (with_name n from) spot) (stays n from (Row other) is)
    cell_same from spot (Some (Op other)) is other_bucket =
        ap (λ (b : Option Published). cell_of b (with_name n from) spot) (stays n from (Op other) is)

    module _ (key : ℕ) (apart_key : InClass generation.exponent bucket key → ⊥) where
      -- a generation's bucket of the key isn't the one that changed
      other_bucket : (from : ℕ) (other : GenerationBlock) → IsGeneration blocks from other → from ≡ g
          → bucket_of other.exponent (spot_of key) ≡ bucket → ⊥
      other_bucket from other here same in_bucket =
          let is : generation ≡ other = generation_is n other (subst (λ (a : ℕ). IsGeneration blocks a other) same here) in
          apart_key (ap (λ (g : GenerationBlock). bucket_of g.exponent (spot_of key)) is ∙ in_bucket)

      -- each generation shows its cell as before
      shown_same : (from : ℕ) → bucket_cell (with_row n) (with_name n) from (spot_of key) ≡ bucket_cell blocks cells from (spot_of key)
      shown_same from = cell_same from (spot_of key) (blocks from) refl (other_bucket from)

      -- so the live word is as it was
      live_same : live_cell head (with_row n) (with_name n) (spot_of key) ≡ live_cell head blocks cells (spot_of key)
      unfolding live_cell
      live_same =
          let before : bucket_cell (with_row n) (with_name n) (predecessor_of (with_row n head)) (spot_of key)
          ≡ bucket_cell blocks cells (predecessor_of (blocks head)) (spot_of key) =
          ap (λ (from : ℕ). bucket_cell (with_row n) (with_name n) from (spot_of key)) (predecessor_same (publishes n) head)
          ∙ shown_same (predecessor_of (blocks head)) in
          λ i. cond (nat_eq (shown_same head i) 0) (before i) (shown_same head i)

      -- and a key of another bucket is held where it was
      pub held_apart : is_held head (with_row n) (with_name n) key ≡ is_held head blocks cells key
      held_apart =
          let address : ℕ = row_address (live_cell head blocks cells (spot_of key)) in
          ap (λ (word : ℕ). content_at (with_row n) (with_name n) (with_row n (row_address word)) key) live_same
          ∙ ap (λ (b : Option Published). content_at (with_row n) (with_name n) b key)
          (updated-other blocks at (Some (Row row)) address (live_apart (spot_of key)))
          ∙ block_content ops_keep (blocks address) key

    module _ (key : ℕ) (class : InClass generation.exponent bucket key) where
      -- a key of the bucket is held where the new row has it,
      pub held_here : IsChain head (with_row n) (with_name n)
          → is_held head (with_row n) (with_name n) key ≡ row_content (with_row n) (with_name n) row key
      held_here new_chain =
          let cell : with_name n g (bucket_of generation.exponent (spot_of key)) ≡ mutable_word at = ap (with_name n g) class ∙ named n in
          let live = live_even head (with_row n) (with_name n) new_chain g (spot_of key) generation
          (stays n g (Generation generation) n.here)
          (subst (λ (word : ℕ). ¬ IsNil word) (sym cell) (some_name n)) (subst IsMutable (sym cell) (even_name n)) in
          is_held-row head (with_row n) (with_name n) key (mutable_word at) row (live ∙ cell) (row_there n)

      -- and, where the bucket wasn't nil, it was where the old row had it
      pub held_before : ¬ IsNil (cells g bucket) → (old : RowBlock) → IsRow blocks (row_address (cells g bucket)) old
          → is_held head blocks cells key ≡ row_content blocks cells old key
      held_before some_row old here =
          let cell : cells g (bucket_of generation.exponent (spot_of key)) ≡ cells g bucket = ap (cells g) class in
          let live = live_even head blocks cells chain g (spot_of key) generation n.here
          (subst (λ (word : ℕ). ¬ IsNil word) (sym cell) some_row) (subst IsMutable (sym cell) n.mutable) in
          is_held-row head blocks cells key (cells g bucket) old (live ∙ cell) here
