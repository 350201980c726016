-- A bucket that isn't the head's is frozen: no block is new, the generations are a chain still, and the members stay as they were.
use Rattle.std.proofs.Common.{◌≡◌, ◌≢◌, ◌⊎◌, inl, inr, ⊎_elim, ℕ, ◌≤◌, Bool, true, false, cond, nat_eq, List, Option, Some, None, refl, sym, ap, ◌∙◌, subst}
use native.Mathlib.Decide.{ℕ_discrete}
use Rattle.arena.specs.States.{cells_with}
use Rattle.arena.proofs.laws.States.{cells_with-cases, cells_with-other, cells_with-same}
use Rattle.set_model.specs.declared.entry.Entry.{Entry}
use Rattle.step_core.specs.Content.{bucket_of, spot_of}
use Rattle.step_core.specs.Fits.{IsAtHome, IsClosed, IsChain, AnnouncesOps, predecessor_of}
use Rattle.step_core.specs.Format.{IsNil, IsMutable, IsFrozen, row_address, frozen_word}
use Rattle.step_core.specs.Members.{cell_of, bucket_cell, live_cell, content_at, is_held, HoldsMembers}
use Rattle.step_core.specs.States.{IsGeneration, IsRow, IsOp}
use Rattle.step_core.specs.declared.published.Published.{Published}
use Rattle.step_core.specs.declared.published.Published.TheVariants.{Generation, Row, Op}
use Rattle.step_core.specs.declared.published.GenerationBlock.{GenerationBlock}
use Rattle.step_core.specs.declared.published.OpBlock.{OpBlock}
use Rattle.step_core.proofs.changes.Held.{KeepsOps, block_content}
use Rattle.step_core.proofs.seen.FrozenWord.{frozen_names, frozen_filled, frozen_same}

-- the bucket is one of a published generation that isn't the head
pub record Freezes (head : ℕ) (blocks : ℕ → Option Published) (g bucket : ℕ) (generation : GenerationBlock) : Type 0 where
  pub here : IsGeneration blocks g generation
  pub not_head : g ≢ head
  pub spot : bucket_of generation.exponent bucket ≡ bucket

-- of two words that name one row, either is picked
picked : (test : Bool) (one other word : ℕ) → row_address one ≡ row_address other
    → row_address (cond test one word) ≡ row_address (cond test other word)
picked true one other word same = same
picked false one other word same = refl

module _ {head : ℕ} {blocks : ℕ → Option Published} {g bucket : ℕ} {generation : GenerationBlock}
    (f : Freezes head blocks g bucket generation) (cells : ℕ → ℕ → ℕ) where
  -- the cells with the bucket frozen
  abbrev pub with_frozen : ℕ → ℕ → ℕ
  with_frozen = cells_with cells g bucket (frozen_word (cells g bucket))

  -- the bucket is
  pub bucket_frozen : with_frozen g bucket ≡ frozen_word (cells g bucket)
  bucket_frozen = cells_with-same cells g bucket (frozen_word (cells g bucket))

  -- a cell is that one, frozen, or as it was
  pub frozen_cases : (from k : ℕ)
      → ((from ≡ g) × (k ≡ bucket) × (with_frozen from k ≡ frozen_word (cells from k))) ⊎ (with_frozen from k ≡ cells from k)
  frozen_cases from k = ⊎_elim
      (λ (touched : (from ≡ g) × (k ≡ bucket) × (with_frozen from k ≡ frozen_word (cells g bucket))).
      inl (touched.0, touched.1, touched.2 ∙ (λ i. frozen_word (cells (sym touched.0 i) (sym touched.1 i)))))
      (λ (old : with_frozen from k ≡ cells from k). inr old)
      (cells_with-cases cells g bucket (frozen_word (cells g bucket)) from k)

  -- it names the row that it did
  pub row_same : (from k : ℕ) → row_address (with_frozen from k) ≡ row_address (cells from k)
  row_same from k = ⊎_elim
      (λ (touched : (from ≡ g) × (k ≡ bucket) × (with_frozen from k ≡ frozen_word (cells from k))).
      ap row_address touched.2 ∙ frozen_names (cells from k))
      (λ (old : with_frozen from k ≡ cells from k). ap row_address old)
      (frozen_cases from k)

  -- one that is frozen has the word that it had,
  pub frozen_stays : (from k : ℕ) → IsFrozen (cells from k) → with_frozen from k ≡ cells from k
  frozen_stays from k odd = ⊎_elim
      (λ (touched : (from ≡ g) × (k ≡ bucket) × (with_frozen from k ≡ frozen_word (cells from k))).
      touched.2 ∙ frozen_same (cells from k) odd)
      (λ (old : with_frozen from k ≡ cells from k). old)
      (frozen_cases from k)

  -- so it is frozen,
  pub still_frozen : (from k : ℕ) → IsFrozen (cells from k) → IsFrozen (with_frozen from k)
  still_frozen from k odd = subst IsFrozen (sym (frozen_stays from k odd)) odd

  -- one that is filled stays so,
  pub still_filled : (from k : ℕ) → ¬ IsNil (cells from k) → ¬ IsNil (with_frozen from k)
  still_filled from k some_word = ⊎_elim
      (λ (touched : (from ≡ g) × (k ≡ bucket) × (with_frozen from k ≡ frozen_word (cells from k))).
      subst (λ (word : ℕ). ¬ IsNil word) (sym touched.2) (frozen_filled (cells from k)))
      (λ (old : with_frozen from k ≡ cells from k). subst (λ (word : ℕ). ¬ IsNil word) (sym old) some_word)
      (frozen_cases from k)

  -- and the head's buckets stay as they were
  pub head_cells : (k : ℕ) → with_frozen head k ≡ cells head k
  head_cells k = cells_with-other cells g bucket (frozen_word (cells g bucket)) head k (λ same. absurd (f.not_head (sym same)))

  -- so does an operation's result
  pub result_same : (from : ℕ) (op : OpBlock) → IsOp blocks from op → with_frozen from 0 ≡ cells from 0
  result_same from op here = cells_with-other cells g bucket (frozen_word (cells g bucket)) from 0
      (λ same. absurd (let e : Some (Op op) ≡ Some (Generation generation) = sym here ∙ ap blocks same ∙ f.here in cc))

  -- a closed bucket is closed still
  pub still_closed : (from k : ℕ) → IsClosed blocks cells (cells from k) → IsClosed blocks with_frozen (with_frozen from k)
  still_closed from k closed = record {
    frozen = still_frozen from k closed.frozen;
    settled = λ row here some_op. still_filled row.op 0
        (closed.settled row (subst (λ (address : ℕ). IsRow blocks address row) (row_same from k) here) some_op);
  }

  module _ (chain : IsChain head blocks cells) where
    -- a bucket that isn't nil wasn't: only the head may have nil buckets, and it isn't touched
    filled_before : (from : ℕ) (other : GenerationBlock) (spot : ℕ) → IsGeneration blocks from other
        → ¬ IsNil (with_frozen from (bucket_of other.exponent spot)) → ¬ IsNil (cells from (bucket_of other.exponent spot))
    filled_before from other spot here some_word = elim (ℕ_discrete from head) [
      | yes same ↦
          let k : ℕ = bucket_of other.exponent spot in
          let kept : with_frozen from k ≡ cells from k =
          ap (λ (a : ℕ). with_frozen a k) same ∙ head_cells k ∙ ap (λ (a : ℕ). cells a k) (sym same) in
          subst (λ (word : ℕ). ¬ IsNil word) kept some_word
      | no apart ↦ chain.filled from other spot here (inl apart)
    ]

    -- The generations are a chain still.
    pub chain_frozen : IsChain head blocks with_frozen
    chain_frozen = record {
      head_there = chain.head_there;
      reached = chain.reached;
      follows = chain.follows;
      small = chain.small;
      mutable = λ k. subst IsMutable (sym (head_cells k)) (chain.mutable k);
      filled = λ from other spot here first.
          still_filled from (bucket_of other.exponent spot) (chain.filled from other spot here first);
      names = λ from other spot here some_word.
          subst (λ (address : ℕ). IsAtHome blocks address other spot) (sym (row_same from (bucket_of other.exponent spot)))
          (chain.names from other spot here (filled_before from other spot here some_word));
      older = λ from other spot here not_head not_before.
          still_closed from (bucket_of other.exponent spot) (chain.older from other spot here not_head not_before);
      sources = λ first other spot here there some_word.
          still_closed first.predecessor (bucket_of other.exponent spot)
          (chain.sources first other spot here there
          (subst (λ (word : ℕ). ¬ IsNil word) (head_cells (bucket_of first.exponent spot)) some_word));
    }

  -- Announced operations are published still.
  pub announces_frozen : (seats : ℕ) (announced : ℕ → ℕ) → AnnouncesOps seats announced blocks cells
      → AnnouncesOps seats announced blocks with_frozen
  announces_frozen seats announced announces = record {
    ops = λ from op here.
        let is = announces.ops from op here in
        record { who = is.who; known_result = subst (λ (result : ℕ). result ≤ 3) (sym (result_same from op here)) is.known_result };
    words = announces.words;
  }

  -- no operation changes
  pub ops_same : KeepsOps blocks cells blocks with_frozen
  ops_same = record { stays = λ from op here. here; was = λ from op here. here; result = result_same }

  -- a block names the row of a spot that it named
  shown_row : (from spot : ℕ) (block : Option Published)
      → row_address (cell_of block (with_frozen from) spot) ≡ row_address (cell_of block (cells from) spot)
  shown_row from spot None = refl
  shown_row from spot (Some (Generation other)) = row_same from (bucket_of other.exponent spot)
  shown_row from spot (Some (Row row)) = refl
  shown_row from spot (Some (Op op)) = refl

  -- the head shows the word that it did
  shown_head : (spot : ℕ) (block : Option Published) → cell_of block (with_frozen head) spot ≡ cell_of block (cells head) spot
  shown_head spot None = refl
  shown_head spot (Some (Generation other)) = head_cells (bucket_of other.exponent spot)
  shown_head spot (Some (Row row)) = refl
  shown_head spot (Some (Op op)) = refl

  -- so the live word of a spot names the row that it did
  pub live_row_same : (spot : ℕ) → row_address (live_cell head blocks with_frozen spot) ≡ row_address (live_cell head blocks cells spot)
  unfolding live_cell
  live_row_same spot =
      let before : ℕ = predecessor_of (blocks head) in
      let first : bucket_cell blocks with_frozen head spot ≡ bucket_cell blocks cells head spot = shown_head spot (blocks head) in
      ap (λ (word : ℕ). row_address (cond (nat_eq word 0) (bucket_cell blocks with_frozen before spot) word)) first
      ∙ picked (nat_eq (bucket_cell blocks cells head spot) 0) (bucket_cell blocks with_frozen before spot)
      (bucket_cell blocks cells before spot) (bucket_cell blocks cells head spot) (shown_row before spot (blocks before))

  -- Each key is held where it was.
  pub held_frozen : (key : ℕ) → is_held head blocks with_frozen key ≡ is_held head blocks cells key
  held_frozen key =
      ap (λ (address : ℕ). content_at blocks with_frozen (blocks address) key) (live_row_same (spot_of key))
      ∙ block_content ops_same (blocks (row_address (live_cell head blocks cells (spot_of key)))) key

  -- The members stay as they were.
  pub members_frozen : (keys : List ℕ) (history : List Entry) → HoldsMembers keys head blocks cells history
      → HoldsMembers keys head blocks with_frozen history
  members_frozen keys history holds key = held_frozen key ∙ holds key
