-- A row is published and a bucket that isn't frozen names it, in place of another row or of nil: the generations are a chain still,
-- rows are at home, and announced operations are published.
use Rattle.std.proofs.Common.{◌≡◌, ◌≢◌, ◌⊎◌, inl, inr, ⊎_elim, ℕ, ◌<◌, ◌≤◌, Option, Some, None, sym, ap, ◌∙◌, subst, arith}
use native.Mathlib.Decide.{ℕ_discrete}
use Rattle.arena.specs.States.{cells_with}
use Rattle.arena.proofs.laws.States.{cells_with-cases, cells_with-other, cells_with-same}
use Rattle.step_core.specs.Content.{bucket_of}
use Rattle.step_core.specs.Fits.{IsAtHome, IsClosed, IsChain, HoldsClass, HasOp, KeepsHome, AnnouncesOps}
use Rattle.step_core.specs.Format.{IsNil, IsMutable, IsFrozen, row_address, mutable_word}
use Rattle.step_core.specs.States.{IsGeneration, IsRow, IsOp}
use Rattle.step_core.specs.declared.published.Published.{Published}
use Rattle.step_core.specs.declared.published.Published.TheVariants.{Generation, Row, Op}
use Rattle.step_core.specs.declared.published.GenerationBlock.{GenerationBlock}
use Rattle.step_core.specs.declared.published.RowBlock.{RowBlock}
use Rattle.step_core.specs.declared.published.OpBlock.{OpBlock}
use Rattle.step_core.proofs.changes.Published.{Publishes, with_block, block_stays, block_there, place_apart, home_stays, has_op_stays, generation_before_row, op_before_row, row_before_row, predecessor_same, before_same}

-- the row isn't published yet, and a bucket of a generation may name it
pub record Names (blocks : ℕ → Option Published) (cells : ℕ → ℕ → ℕ) (g bucket : ℕ) (generation : GenerationBlock) (at : ℕ)
    (row : RowBlock) : Type 0 where
  pub unpublished : blocks at ≡ None
  pub some_place : 0 < at
  pub here : IsGeneration blocks g generation
  pub spot : bucket_of generation.exponent bucket ≡ bucket
  pub mutable : IsMutable (cells g bucket)
  pub exponent : row.exponent ≡ generation.exponent
  pub number : row.bucket ≡ bucket
  pub holds : HoldsClass row
  pub op : row.op ≢ 0 → HasOp blocks row

-- the buckets of the predecessor that share a spot with the generation's bucket are closed
abbrev pub HasSources : (ℕ → Option Published) → (ℕ → ℕ → ℕ) → GenerationBlock → ℕ → Type 0
HasSources blocks cells generation bucket = (other : GenerationBlock) (spot : ℕ) → IsGeneration blocks generation.predecessor other
    → bucket_of generation.exponent spot ≡ bucket
    → IsClosed blocks cells (cells generation.predecessor (bucket_of other.exponent spot))

-- a closed bucket isn't nil
pub closed_filled : (blocks : ℕ → Option Published) (cells : ℕ → ℕ → ℕ) (word : ℕ) → IsClosed blocks cells word → ¬ IsNil word
closed_filled blocks cells word closed nil = let odd = closed.frozen in absurd (omega arith)

module _ {blocks : ℕ → Option Published} {cells : ℕ → ℕ → ℕ} {g bucket : ℕ} {generation : GenerationBlock} {at : ℕ} {row : RowBlock}
    (n : Names blocks cells g bucket generation at row) where
  -- it is a publishing
  abbrev pub publishes : Publishes blocks at (Row row)
  publishes = record { unpublished = n.unpublished }

  -- the blocks with the row
  abbrev pub with_row : ℕ → Option Published
  with_row = with_block publishes

  -- the cells with the bucket that names it
  abbrev pub with_name : ℕ → ℕ → ℕ
  with_name = cells_with cells g bucket (mutable_word at)

  -- what was published is so still
  pub stays : (from : ℕ) (block : Published) → blocks from ≡ Some block → with_row from ≡ Some block
  stays = block_stays publishes

  -- a generation was published before,
  pub generation_was : (from : ℕ) (other : GenerationBlock) → IsGeneration with_row from other → IsGeneration blocks from other
  generation_was = generation_before_row publishes

  -- so was an operation,
  pub op_was : (from : ℕ) (op : OpBlock) → IsOp with_row from op → IsOp blocks from op
  op_was = op_before_row publishes

  -- and so was a row, or it is this one
  pub row_was : (from : ℕ) (other : RowBlock) → IsRow with_row from other → ((from ≡ at) × (row ≡ other)) ⊎ IsRow blocks from other
  row_was = row_before_row publishes

  -- the generation of the bucket is the one there
  pub generation_is : (other : GenerationBlock) → IsGeneration blocks g other → generation ≡ other
  generation_is other here = let both : Some (Generation generation) ≡ Some (Generation other) = sym n.here ∙ here in cc

  -- what is at an operation's result isn't touched, since the bucket is a generation's
  pub result_stays : (from : ℕ) (op : OpBlock) → IsOp blocks from op → with_name from 0 ≡ cells from 0
  result_stays from op here = cells_with-other cells g bucket (mutable_word at) from 0
      (λ same. absurd (let e : Some (Op op) ≡ Some (Generation generation) = sym here ∙ ap blocks same ∙ n.here in cc))

  -- the cell that names the row
  pub named : with_name g bucket ≡ mutable_word at
  named = cells_with-same cells g bucket (mutable_word at)

  -- a cell is that one, or as it was
  pub cell_cases : (from k : ℕ) → ((from ≡ g) × (k ≡ bucket) × (with_name from k ≡ mutable_word at)) ⊎ (with_name from k ≡ cells from k)
  cell_cases = cells_with-cases cells g bucket (mutable_word at)

  -- it isn't nil
  pub some_name : ¬ IsNil (mutable_word at)
  some_name nil = let low = n.some_place in absurd (omega arith)

  -- and it is even
  pub even_name : IsMutable (mutable_word at)
  even_name = omega arith

  -- the row stands where the bucket's word says
  pub row_there : IsRow with_row (row_address (mutable_word at)) row
  row_there =
      let address : row_address (mutable_word at) ≡ at = omega arith in
      ap with_row address ∙ block_there publishes

  -- a bucket that wasn't nil isn't
  pub filled_stays : (from k : ℕ) → ¬ IsNil (cells from k) → ¬ IsNil (with_name from k)
  filled_stays from k some_word = ⊎_elim
      (λ (touched : (from ≡ g) × (k ≡ bucket) × (with_name from k ≡ mutable_word at)).
      subst (λ (word : ℕ). ¬ IsNil word) (sym touched.2) some_name)
      (λ (old : with_name from k ≡ cells from k). subst (λ (word : ℕ). ¬ IsNil word) (sym old) some_word)
      (cell_cases from k)

  -- a mutable one is mutable
  pub mutable_stays : (from k : ℕ) → IsMutable (cells from k) → IsMutable (with_name from k)
  mutable_stays from k even = ⊎_elim
      (λ (touched : (from ≡ g) × (k ≡ bucket) × (with_name from k ≡ mutable_word at)). subst IsMutable (sym touched.2) even_name)
      (λ (old : with_name from k ≡ cells from k). subst IsMutable (sym old) even)
      (cell_cases from k)

  -- a frozen one isn't the one that was replaced
  pub frozen_stays : (from k : ℕ) → IsFrozen (cells from k) → with_name from k ≡ cells from k
  frozen_stays from k frozen = cells_with-other cells g bucket (mutable_word at) from k (λ same here.
      let odd : IsFrozen (cells g bucket) = subst IsFrozen (λ i. cells (same i) (here i)) frozen in
      let even = n.mutable in absurd (omega arith))

  -- a closed one is closed still
  closed_stays : (from k : ℕ) → ((other : RowBlock) → IsRow with_row (row_address (cells from k)) other
      → IsRow blocks (row_address (cells from k)) other) → IsClosed blocks cells (cells from k)
      → IsClosed with_row with_name (with_name from k)
  closed_stays from k named_before closed =
      subst (IsClosed with_row with_name) (sym (frozen_stays from k closed.frozen)) (record {
        frozen = closed.frozen;
        settled = λ other here op. elim (ℕ_discrete (with_name other.op 0) 0) [
          | yes none ↦ absurd (⊎_elim
              (λ (touched : (other.op ≡ g) × (0 ≡ bucket) × (with_name other.op 0 ≡ mutable_word at)).
              some_name (sym touched.2 ∙ none))
              (λ (old : with_name other.op 0 ≡ cells other.op 0).
              closed.settled other (named_before other here) op (sym old ∙ none))
              (cell_cases other.op 0))
          | no settled ↦ settled
        ];
      })

  -- the bucket's new row is at home
  home_new : (other : GenerationBlock) (spot : ℕ) → IsGeneration blocks g other → bucket_of other.exponent spot ≡ bucket
      → IsAtHome with_row (row_address (mutable_word at)) other spot
  home_new other spot here in_bucket = record {
    row = row;
    here = row_there;
    exponent = n.exponent ∙ ap (λ (g : GenerationBlock). g.exponent) (generation_is other here);
    bucket = n.number ∙ sym in_bucket;
  }

  module _ {head : ℕ} (chain : IsChain head blocks cells) where
    -- each bucket names a row of its own
    names_own : (from : ℕ) (other : GenerationBlock) (spot : ℕ) → IsGeneration blocks from other
        → ¬ IsNil (with_name from (bucket_of other.exponent spot))
        → IsAtHome with_row (row_address (with_name from (bucket_of other.exponent spot))) other spot
    names_own from other spot here some_word = ⊎_elim
        (λ (touched : (from ≡ g) × (bucket_of other.exponent spot ≡ bucket)
        × (with_name from (bucket_of other.exponent spot) ≡ mutable_word at)).
        subst (λ (word : ℕ). IsAtHome with_row (row_address word) other spot) (sym touched.2)
        (home_new other spot (subst (λ (a : ℕ). IsGeneration blocks a other) touched.0 here) touched.1))
        (λ (old : with_name from (bucket_of other.exponent spot) ≡ cells from (bucket_of other.exponent spot)).
        subst (λ (word : ℕ). IsAtHome with_row (row_address word) other spot) (sym old)
        (home_stays publishes (row_address (cells from (bucket_of other.exponent spot))) other spot
        (chain.names from other spot here (subst (λ (word : ℕ). ¬ IsNil word) old some_word))))
        (cell_cases from (bucket_of other.exponent spot))

    -- a bucket that isn't nil names a row that was published before
    named_before : (from : ℕ) (other : GenerationBlock) (spot : ℕ) → IsGeneration blocks from other
        → ¬ IsNil (cells from (bucket_of other.exponent spot)) → (found : RowBlock)
        → IsRow with_row (row_address (cells from (bucket_of other.exponent spot))) found
        → IsRow blocks (row_address (cells from (bucket_of other.exponent spot))) found
    named_before from other spot here some_word found is =
        let address : ℕ = row_address (cells from (bucket_of other.exponent spot)) in
        let home = chain.names from other spot here some_word in
        ⊎_elim (λ (same : (address ≡ at) × (row ≡ found)).
        absurd (place_apart publishes address (Row home.row) home.here same.0))
        (λ (old : IsRow blocks address found). old)
        (row_was address found is)

    -- a closed bucket of a published generation is closed still
    bucket_closed : (from : ℕ) (other : GenerationBlock) (spot : ℕ) → IsGeneration blocks from other
        → IsClosed blocks cells (cells from (bucket_of other.exponent spot))
        → IsClosed with_row with_name (with_name from (bucket_of other.exponent spot))
    bucket_closed from other spot here closed = closed_stays from (bucket_of other.exponent spot)
        (named_before from other spot here (closed_filled blocks cells (cells from (bucket_of other.exponent spot)) closed)) closed

    module _ (sources : g ≡ head → HasSources blocks cells generation bucket) where
      -- a bucket of the head that isn't nil has closed sources: it had them, or it is the bucket that names the row
      sources_closed : (first other : GenerationBlock) (spot : ℕ) → IsGeneration blocks head first
          → IsGeneration blocks first.predecessor other → ¬ IsNil (with_name head (bucket_of first.exponent spot))
          → IsClosed blocks cells (cells first.predecessor (bucket_of other.exponent spot))
      sources_closed first other spot here there some_word = ⊎_elim
          (λ (touched : (head ≡ g) × (bucket_of first.exponent spot ≡ bucket)
          × (with_name head (bucket_of first.exponent spot) ≡ mutable_word at)).
          let same : generation ≡ first = generation_is first (subst (λ (a : ℕ). IsGeneration blocks a first) touched.0 here) in
          let closed : HasSources blocks cells first bucket =
          subst (λ (g : GenerationBlock). HasSources blocks cells g bucket) same (sources (sym touched.0)) in
          closed other spot there touched.1)
          (λ (old : with_name head (bucket_of first.exponent spot) ≡ cells head (bucket_of first.exponent spot)).
          chain.sources first other spot here there (subst (λ (word : ℕ). ¬ IsNil word) old some_word))
          (cell_cases head (bucket_of first.exponent spot))

      -- The generations are a chain still.
      pub chain_named : IsChain head with_row with_name
      chain_named = record {
        head_there = (chain.head_there.0, stays head (Generation chain.head_there.0) chain.head_there.1);
        reached = λ from other here.
            let reached = chain.reached from other (generation_was from other here) in
            (reached.0, reached.1 ∙ sym (before_same publishes head reached.0));
        follows = λ from other here some_before.
            let follows = chain.follows from other (generation_was from other here) some_before in
            record {
              other = follows.other;
              there = stays other.predecessor (Generation follows.other) follows.there;
              not_head = follows.not_head;
              next = follows.next;
            };
        small = λ from other here. chain.small from other (generation_was from other here);
        mutable = λ k. mutable_stays head k (chain.mutable k);
        filled = λ from other spot here first. filled_stays from (bucket_of other.exponent spot)
            (chain.filled from other spot (generation_was from other here) first);
        names = λ from other spot here some_word. names_own from other spot (generation_was from other here) some_word;
        older = λ from other spot here not_head not_before.
            bucket_closed from other spot (generation_was from other here)
            (chain.older from other spot (generation_was from other here) not_head
            (λ same. not_before (same ∙ sym (predecessor_same publishes head))));
        sources = λ first other spot here there some_word.
            let was_here = generation_was head first here in
            let was_there = generation_was first.predecessor other there in
            bucket_closed first.predecessor other spot was_there (sources_closed first other spot was_here was_there some_word);
      }

  -- each row is at home
  pub homes_stay : ((from : ℕ) (other : RowBlock) → IsRow blocks from other → KeepsHome blocks other)
      → (from : ℕ) (other : RowBlock) → IsRow with_row from other → KeepsHome with_row other
  homes_stay homes from other here = ⊎_elim
      (λ (same : (from ≡ at) × (row ≡ other)). subst (KeepsHome with_row) same.1
      (record { holds = n.holds; op = λ some_op. has_op_stays publishes row (n.op some_op) }))
      (λ (old : IsRow blocks from other).
      let home = homes from other old in
      record { holds = home.holds; op = λ some_op. has_op_stays publishes other (home.op some_op) })
      (row_was from other here)

  -- Announced operations are published still.
  pub announces_stay : (seats : ℕ) (announced : ℕ → ℕ) → AnnouncesOps seats announced blocks cells
      → AnnouncesOps seats announced with_row with_name
  announces_stay seats announced announces = record {
    ops = λ from op here.
        let old = op_was from op here in
        let is = announces.ops from op old in
        record { who = is.who; known_result = subst (λ (result : ℕ). result ≤ 3) (sym (result_stays from op old)) is.known_result };
    words = λ pass lt. ⊎_elim (λ (none : announced pass ≡ 0). inl none)
        (λ (is : (op : OpBlock) × IsOp blocks (announced pass) op). inr (is.0, stays (announced pass) (Op is.0) is.1))
        (announces.words pass lt);
  }
