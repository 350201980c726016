-- A table of plain rows in the words: where its rows begin, and which blocks it has.
use Rattle.std.proofs.Common.{◌≡◌, ℕ, zero, suc, ◌+◌, ◌^◌, ◌<◌, ◌≤◌, nat_eq, Bool, true, false, cond, List, length, slice_index, refl, sym, ap, ◌∙◌, subst, arith, add-zero, add-one, Some, ◌⊎◌, inl, inr}
use Rattle.std.proofs.lemmas.Bool.{cases_Bool, cases_lt}
use Rattle.std.proofs.lemmas.Bool.Decides.{nat_tests, Decides-eqb}
use Rattle.std.proofs.lemmas.Nat.{mod_below, pow_pos}
use Rattle.step_core.specs.Format.{row_address, mutable_word}
use Rattle.step_core.specs.Content.{bucket_of, bucket_word}
use Rattle.step_core.specs.Plain.{PlainTable, IsPlainTable}
use Rattle.step_core.specs.declared.format.TheConstants.{FIRST_BUCKET, FIRST_KEY}
use Rattle.step_core.specs.declared.published.Published.{Published}
use Rattle.step_core.specs.declared.published.Published.TheVariants.{Generation, Row}
use Rattle.step_core.specs.declared.published.GenerationBlock.{GenerationBlock}
use Rattle.step_core.specs.declared.published.RowBlock.{RowBlock}
use Rattle.step_core.proofs.tables.Blocks.{only_generation, plain_row, row_at, table_blocks, IsRowOf, row_at-some}

module _ {seats : ℕ} {words : List ℕ} {table : PlainTable} (is : IsPlainTable seats words table) where
  -- each row ends before those of later buckets
  pub starts-apart : (bucket later : ℕ) → bucket < later → later ≤ 2 ^ table.exponent
      → table.starts bucket + FIRST_KEY + length (table.keys bucket) ≤ table.starts later
  starts-apart bucket zero lt le = absurd (omega arith)
  starts-apart bucket (suc later) lt le =
      let next : table.starts later + FIRST_KEY + length (table.keys later) ≤ table.starts (suc later) =
      subst (λ (n : ℕ). table.starts later + FIRST_KEY + length (table.keys later) ≤ table.starts n) (add-one later) (is.apart later
      (omega arith)) in
      elim (cases_lt bucket later) [
        | inl below ↦ omega (arith, starts-apart bucket later below (omega arith), next)
        | inr here ↦
            let same : later ≡ bucket = omega arith in
            subst (λ (b : ℕ). table.starts b + FIRST_KEY + length (table.keys b) ≤ table.starts (suc later)) same next
      ]

  -- the first row begins no later
  pub starts-behind : (bucket : ℕ) → bucket ≤ 2 ^ table.exponent → table.head + FIRST_BUCKET + 2 ^ table.exponent ≤ table.starts bucket
  starts-behind zero le = is.behind
  starts-behind (suc bucket) le = omega (arith, is.behind, starts-apart 0 (suc bucket) (omega arith) le)

  -- the bucket's row is found where it begins
  row_at-here : (bucket count : ℕ) → bucket < count → count ≤ 2 ^ table.exponent
      → row_at table (table.starts bucket) count ≡ Some (Row (plain_row table bucket))
  unfolding row_at
  row_at-here bucket zero lt le = absurd (omega arith)
  row_at-here bucket (suc count) lt le =
      elim (cases_lt bucket count) [
        | inl below ↦
            let before = starts-apart bucket count below (omega arith) in
            let other : nat_eq (table.starts bucket) (table.starts count) ≡ false = grind (arith, nat_tests) in
            ap (λ (b : Bool). cond b (Some (Row (plain_row table count))) (row_at table (table.starts bucket) count)) other
            ∙ row_at-here bucket count below (omega arith)
        | inr here ↦
            let same : count ≡ bucket = omega arith in
            subst (λ (b : ℕ). cond (nat_eq (table.starts b) (table.starts count)) (Some (Row (plain_row table count))) (row_at table
            (table.starts b) count) ≡ Some (Row (plain_row table b))) same
            (let equal : nat_eq (table.starts count) (table.starts count) ≡ true = grind (arith, nat_tests) in
            ap (λ (b : Bool). cond b (Some (Row (plain_row table count))) (row_at table (table.starts count) count)) equal)
      ]

  -- so it is published
  pub row_there : (bucket : ℕ) → bucket < 2 ^ table.exponent
      → table_blocks table (table.starts bucket) ≡ Some (Row (plain_row table bucket))
  row_there bucket low =
      let behind = starts-behind bucket (omega arith) in
      let other : nat_eq (table.starts bucket) table.head ≡ false = grind (arith, nat_tests) in
      ap (λ (b : Bool). cond b (Some (Generation (only_generation table))) (row_at table (table.starts bucket) (2 ^ table.exponent))) other
      ∙ row_at-here bucket (2 ^ table.exponent) low (omega arith)

  -- and so is the generation
  pub generation_there : table_blocks table table.head ≡ Some (Generation (only_generation table))
  generation_there =
      let same : nat_eq table.head table.head ≡ true = grind (arith, nat_tests) in
      ap (λ (b : Bool). cond b (Some (Generation (only_generation table))) (row_at table table.head (2 ^ table.exponent))) same

  -- a block is the generation or a bucket's row
  block_cases : (at : ℕ) (block : Published) → table_blocks table at ≡ Some block
      → ((at ≡ table.head) × (block ≡ Generation (only_generation table))) ⊎ IsRowOf table (2 ^ table.exponent) at block
  block_cases at block e =
      elim (cases_Bool (nat_eq at table.head)) [
        | inl same ↦
            let here : Some (Generation (only_generation table)) ≡ Some block =
            sym (ap (λ (b : Bool). cond b (Some (Generation (only_generation table))) (row_at table at (2 ^ table.exponent))) same) ∙ e in
            inl ((Decides-eqb at table.head).0 same, cc)
        | inr other ↦ inr (row_at-some table at (2 ^ table.exponent) block
            (sym (ap (λ (b : Bool). cond b (Some (Generation (only_generation table))) (row_at table at (2 ^ table.exponent))) other) ∙ e))
      ]

  -- what holds of the generation and of each row holds of each block
  pub each_block : (P : ℕ → Published → Type 0) → P table.head (Generation (only_generation table))
      → ((bucket : ℕ) → bucket < 2 ^ table.exponent → P (table.starts bucket) (Row (plain_row table bucket)))
      → (at : ℕ) (block : Published) → table_blocks table at ≡ Some block → P at block
  each_block P of_generation of_row at block e =
      elim (block_cases at block e) [
        | inl here ↦ subst (λ (z : ℕ × Published). P z.0 z.1) (λ i. (sym here.0 i, sym here.1 i)) of_generation
        | inr row ↦ subst (λ (z : ℕ × Published). P z.0 z.1) (λ i. (sym row.here i, sym row.is i)) (of_row row.bucket row.low)
      ]

  same_generation : (generation : GenerationBlock) → Generation (only_generation table) ≡ Generation generation
      → only_generation table ≡ generation
  same_generation generation e = cc

  same_row : (bucket : ℕ) (row : RowBlock) → Row (plain_row table bucket) ≡ Row row → plain_row table bucket ≡ row
  same_row bucket row e = cc

  -- what holds of the only generation holds of each
  pub each_generation : (P : ℕ → GenerationBlock → Type 0) → P table.head (only_generation table)
      → (at : ℕ) (generation : GenerationBlock) → table_blocks table at ≡ Some (Generation generation) → P at generation
  each_generation P holds at generation here =
      each_block (λ at block. (g : GenerationBlock) → block ≡ Generation g → P at g)
      (λ g e. subst (λ (x : GenerationBlock). P table.head x) (same_generation g e) holds)
      (λ bucket low g e. cc) at (Generation generation) here generation refl

  -- what holds of the row of each bucket holds of each row
  pub each_row : (P : ℕ → RowBlock → Type 0)
      → ((bucket : ℕ) → bucket < 2 ^ table.exponent → P (table.starts bucket) (plain_row table bucket))
      → (at : ℕ) (row : RowBlock) → table_blocks table at ≡ Some (Row row) → P at row
  each_row P holds at row here =
      each_block (λ at block. (r : RowBlock) → block ≡ Row r → P at r)
      (λ r e. cc)
      (λ bucket low r e. subst (λ (x : RowBlock). P (table.starts bucket) x) (same_row bucket r e) (holds bucket low)) at
      (Row row) here row refl

  -- a spot's bucket is one of them
  pub bucket_low : (spot : ℕ) → bucket_of table.exponent spot < 2 ^ table.exponent
  bucket_low spot = mod_below spot (2 ^ table.exponent) (pow_pos table.exponent)

  -- the exponent is read at the generation
  pub exponent_read : slice_index words table.head ≡ table.exponent
  exponent_read = ap (slice_index words) (sym (add-zero table.head)) ∙ is.sealed 0 (omega arith)

  -- a spot's bucket word names its row
  pub bucket_read : (spot : ℕ) → bucket_word words table.head spot ≡ mutable_word (table.starts (bucket_of table.exponent spot))
  bucket_read spot =
      ap (λ (e : ℕ). slice_index words (table.head + FIRST_BUCKET + bucket_of e spot)) exponent_read
      ∙ is.named (bucket_of table.exponent spot) (bucket_low spot)

  -- its row doesn't begin at 0
  pub row_low : (spot : ℕ) → 0 < table.starts (bucket_of table.exponent spot)
  row_low spot = omega (arith, is.first, starts-behind (bucket_of table.exponent spot) (omega (arith, bucket_low spot)))

  -- a bucket word has its row's address
  pub address_is : (row : ℕ) → row_address (mutable_word row) ≡ row
  address_is row = omega arith
