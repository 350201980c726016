-- The blocks of a table: one generation, and a row for each of its buckets.
use Rattle.std.proofs.Common.{◌≡◌, ℕ, zero, suc, ◌^◌, ◌<◌, nat_eq, Bool, cond, sym, ap, ◌∙◌, arith, Option, Some, None, inl, inr}
use Rattle.std.proofs.lemmas.Bool.{cases_Bool}
use Rattle.std.proofs.lemmas.Bool.Decides.{Decides-eqb}
use Rattle.step_core.specs.Plain.{PlainTable}
use Rattle.step_core.specs.declared.published.Published.{Published}
use Rattle.step_core.specs.declared.published.Published.TheVariants.{Generation, Row}
use Rattle.step_core.specs.declared.published.GenerationBlock.{GenerationBlock}
use Rattle.step_core.specs.declared.published.RowBlock.{RowBlock}

-- the only generation
abbrev pub only_generation : PlainTable → GenerationBlock
only_generation table = record { exponent = table.exponent; predecessor = 0 }

-- the row of a bucket
abbrev pub plain_row : PlainTable → ℕ → RowBlock
plain_row table bucket =
    record { exponent = table.exponent; bucket = bucket; op = 0; ans = 0; keys = table.keys bucket }

-- the row at the address, of the first so many buckets
unfoldable pub row_at : PlainTable → ℕ → ℕ → Option Published
row_at table at zero = None
row_at table at (suc bucket) =
    cond (nat_eq at (table.starts bucket)) (Some (Row (plain_row table bucket))) (row_at table at bucket)

-- the generation and the rows, and no other block
abbrev pub table_blocks : PlainTable → ℕ → Option Published
table_blocks table at =
    cond (nat_eq at table.head) (Some (Generation (only_generation table))) (row_at table at (2 ^ table.exponent))

-- the block at the address is the bucket's row
pub record IsRowOf (table : PlainTable) (count at : ℕ) (block : Published) : Type 0 where
  pub bucket : ℕ
  pub low : bucket < count
  pub here : at ≡ table.starts bucket
  pub is : block ≡ Row (plain_row table bucket)

-- a row is one of a bucket
pub row_at-some : (table : PlainTable) (at count : ℕ) (block : Published) → row_at table at count ≡ Some block
    → IsRowOf table count at block
unfolding row_at
row_at-some table at zero block e = cc
row_at-some table at (suc count) block e =
    elim (cases_Bool (nat_eq at (table.starts count))) [
      | inl same ↦
          let here : Some (Row (plain_row table count)) ≡ Some block =
          sym (ap (λ (b : Bool). cond b (Some (Row (plain_row table count))) (row_at table at count)) same) ∙ e in
          record { bucket = count; low = omega arith; here = (Decides-eqb at (table.starts count)).0 same; is = cc }
      | inr other ↦
          let rest = row_at-some table at count block
          (sym (ap (λ (b : Bool). cond b (Some (Row (plain_row table count))) (row_at table at count)) other) ∙ e) in
          record { bucket = rest.bucket; low = omega (arith, rest.low); here = rest.here; is = rest.is }
    ]
