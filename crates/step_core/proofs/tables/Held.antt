-- The keys that a table of plain rows holds: those of the rows, each in the row of its own bucket.
use Rattle.std.proofs.Common.{◌≡◌, ℕ, ◌^◌, ◌≤◌, List, [], length, refl, sym, ap, ◌∙◌, subst}
use Rattle.std.specs.List.Sorted.{IsStrictlyIncreasing}
use Rattle.set_model.specs.Keys.{is_in}
use Rattle.step_core.specs.Buckets.{key_bucket}
use Rattle.step_core.specs.Content.{bucket_of, spot_of}
use Rattle.step_core.specs.Format.{IsNil, mutable_word}
use Rattle.step_core.specs.Members.{live_cell, is_held, HoldsMembers}
use Rattle.step_core.specs.Openings.{opening_words}
use Rattle.step_core.specs.Plain.{PlainTable, IsPlainTable}
use Rattle.step_core.proofs.lists.Histories.{class_keys-in}
use Rattle.step_core.proofs.seen.Held.{bucket_cell-there, live_cell-head, is_held-row, row_content-plain}
use Rattle.step_core.proofs.tables.Blocks.{only_generation, plain_row, table_blocks}
use Rattle.step_core.proofs.tables.Fitting.{table_cells, spot_cell, filled}
use Rattle.step_core.proofs.tables.Opened.{opening_table, opening_is_table}
use Rattle.step_core.proofs.tables.Plain.{row_there, generation_there, bucket_low, address_is}

module _ {seats : ℕ} {words : List ℕ} {table : PlainTable} (is : IsPlainTable seats words table) where
  -- the live cell of a spot names the row of its bucket
  live_is : (spot : ℕ) → live_cell table.head (table_blocks table) (table_cells table) spot
      ≡ mutable_word (table.starts (bucket_of table.exponent spot))
  live_is spot =
      let cell = bucket_cell-there table.head (table_blocks table) (table_cells table) table.head spot (only_generation table)
      (generation_there is) in
      live_cell-head table.head (table_blocks table) (table_cells table) spot
      (subst (λ (word : ℕ). ¬ IsNil word) (sym cell) (filled is spot))
      ∙ cell
      ∙ spot_cell is spot

  -- a key is held where its bucket's row has it
  pub table_held : (key : ℕ) → is_held table.head (table_blocks table) (table_cells table) key
      ≡ is_in (table.keys (key_bucket table.exponent key)) key
  table_held key =
      let bucket = key_bucket table.exponent key in
      let row = plain_row table bucket in
      is_held-row table.head (table_blocks table) (table_cells table) key (mutable_word (table.starts bucket)) row
      (live_is (spot_of key))
      (ap (table_blocks table) (address_is is (table.starts bucket)) ∙ row_there is bucket (bucket_low is (spot_of key)))
      ∙ row_content-plain table.head (table_blocks table) (table_cells table) row key refl

-- an opening holds its keys
pub opening_held : (seats cap : ℕ) (keys : List ℕ) → IsStrictlyIncreasing keys → length keys ≤ 2 ^ 24 → opening_words seats keys ≤ cap
    → HoldsMembers keys (opening_table seats keys).head (table_blocks (opening_table seats keys)) (table_cells (opening_table seats keys)) []
opening_held seats cap keys rising few fits key =
    let table = opening_table seats keys in
    table_held (opening_is_table seats cap keys rising few fits) key
    ∙ class_keys-in table.exponent (key_bucket table.exponent key) key keys refl
