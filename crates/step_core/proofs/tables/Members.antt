-- A table of plain rows has plain rows, and a key is a member of it where its bucket's row has the key.
use Rattle.std.proofs.Common.{◌≡◌, ℕ, ◌+◌, ◌^◌, nat_eq, Bool, false, cond, List, slice_index, ap, ◌∙◌, arith}
use Rattle.std.specs.List.{list_any}
use Rattle.std.proofs.lemmas.Bool.Decides.{nat_tests}
use Rattle.step_core.specs.Buckets.{key_bucket}
use Rattle.step_core.specs.Format.{head_of, row_address}
use Rattle.step_core.specs.Content.{bucket_of, bucket_word, spot_of, content_of, live_generation, live_word, is_member}
use Rattle.step_core.specs.Plain.{PlainTable, IsPlainTable, HasPlainRows}
use Rattle.step_core.proofs.tables.Plain.{starts-apart, bucket_low, bucket_read, row_low, address_is}
use Rattle.step_core.proofs.seen.Content.{row_keys-written, content_of-plain}

module _ {seats : ℕ} {words : List ℕ} {table : PlainTable} (is : IsPlainTable seats words table) where
  row_of_spot : (spot : ℕ) → row_address (bucket_word words (head_of words) spot) ≡ table.starts (bucket_of table.exponent spot)
  row_of_spot spot =
      ap (λ (at : ℕ). row_address (bucket_word words at spot)) is.here
      ∙ ap row_address (bucket_read is spot)
      ∙ address_is is (table.starts (bucket_of table.exponent spot))

  -- a key is looked for in the generation,
  head_live : (spot : ℕ) → live_generation words spot ≡ head_of words
  head_live spot =
      let filled : nat_eq (bucket_word words (head_of words) spot) 0 ≡ false =
      let read = ap (λ (at : ℕ). bucket_word words at spot) is.here ∙ bucket_read is spot in
      let low = row_low is spot in
      grind (arith, nat_tests) in
      ap (λ (b : Bool). cond b (slice_index words (head_of words + 1)) (head_of words)) filled

  -- in the row of its bucket
  live_is : (spot : ℕ) → row_address (live_word words spot) ≡ table.starts (bucket_of table.exponent spot)
  live_is spot = ap (λ (at : ℕ). row_address (bucket_word words at spot)) (head_live spot) ∙ row_of_spot spot

  -- their rows have no operations
  pub table_plain : HasPlainRows words
  table_plain spot =
      ap (λ (row : ℕ). slice_index words (row + 1)) (live_is spot)
      ∙ is.rows (bucket_of table.exponent spot) (bucket_low is spot) 1 (omega arith)

  -- a key is a member where its bucket's row has it
  pub table_member : (key : ℕ) → is_member words key ≡ list_any (λ y. nat_eq y key) (table.keys (key_bucket table.exponent key))
  table_member key =
      let bucket = key_bucket table.exponent key in
      let low = bucket_low is (spot_of key) in
      let ends = starts-apart is bucket (2 ^ table.exponent) low (omega arith) in
      ap (λ (row : ℕ). content_of words row key) (live_is (spot_of key))
      ∙ content_of-plain words (table.starts bucket) key (is.rows bucket low 1 (omega arith))
      ∙ ap (list_any (λ y. nat_eq y key))
      (row_keys-written words (table.starts bucket) 0 0 (table.keys bucket) (is.rows bucket low) (omega (arith, ends, is.within)))
