-- Whose each word of a table of plain rows is: the fixed words', the generation's, its buckets' and the rows'.
use Rattle.std.proofs.Common.{◌≡◌, ℕ, zero, suc, ◌+◌, ◌-◌, ◌^◌, ◌<◌, ◌≤◌, nat_lt, nat_le, Bool, true, false, cond, ◌&&◌, List, length, refl, sym, ap, ◌∙◌, subst, arith, inl, inr}
use Rattle.std.proofs.lemmas.Bool.{cases_lt}
use Rattle.std.proofs.lemmas.Bool.Decides.{nat_tests}
use Rattle.arena.specs.Owners.{Owner, free, fixed, sealed, cell}
use Rattle.step_core.specs.Format.{base_of}
use Rattle.step_core.specs.Plain.{PlainTable, IsPlainTable}
use Rattle.step_core.specs.declared.format.TheConstants.{FIRST_BUCKET, FIRST_KEY}
use Rattle.step_core.proofs.tables.Plain.{starts-apart, starts-behind}

-- the owner of a word behind the generation, by the rows of the first so many buckets
unfoldable pub row_owner : PlainTable → ℕ → ℕ → Owner
row_owner table a zero = free
row_owner table a (suc bucket) =
    cond (nat_le (table.starts bucket) a && nat_lt a (table.starts bucket + FIRST_KEY + length (table.keys bucket)))
    (sealed (table.starts bucket)) (row_owner table a bucket)

-- the owner of each word
unfoldable pub table_owners : ℕ → PlainTable → ℕ → Owner
table_owners seats table a =
    cond (nat_lt a (base_of seats)) fixed
    (cond (nat_lt a table.head) free
    (cond (nat_lt a (table.head + FIRST_BUCKET)) (sealed table.head)
    (cond (nat_lt a (table.head + FIRST_BUCKET + 2 ^ table.exponent)) (cell table.head (a - (table.head + FIRST_BUCKET)))
    (row_owner table a (2 ^ table.exponent)))))

module _ {seats : ℕ} {words : List ℕ} {table : PlainTable} (is : IsPlainTable seats words table) where
  -- the fixed words come first
  pub owner-fixed : (a : ℕ) → a < base_of seats → table_owners seats table a ≡ fixed
  unfolding table_owners
  owner-fixed a lt = grind (arith, nat_tests)

  -- then the generation's two
  pub owner-sealed : (k : ℕ) → k < FIRST_BUCKET → table_owners seats table (table.head + k) ≡ sealed table.head
  unfolding table_owners
  owner-sealed k lt = let first = is.first in grind (arith, nat_tests)

  -- and its bucket words
  pub owner-cell : (k : ℕ) → k < 2 ^ table.exponent → table_owners seats table (table.head + FIRST_BUCKET + k) ≡ cell table.head k
  unfolding table_owners
  owner-cell k lt =
      let first = is.first in
      let place : table.head + FIRST_BUCKET + k - (table.head + FIRST_BUCKET) ≡ k = omega arith in
      let here : table_owners seats table (table.head + FIRST_BUCKET + k) ≡ cell table.head (table.head + FIRST_BUCKET + k -
      (table.head + FIRST_BUCKET)) =
      grind (arith, nat_tests) in
      here ∙ ap (cell table.head) place

  -- behind them come the rows
  behind_generation : (a : ℕ) → table.head + FIRST_BUCKET + 2 ^ table.exponent ≤ a
      → table_owners seats table a ≡ row_owner table a (2 ^ table.exponent)
  unfolding table_owners
  behind_generation a le = let first = is.first in grind (arith, nat_tests)

  row_owner-in : (bucket k count : ℕ) → bucket < count → count ≤ 2 ^ table.exponent → k < FIRST_KEY + length (table.keys bucket)
      → row_owner table (table.starts bucket + k) count ≡ sealed (table.starts bucket)
  unfolding row_owner
  row_owner-in bucket k zero lt le within = absurd (omega arith)
  row_owner-in bucket k (suc count) lt le within =
      let a = table.starts bucket + k in
      elim (cases_lt bucket count) [
        | inl below ↦
            let before = starts-apart is bucket count below (omega arith) in
            let later : (nat_le (table.starts count) a && nat_lt a (table.starts count + FIRST_KEY + length (table.keys count))) ≡ false =
            grind (arith, nat_tests) in
            ap (λ (b : Bool). cond b (sealed (table.starts count)) (row_owner table a count)) later
            ∙ row_owner-in bucket k count below (omega arith) within
        | inr here ↦
            let same : count ≡ bucket = omega arith in
            subst (λ (c : ℕ). cond (nat_le (table.starts c) a && nat_lt a (table.starts c + FIRST_KEY + length (table.keys c)))
            (sealed (table.starts c)) (row_owner table a c) ≡ sealed (table.starts bucket)) (sym same)
            (let inside : (nat_le (table.starts bucket) a && nat_lt a (table.starts bucket + FIRST_KEY + length
            (table.keys bucket))) ≡ true =
            grind (arith, nat_tests) in
            ap (λ (b : Bool). cond b (sealed (table.starts bucket)) (row_owner table a bucket)) inside)
      ]

  -- a row has its words
  pub owner-row : (bucket k : ℕ) → bucket < 2 ^ table.exponent → k < FIRST_KEY + length (table.keys bucket)
      → table_owners seats table (table.starts bucket + k) ≡ sealed (table.starts bucket)
  owner-row bucket k low within =
      behind_generation (table.starts bucket + k) (omega (arith, starts-behind is bucket (omega arith)))
      ∙ row_owner-in bucket k (2 ^ table.exponent) low (omega arith) within

  row_owner-behind : (a count : ℕ) → count ≤ 2 ^ table.exponent → table.starts (2 ^ table.exponent) ≤ a → row_owner table a count ≡ free
  unfolding row_owner
  row_owner-behind a zero le past = refl
  row_owner-behind a (suc count) le past =
      let before = starts-apart is count (2 ^ table.exponent) (omega arith) (omega arith) in
      let later : (nat_le (table.starts count) a && nat_lt a (table.starts count + FIRST_KEY + length (table.keys count))) ≡ false =
      grind (arith, nat_tests) in
      ap (λ (b : Bool). cond b (sealed (table.starts count)) (row_owner table a count)) later
      ∙ row_owner-behind a count (omega arith) past

  -- and behind the last is nobody's
  pub owner-behind : (a : ℕ) → table.starts (2 ^ table.exponent) ≤ a → table_owners seats table a ≡ free
  owner-behind a past =
      behind_generation a (omega (arith, starts-behind is (2 ^ table.exponent) (omega arith)))
      ∙ row_owner-behind a (2 ^ table.exponent) (omega arith) past
