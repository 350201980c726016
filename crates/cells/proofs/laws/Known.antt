-- What is known at a place is one block: lookups find it, and it stays while more becomes known.
use Rattle.std.proofs.Common.{◌≡◌, ℕ, zero, suc, ◌+◌, ◌<◌, ◌^◌, Bool, true, false, cond, List, [], ◌∷◌, ◌++◌, Contains, ◌⊎◌, inl, inr, ⊎_elim, refl, sym, ap, ◌∙◌, subst, eq-eqb, ne_eqb, arith}
use Rattle.std.proofs.lemmas.Bool.{cases_Bool}
use Rattle.std.proofs.lemmas.Bool.Decides.{nat_tests}
use Rattle.std.proofs.lemmas.List.Elements.{Contains-append_left, Contains-append_right}
use native.Mathlib.Decide.{ℕ_discrete}
use Rattle.step_core.specs.declared.format.TheConstants.{FIRST_BUCKET}
use Rattle.step_core.specs.declared.published.Published.{Published}
use Rattle.step_core.specs.declared.published.Published.TheVariants.{Generation, Row, Op}
use Rattle.step_core.specs.declared.published.GenerationBlock.{GenerationBlock}
use Rattle.step_core.specs.declared.published.RowBlock.{RowBlock}
use Rattle.step_core.specs.declared.views.Known.{Known}
use Rattle.step_core.specs.declared.views.PassView.{PassView}
use Rattle.cells.specs.Known.{known_block, KnowsBlock, KnowsRow, KnowsGeneration, row_of, row_at, keys_at, has_bucket_at, generation_at, bucket_at, KnowsSealed, KnowsBucket, IsBucketWord}
use Rattle.cells.specs.Lone.{generation_of, generation_in}
use Rattle.cells.specs.Sound.{IsInBlock, IsSound}

-- what a list with one more block in front contains
contains_more : (first : Known) (others : List Known) (known : Known) → Contains (first ∷ others) known
    → (first ≡ known) ⊎ Contains others known
contains_more first others known (zero, lt, is) = inl is
contains_more first others known (suc index, lt, is) = inr (index, omega arith, is)

-- the first of a list is in it,
contains_first : (first : Known) (others : List Known) → Contains (first ∷ others) first
contains_first first others = (zero, omega arith, refl)

-- and so is what is in the others
contains_later : (first : Known) (others : List Known) (known : Known) → Contains others known → Contains (first ∷ others) known
contains_later first others known (index, lt, is) = (suc index, omega arith, is)

-- where all that a list has at the address is the row, the lookup finds it
row_at-only : (known : List Known) (at : ℕ) (row : RowBlock)
    → ((block : Published) → Contains known (known_block at block) → block ≡ Row row)
    → Contains known (known_block at (Row row)) → row_at known at ≡ row
row_at-only [] at row only (index, lt, is) = absurd (omega arith)
row_at-only (first ∷ others) at row only there = elim (ℕ_discrete first.at at) [
  | yes same ↦
      let here : Contains (first ∷ others) (known_block at first.block) =
      subst (λ (place : ℕ). Contains (first ∷ others) (known_block place first.block)) same (contains_first first others) in
      ap (λ (b : Bool). cond b (row_of first.block) (row_at others at)) (eq-eqb first.at at same)
      ∙ ap row_of (only first.block here)
  | no apart ↦
      ap (λ (b : Bool). cond b (row_of first.block) (row_at others at)) (ne_eqb first.at at apart)
      ∙ row_at-only others at row (λ block is. only block (contains_later first others (known_block at block) is))
      (⊎_elim (λ (e : first ≡ known_block at (Row row)). absurd (apart (ap (λ (known : Known). known.at) e))) (λ later. later)
      (contains_more first others (known_block at (Row row)) there))
]

-- The row that is known at an address is the one that the lookup finds.
pub row_at-known : (view : PassView) (at : ℕ) (row : RowBlock) → IsSound view → KnowsRow view at row
    → row_at view.known at ≡ row
row_at-known view at row sound known =
    row_at-only view.known at row (λ block is. sound.one at block (Row row) is known) known

-- So its keys are those that are known there.
pub keys_at-known : (view : PassView) (at : ℕ) (row : RowBlock) → IsSound view → KnowsRow view at row
    → keys_at view at ≡ row.keys
keys_at-known view at row sound known = ap (λ (row : RowBlock). row.keys) (row_at-known view at row sound known)

-- where all that a list has at the address is the generation, the lookup finds it
generation_in-only : (known : List Known) (at : ℕ) (none generation : GenerationBlock)
    → ((block : Published) → Contains known (known_block at block) → block ≡ Generation generation)
    → Contains known (known_block at (Generation generation)) → generation_in known at none ≡ generation
generation_in-only [] at none generation only (index, lt, is) = absurd (omega arith)
generation_in-only (first ∷ others) at none generation only there = elim (ℕ_discrete first.at at) [
  | yes same ↦
      let here : Contains (first ∷ others) (known_block at first.block) =
      subst (λ (place : ℕ). Contains (first ∷ others) (known_block place first.block)) same (contains_first first others) in
      ap (λ (b : Bool). cond b (generation_of first.block none) (generation_in others at none)) (eq-eqb first.at at same)
      ∙ ap (λ (block : Published). generation_of block none) (only first.block here)
  | no apart ↦
      ap (λ (b : Bool). cond b (generation_of first.block none) (generation_in others at none)) (ne_eqb first.at at apart)
      ∙ generation_in-only others at none generation (λ block is. only block (contains_later first others (known_block at block) is))
      (⊎_elim (λ (e : first ≡ known_block at (Generation generation)). absurd (apart (ap (λ (known : Known). known.at) e)))
      (λ later. later) (contains_more first others (known_block at (Generation generation)) there))
]

-- The generation that is known at an address is the one that the lookup finds.
pub generation_in-known : (view : PassView) (at : ℕ) (none generation : GenerationBlock) → IsSound view → KnowsGeneration view at generation
    → generation_in view.known at none ≡ generation
generation_in-known view at none generation sound known =
    generation_in-only view.known at none generation (λ block is. sound.one at block (Generation generation) is known) known

-- What is known stays known, and what was learned is known.
pub knows_more : (learned : List Known) (old new : PassView) → new.known ≡ learned ++ old.known
    → (at : ℕ) (block : Published) → KnowsBlock old at block → KnowsBlock new at block
knows_more learned old new more at block known =
    subst (λ (list : List Known). Contains list (known_block at block)) (sym more)
    (Contains-append_right learned old.known (known_block at block) known)

-- What was learned is known.
pub knows_new : (learned : List Known) (old new : PassView) → new.known ≡ learned ++ old.known
    → (at : ℕ) (block : Published) → Contains learned (known_block at block) → KnowsBlock new at block
knows_new learned old new more at block known =
    subst (λ (list : List Known). Contains list (known_block at block)) (sym more)
    (Contains-append_left learned old.known (known_block at block) known)

-- The first block that was learned is known.
pub knows_first : (at : ℕ) (block : Published) (learned : List Known) (old new : PassView)
    → new.known ≡ known_block at block ∷ learned ++ old.known → KnowsBlock new at block
knows_first at block learned old new more =
    subst (λ (list : List Known). Contains list (known_block at block)) (sym more)
    (contains_first (known_block at block) (learned ++ old.known))

-- A known row stays known, and the lookup goes on to find it.
pub row_stays : (learned : List Known) (old new : PassView) → IsSound new → new.known ≡ learned ++ old.known
    → (at : ℕ) (row : RowBlock) → KnowsRow old at row
    → KnowsRow new at row × (row_at new.known at ≡ row_at old.known at)
row_stays learned old new sound more at row known =
    let still = knows_more learned old new more in (
      still at (Row row) known,
      row_at-known new at row sound (still at (Row row) known)
          ∙ sym (row_at-only old.known at row
          (λ block is. sound.one at block (Row row) (still at block is) (still at (Row row) known)) known),
    )

-- So the keys that are known there stay.
pub keys_stay : (learned : List Known) (old new : PassView) → IsSound new → new.known ≡ learned ++ old.known
    → (at : ℕ) (row : RowBlock) → KnowsRow old at row → keys_at new at ≡ keys_at old at
keys_stay learned old new sound more at row known =
    ap (λ (row : RowBlock). row.keys) (row_stays learned old new sound more at row known).1

-- Of a row that was learned just now the lookup finds it, whatever else is known.
pub row_at-first : (at : ℕ) (row : RowBlock) (others : List Known) → row_at (known_block at (Row row) ∷ others) at ≡ row
row_at-first at row others = ap (λ (b : Bool). cond b row (row_at others at)) (eq-eqb at at refl)

module _ (learned : List Known) (old new : PassView) (more : new.known ≡ learned ++ old.known) where
  -- A word of a known block that never changes goes on to be one.
  pub sealed_stays : (place : ℕ) → KnowsSealed old place → KnowsSealed new place
  sealed_stays place (at, k, block, word) = (
    at,
    k,
    block,
    record {
      known = knows_more learned old new more at block word.known;
      sealed = word.sealed;
      here = word.here;
    },
  )

  -- A bucket word of a known generation goes on to be that.
  pub bucket_word_stays : (place at bucket : ℕ) (generation : GenerationBlock) → IsBucketWord old place at bucket generation
      → IsBucketWord new place at bucket generation
  bucket_word_stays place at bucket generation word = record {
    known = knows_more learned old new more at (Generation generation) word.known;
    within = word.within;
    here = word.here;
  }

  -- So does the place of one.
  pub bucket_stays : (place : ℕ) → KnowsBucket old place → KnowsBucket new place
  bucket_stays place (at, bucket, generation, word) =
      (at, bucket, generation, bucket_word_stays place at bucket generation word)

-- where all blocks of a list that have the place stand at the address, the lookup finds that address
generation_at-only : (known : List Known) (place at : ℕ) (block : Published)
    → ((other : ℕ) (block : Published) → Contains known (known_block other block)
    → has_bucket_at place other block ≡ true → other ≡ at)
    → Contains known (known_block at block) → has_bucket_at place at block ≡ true → generation_at known place ≡ at
generation_at-only [] place at block only (index, lt, is) has = absurd (omega arith)
generation_at-only (first ∷ others) place at block only there has =
    ⊎_elim
    (λ (here : has_bucket_at place first.at first.block ≡ true).
    ap (λ (b : Bool). cond b first.at (generation_at others place)) here
    ∙ only first.at first.block (contains_first first others) here)
    (λ (elsewhere : has_bucket_at place first.at first.block ≡ false).
    ap (λ (b : Bool). cond b first.at (generation_at others place)) elsewhere
    ∙ generation_at-only others place at block
    (λ other found is. only other found (contains_later first others (known_block other found) is))
    (⊎_elim (λ (e : first ≡ known_block at block).
    absurd (let clash : false ≡ true = sym elsewhere
    ∙ ap (λ (known : Known). has_bucket_at place known.at known.block) e ∙ has in cc))
    (λ later. later) (contains_more first others (known_block at block) there))
    has)
    (cases_Bool (has_bucket_at place first.at first.block))

-- a block that has the place among its buckets has it among its words
in_block : (view : PassView) (place at : ℕ) (block : Published) → KnowsBlock view at block
    → has_bucket_at place at block ≡ true → IsInBlock view at place
in_block view place at (Generation generation) known has = record {
  block = Generation generation;
  known = known;
  begun = grind (arith, nat_tests);
  within = grind (arith, nat_tests);
}
in_block view place at (Row row) known has = absurd (cc)
in_block view place at (Op op) known has = absurd (cc)

-- the test holds of a bucket word
has_bucket : (place at bucket : ℕ) (generation : GenerationBlock) → bucket < 2 ^ generation.exponent
    → place ≡ at + FIRST_BUCKET + bucket → has_bucket_at place at (Generation generation) ≡ true
has_bucket place at bucket generation within here = grind (arith, nat_tests)

-- Of a bucket word the lookups find its generation and its bucket.
pub generation_at-known : (view : PassView) (place at bucket : ℕ) (generation : GenerationBlock) → IsSound view
    → IsBucketWord view place at bucket generation
    → (generation_at view.known place ≡ at) × (bucket_at view.known place ≡ bucket)
generation_at-known view place at bucket generation sound word =
    let has : has_bucket_at place at (Generation generation) ≡ true = has_bucket place at bucket generation word.within word.here in
    let found : generation_at view.known place ≡ at =
    generation_at-only view.known place at (Generation generation)
    (λ other block is test. sound.apart other at place (in_block view place other block is test)
    (in_block view place at (Generation generation) word.known has))
    word.known has in
    (found, omega (arith, word.here))
