-- A load of a bucket leaves the ledger of a pass that is the only one: it learns a row, and a bucket that isn't nil wasn't untouched.
use Rattle.std.proofs.Common.{◌≡◌, ℕ, ◌^◌, ◌<◌, ◌&&◌, not, Bool, false, cond, nat_eq, List, [], ◌∷◌, Option, Some, inl, inr, refl, sym, ap, ap₂, ◌∙◌, subst}
use native.Mathlib.Decide.{ℕ_discrete}
use Rattle.std.proofs.lemmas.Bool.{cases_Bool}
use Rattle.std.proofs.lemmas.List.Elements.{All-cons, All-nil}
use Rattle.set_model.specs.declared.entry.Entry.{Entry}
use Rattle.step_core.specs.Fits.{IsPublished}
use Rattle.step_core.specs.Format.{IsNil, row_address}
use Rattle.step_core.specs.States.{IsGeneration, IsRow}
use Rattle.step_core.specs.declared.published.Published.{Published}
use Rattle.step_core.specs.declared.published.Published.TheVariants.{Generation, Row}
use Rattle.step_core.specs.declared.published.GenerationBlock.{GenerationBlock}
use Rattle.step_core.specs.declared.published.RowBlock.{RowBlock}
use Rattle.step_core.specs.declared.views.FilledBucket.{FilledBucket}
use Rattle.step_core.specs.declared.views.Mark.{Mark}
use Rattle.step_core.specs.declared.views.PassView.{PassView}
use Rattle.cells.specs.Known.{known_block, generation_at, bucket_at}
use Rattle.cells.specs.Lone.{head_at, generation_in, first_generation, head_generation, is_among, is_untouched, KnowsTable}
use Rattle.cells.specs.Steps.{filled_bucket, view_after_load_bucket}
use Rattle.cells.proofs.laws.BucketLoads.{is_nil-nil, is_nil-other}
use Rattle.cells.proofs.laws.Lone.{generation_in-stays, is_untouched-more}

-- at one address one generation is published
one_published : (blocks : ℕ → Option Published) (at : ℕ) (one other : GenerationBlock) → IsGeneration blocks at one
    → IsGeneration blocks at other → one ≡ other
one_published blocks at one other here there =
    let both : Some (Generation one) ≡ Some (Generation other) = sym here ∙ there in cc

module _ (head : ℕ) (blocks : ℕ → Option Published) (cells : ℕ → ℕ → ℕ) (old : PassView) (table : KnowsTable head blocks cells old)
    (place at bucket word : ℕ) (generation : GenerationBlock)
    (found_at : generation_at old.known place ≡ at) (found_bucket : bucket_at old.known place ≡ bucket)
    (here : IsGeneration blocks at generation) (within : bucket < 2 ^ generation.exponent) (shown : word ≡ cells at bucket) where
  -- a bucket of the head that isn't nil isn't untouched
  pub is_touched : ¬ IsNil word → at ≡ head_at old → is_untouched old bucket ≡ false
  is_touched some same = elim (cases_Bool (is_untouched old bucket)) [
    | inl untouched ↦
        let is_head : at ≡ head = same ∙ table.head_is in
        let is_generation : generation ≡ head_generation old =
        one_published blocks head generation (head_generation old)
        (subst (λ (a : ℕ). IsGeneration blocks a generation) is_head here) table.generation in
        let low : bucket < 2 ^ (head_generation old).exponent =
        subst (λ (g : GenerationBlock). bucket < 2 ^ g.exponent) is_generation within in
        absurd (some (shown ∙ ap (λ (a : ℕ). cells a bucket) is_head ∙ table.nil bucket low untouched))
    | inr touched ↦ touched
  ]

  module _ (history : List Entry) (row : RowBlock) (marks : List Mark) (named : ¬ IsNil word → IsRow blocks (row_address word) row) where
    -- the view after the load
    abbrev new : PassView
    new = view_after_load_bucket place word history row marks old

    -- it finds the head's generation still
    pub bucket_generation : head_generation new ≡ head_generation old
    bucket_generation = elim (ℕ_discrete word 0) [
      | yes nil ↦
          ap (λ (b : Bool). generation_in (cond b old.known (known_block (row_address word) (Row row) ∷ old.known)) (head_at old)
          (first_generation old.facts)) (is_nil-nil word nil)
      | no some ↦
          ap (λ (b : Bool). generation_in (cond b old.known (known_block (row_address word) (Row row) ∷ old.known)) (head_at old)
          (first_generation old.facts)) (is_nil-other word some)
          ∙ generation_in-stays blocks (known_block (row_address word) (Row row) ∷ []) old.known (head_at old)
          (first_generation old.facts) (head_generation old)
          (All-cons (IsPublished blocks) (known_block (row_address word) (Row row)) [] (named some) (All-nil (IsPublished blocks)))
          (subst (λ (a : ℕ). IsGeneration blocks a (head_generation old)) (sym table.head_is) table.generation) refl
    ]

    -- and the same buckets are untouched
    pub bucket_untouched : (b : ℕ) → is_untouched new b ≡ is_untouched old b
    bucket_untouched b =
        let before : GenerationBlock → Bool = λ g. not (nat_eq g.predecessor 0) in
        let untouched : GenerationBlock → List FilledBucket → Bool =
        λ g filled. before g && not (is_among filled (head_at old) b) in
        elim (ℕ_discrete word 0) [
          | yes nil ↦ ap₂ untouched bucket_generation
              (ap (λ (b : Bool). cond b old.filled (filled_bucket old place ∷ old.filled)) (is_nil-nil word nil))
          | no some ↦ ap₂ untouched bucket_generation
              (ap (λ (b : Bool). cond b old.filled (filled_bucket old place ∷ old.filled)) (is_nil-other word some))
              ∙ is_untouched-more (before (head_generation old)) (filled_bucket old place) old.filled (head_at old) b
              (λ same this.
              subst (λ (k : ℕ). is_untouched old k ≡ false) (sym found_bucket ∙ this) (is_touched some (sym found_at ∙ same)))
        ]
