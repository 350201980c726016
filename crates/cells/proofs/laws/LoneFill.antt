-- A fill of a nil bucket touches that bucket in the ledger of a pass that is the only one, and nothing else.
use Rattle.std.proofs.Common.{◌≡◌, ◌≢◌, ℕ, ◌+◌, ◌^◌, ◌<◌, ◌||◌, ◌&&◌, not, Bool, true, false, nat_eq, Option, inl, inr, refl, sym, ap, ◌∙◌, subst, eq-eqb}
use native.Mathlib.Decide.{ℕ_discrete}
use Rattle.std.proofs.lemmas.Bool.{cases_Bool}
use Rattle.step_core.specs.Ledger.{touched}
use Rattle.step_core.specs.Rising.{keys_after}
use Rattle.step_core.specs.States.{IsGeneration}
use Rattle.step_core.specs.declared.published.Published.{Published}
use Rattle.step_core.specs.declared.published.GenerationBlock.{GenerationBlock}
use Rattle.step_core.specs.declared.views.PassView.{PassView}
use Rattle.cells.specs.Filling.{view_after_fill}
use Rattle.cells.specs.Known.{generation_at, bucket_at}
use Rattle.cells.specs.Lone.{head_at, head_generation, is_among, is_untouched, ledger_of, KnowsTable}

-- what isn't one or among the others isn't that one, and isn't among the others
neither : (before one other : Bool) → (before && not (one || other)) ≡ (not one && (before && not other))
neither true true other = refl
neither true false other = refl
neither false true other = refl
neither false false other = refl

-- what was touched is so
still_touched : (apart : Bool) → (apart && false) ≡ false
still_touched true = refl
still_touched false = refl

module _ (place at : ℕ) (old : PassView) (in_head : generation_at old.known place ≡ head_at old) where
  -- the bucket
  abbrev bucket : ℕ
  bucket = bucket_at old.known place

  -- the view after the fill
  abbrev new : PassView
  new = view_after_fill place at old

  module _ (generation : head_generation new ≡ head_generation old) where
    -- the buckets are untouched that were, but for that one
    untouched_is : (other : ℕ) → is_untouched new other ≡ (not (nat_eq bucket other) && is_untouched old other)
    untouched_is other =
        let rest : Bool = is_among old.filled (head_at old) other in
        let before : GenerationBlock → Bool = λ g. not (nat_eq g.predecessor 0) in
        ap (λ (g : GenerationBlock). before g && not (is_among new.filled (head_at old) other)) generation
        ∙ ap (λ (here : Bool). before (head_generation old) && not ((here && nat_eq bucket other) || rest))
        (eq-eqb (generation_at old.known place) (head_at old) in_head)
        ∙ neither (before (head_generation old)) (nat_eq bucket other) rest

    -- So the ledger has that bucket touched.
    pub ledger_after_fill : ledger_of new ≡ touched bucket (ledger_of old)
    unfolding ledger_of
    ledger_after_fill = λ i. record {
      keys = keys_after old.facts.keys old.front;
      exponent = (generation i).exponent;
      untouched = λ other. untouched_is other i;
      next = old.facts.opened + old.drawn;
      cap = old.facts.cap;
      spent = old.spent;
    }

    -- The pass knows the table still, where all buckets of the head but that one have the words that they had.
    pub table_after_fill : (head : ℕ) (blocks new_blocks : ℕ → Option Published) (cells new_cells : ℕ → ℕ → ℕ)
        → IsGeneration new_blocks head (head_generation old) → ((other : ℕ) → other ≢ bucket → new_cells head other ≡ cells head other)
        → KnowsTable head blocks cells old → KnowsTable head new_blocks new_cells new
    table_after_fill head blocks new_blocks cells new_cells here stays table = record {
      head_is = table.head_is;
      generation = subst (IsGeneration new_blocks head) (sym generation) here;
      nil = λ other within test. elim (ℕ_discrete bucket other) [
        | yes same ↦
            let both : is_untouched new other ≡ false = untouched_is other
            ∙ ap (λ (here : Bool). not here && is_untouched old other) (eq-eqb bucket other same) in
            absurd (let clash : true ≡ false = sym test ∙ both in cc)
        | no apart ↦ elim (cases_Bool (is_untouched old other)) [
          | inl untouched ↦ stays other (λ same. apart (sym same))
              ∙ table.nil other (subst (λ (g : GenerationBlock). other < 2 ^ g.exponent) generation within) untouched
          | inr filled ↦
              let both : is_untouched new other ≡ false = untouched_is other
              ∙ ap (λ (was : Bool). not (nat_eq bucket other) && was) filled ∙ still_touched (not (nat_eq bucket other)) in
              absurd (let clash : true ≡ false = sym test ∙ both in cc)
        ]
      ];
    }
