-- The ledger of a pass that is the only one: it is read off a few fields of the view, and what else becomes known changes nothing of it.
use Rattle.std.proofs.Common.{◌≡◌, ℕ, ◌+◌, ◌^◌, ◌<◌, ◌||◌, ◌&&◌, not, Bool, true, false, cond, nat_eq, List, [], ◌∷◌, ◌++◌, Option, Some, All, inl, inr, refl, sym, ap, ◌∙◌, subst, eq-eqb, ne_eqb}
use native.Mathlib.Decide.{ℕ_discrete}
use Rattle.std.proofs.lemmas.Bool.{cases_Bool}
use Rattle.std.proofs.lemmas.Bool.Decides.{Decides-eqb}
use Rattle.std.proofs.lemmas.List.Elements.{All-head, All-tail}
use Rattle.step_core.specs.Fits.{IsPublished}
use Rattle.step_core.specs.Rising.{keys_after}
use Rattle.step_core.specs.States.{IsGeneration}
use Rattle.step_core.specs.declared.published.Published.{Published}
use Rattle.step_core.specs.declared.published.Published.TheVariants.{Generation}
use Rattle.step_core.specs.declared.published.GenerationBlock.{GenerationBlock}
use Rattle.step_core.specs.declared.views.FilledBucket.{FilledBucket}
use Rattle.step_core.specs.declared.views.Known.{Known}
use Rattle.step_core.specs.declared.views.PassView.{PassView}
use Rattle.cells.specs.Lone.{head_at, generation_of, generation_in, head_generation, is_among, is_untouched, ledger_of, KnowsTable, SameLedger}

-- where more becomes known of what is published, the generation found at an address stays
pub generation_in-stays : (blocks : ℕ → Option Published) (learned known : List Known) (at : ℕ) (none generation : GenerationBlock)
    → All (IsPublished blocks) learned → IsGeneration blocks at generation → generation_in known at none ≡ generation
    → generation_in (learned ++ known) at none ≡ generation
generation_in-stays blocks [] known at none generation published here found = found
generation_in-stays blocks (first ∷ learned) known at none generation published here found = elim (ℕ_discrete first.at at) [
  | yes same ↦
      let there : blocks first.at ≡ Some first.block = All-head (IsPublished blocks) first learned published in
      let is : Some first.block ≡ Some (Generation generation) = sym there ∙ ap blocks same ∙ here in
      let block : first.block ≡ Generation generation = cc in
      ap (λ (b : Bool). cond b (generation_of first.block none) (generation_in (learned ++ known) at none)) (eq-eqb first.at at same)
      ∙ ap (λ (block : Published). generation_of block none) block
  | no apart ↦
      ap (λ (b : Bool). cond b (generation_of first.block none) (generation_in (learned ++ known) at none)) (ne_eqb first.at at apart)
      ∙ generation_in-stays blocks learned known at none generation (All-tail (IsPublished blocks) first learned published) here found
]

-- the first block that is known at its own address is found there
pub generation_in-first : (at : ℕ) (generation none : GenerationBlock) (known : List Known)
    → generation_in (record { at = at; block = Generation generation } ∷ known) at none ≡ generation
generation_in-first at generation none known =
    ap (λ (b : Bool). cond b generation (generation_in known at none)) (eq-eqb at at refl)

-- a bucket is among others and one more where it is that one or among the others
is_among-more : (first : FilledBucket) (others : List FilledBucket) (at bucket : ℕ)
    → (first.at ≡ at → first.bucket ≡ bucket → ⊥) → is_among (first ∷ others) at bucket ≡ is_among others at bucket
is_among-more first others at bucket apart = elim (cases_Bool (nat_eq first.at at)) [
  | inl same ↦ elim (cases_Bool (nat_eq first.bucket bucket)) [
    | inl here ↦ absurd (apart ((Decides-eqb first.at at).0 same) ((Decides-eqb first.bucket bucket).0 here))
    | inr other ↦
        ap (λ (b : Bool). (b && nat_eq first.bucket bucket) || is_among others at bucket) same
        ∙ ap (λ (b : Bool). b || is_among others at bucket) other
  ]
  | inr other ↦ ap (λ (b : Bool). (b && nat_eq first.bucket bucket) || is_among others at bucket) other
]

-- what is filled is so still
and_not_more : (before one other : Bool) → one ≡ other → (before && not one) ≡ (before && not other)
and_not_more before one other same = ap (λ (b : Bool). before && not b) same

-- nothing is both
and_not_true : (before : Bool) → (before && not true) ≡ false
and_not_true true = refl
and_not_true false = refl

-- one bucket more that is filled, and that wasn't untouched, leaves the same untouched
pub is_untouched-more : (before : Bool) (first : FilledBucket) (others : List FilledBucket) (at bucket : ℕ)
    → (first.at ≡ at → first.bucket ≡ bucket → (before && not (is_among others at bucket)) ≡ false)
    → (before && not (is_among (first ∷ others) at bucket)) ≡ (before && not (is_among others at bucket))
is_untouched-more before first others at bucket touched = elim (ℕ_discrete first.at at) [
  | yes same ↦ elim (ℕ_discrete first.bucket bucket) [
    | yes here ↦
        let found : is_among (first ∷ others) at bucket ≡ true =
        ap (λ (b : Bool). (b && nat_eq first.bucket bucket) || is_among others at bucket) (eq-eqb first.at at same)
        ∙ ap (λ (b : Bool). b || is_among others at bucket) (eq-eqb first.bucket bucket here) in
        ap (λ (b : Bool). before && not b) found ∙ and_not_true before ∙ sym (touched same here)
    | no other ↦ and_not_more before (is_among (first ∷ others) at bucket) (is_among others at bucket)
        (is_among-more first others at bucket (λ a b. other b))
  ]
  | no apart ↦ and_not_more before (is_among (first ∷ others) at bucket) (is_among others at bucket)
      (is_among-more first others at bucket (λ a b. apart a))
]

module _ (old new : PassView) (facts : new.facts ≡ old.facts) (generation : head_generation new ≡ head_generation old)
    (untouched : (bucket : ℕ) → is_untouched new bucket ≡ is_untouched old bucket) where
  -- where the head's generation, the untouched buckets, the front and the draws are as they were, so is the ledger
  pub same_ledger : new.front ≡ old.front → new.drawn ≡ old.drawn → new.spent ≡ old.spent → SameLedger old new
  unfolding ledger_of
  same_ledger front drawn spent = record {
    front = front;
    ledger = λ i. record {
      keys = keys_after (facts i).keys (front i);
      exponent = (generation i).exponent;
      untouched = λ bucket. untouched bucket i;
      next = (facts i).opened + drawn i;
      cap = (facts i).cap;
      spent = spent i;
    };
  }

  -- and the pass knows the table still
  pub table_stays : (head : ℕ) (blocks : ℕ → Option Published) (cells : ℕ → ℕ → ℕ) → head_at new ≡ head_at old
      → KnowsTable head blocks cells old → KnowsTable head blocks cells new
  table_stays head blocks cells same table = record {
    head_is = same ∙ table.head_is;
    generation = subst (IsGeneration blocks head) (sym generation) table.generation;
    nil = λ bucket within test. table.nil bucket
        (subst (λ (g : GenerationBlock). bucket < 2 ^ g.exponent) generation within)
        (sym (untouched bucket) ∙ test);
  }

-- with the same head, generation and filled buckets the same are untouched
pub is_untouched-same : (old new : PassView) → head_at new ≡ head_at old → head_generation new ≡ head_generation old
    → new.filled ≡ old.filled → (bucket : ℕ) → is_untouched new bucket ≡ is_untouched old bucket
is_untouched-same old new head generation filled bucket =
    λ i. not (nat_eq (generation i).predecessor 0) && not (is_among (filled i) (head i) bucket)

-- the ledger's next place is behind all that the pass drew,
pub ledger_of-next : (view : PassView) → (ledger_of view).next ≡ view.facts.opened + view.drawn
unfolding ledger_of
ledger_of-next view = refl

-- the buckets that it has as untouched are,
pub ledger_of-untouched : (view : PassView) (bucket : ℕ) → (ledger_of view).untouched bucket ≡ is_untouched view bucket
unfolding ledger_of
ledger_of-untouched view bucket = refl

-- its keys are the set at the front,
pub ledger_of-keys : (view : PassView) → (ledger_of view).keys ≡ keys_after view.facts.keys view.front
unfolding ledger_of
ledger_of-keys view = refl

-- and its exponent is the head's
pub ledger_of-exponent : (view : PassView) → (ledger_of view).exponent ≡ (head_generation view).exponent
unfolding ledger_of
ledger_of-exponent view = refl
