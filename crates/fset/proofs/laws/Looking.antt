-- The load of the head, of a known generation's exponent, and of a key's bucket in it.
use Rattle.std.proofs.Common.{◌≡◌, ℕ, ◌+◌, ◌^◌, ◌<◌, ◌≤◌, List, [], ◌∷◌, ◌++◌, Bool, cond, refl, sym, ap, ◌∙◌, subst, add-zero, arith}
use Rattle.std.proofs.Math.Nat.{mod-lt}
use Rattle.std.proofs.lemmas.Nat.{pow_pos}
use Rattle.step_core.specs.Buckets.{key_bucket}
use Rattle.step_core.specs.Content.{spot_of}
use Rattle.step_core.specs.Format.{IsNil}
use Rattle.step_core.specs.declared.format.TheConstants.{FIRST_BUCKET}
use Rattle.step_core.specs.declared.published.Published.TheVariants.{Generation}
use Rattle.step_core.specs.declared.published.GenerationBlock.{GenerationBlock}
use Rattle.step_core.specs.declared.views.Known.{Known}
use Rattle.step_core.specs.declared.views.PassView.{PassView}
use Rattle.cells.specs.Frames.{after_reads}
use Rattle.cells.specs.Known.{known_block, IsBucketWord, KnowsBucket, KnowsGeneration}
use Rattle.cells.specs.Sound.{IsSound}
use Rattle.cells.specs.Steps.{LoadsBucket, LoadsHead, LoadsSealed, nil_bucket}
use Rattle.cells.proofs.laws.BucketLoads.{is_nil-nil, load_bucket_grows}
use Rattle.cells.proofs.laws.HeadLoads.{load_sealed_still}
use Rattle.cells.proofs.laws.Known.{generation_at-known}
use Rattle.cells.proofs.laws.Sealed.{exponent_word}
use Rattle.cells.proofs.laws.Within.{generation_within}
use Rattle.fset.specs.Frames.{Grows, KeepsOwn}
use Rattle.fset.specs.Seeking.{LoadsBucketOf}
use Rattle.fset.proofs.laws.Frames.{behind_self}

-- A load of the head grows the view by the head's generation.
pub head_grows : (old : PassView) (word : ℕ) (new : PassView) (loads : LoadsHead old word new)
    → Grows (known_block word (Generation loads.generation) ∷ []) 0 0 old new × KeepsOwn old new
head_grows old word new loads = (
  subst (λ (view : PassView). Grows (known_block word (Generation loads.generation) ∷ []) 0 0 old view) (sym loads.view) (record {
    number = refl;
    facts = refl;
    front = loads.grows;
    known = refl;
    fixed = behind_self old.fixed;
    asked = behind_self old.asked;
    drawn = sym (add-zero old.drawn);
    lost = sym (add-zero old.lost);
  }),
  subst (KeepsOwn old) (sym loads.view) (record { mine = refl; flight = refl; used = refl }),
)

-- A load of a bucket makes no entry,
pub bucket_own : (place : ℕ) (old : PassView) (word : ℕ) (new : PassView) → LoadsBucket place old word new → KeepsOwn old new
bucket_own place old word new loads = record {
  mine = ap (λ (view : PassView). view.mine) loads.view;
  flight = ap (λ (view : PassView). view.flight) loads.view;
  used = ap (λ (view : PassView). view.used) loads.view;
}

-- and grows the view by what it makes known and what it lost.
pub bucket_grown : (place : ℕ) (old : PassView) (word : ℕ) (new : PassView) → LoadsBucket place old word new → (learned : List Known) (losses : ℕ)
    → new.known ≡ learned ++ old.known → new.lost ≡ old.lost + losses → Grows learned 0 losses old new
bucket_grown place old word new loads learned losses known lost = record {
  number = ap (λ (view : PassView). view.number) loads.view;
  facts = ap (λ (view : PassView). view.facts) loads.view;
  front = load_bucket_grows place old word new loads;
  known = known;
  fixed = ([], ap (λ (view : PassView). view.fixed) loads.view);
  asked = ([], ap (λ (view : PassView). view.asked) loads.view);
  drawn = ap (λ (view : PassView). view.drawn) loads.view ∙ sym (add-zero old.drawn);
  lost = lost;
}

-- A bucket that is found nil is noted so.
pub nil_noted : (place : ℕ) (old : PassView) (word : ℕ) (new : PassView) (loads : LoadsBucket place old word new) → IsNil word
    → (at bucket : ℕ) (generation : GenerationBlock) → IsSound old → IsBucketWord old place at bucket generation
    → new.nils ≡ record { at = at; bucket = bucket; front = loads.history } ∷ old.nils
nil_noted place old word new loads nil at bucket generation sound is_word =
    let lookup = generation_at-known old place at bucket generation sound is_word in
    ap (λ (view : PassView). view.nils) loads.view
    ∙ ap (λ (b : Bool). cond b (nil_bucket old place loads.history ∷ old.nils) old.nils) (is_nil-nil word nil)
    ∙ (λ i. record { at = lookup.0 i; bucket = lookup.1 i; front = loads.history } ∷ old.nils)

-- A key's bucket is one of the generation's.
pub key_bucket_small : (exponent key : ℕ) → key_bucket exponent key < 2 ^ exponent
key_bucket_small exponent key = mod-lt (spot_of key) (pow_pos exponent)

module _ (v1 v2 : PassView) (at exponent : ℕ) (generation : GenerationBlock) (known : KnowsGeneration v1 at generation)
    (reads : LoadsSealed at v1 exponent v2) where
  -- The load of a generation's exponent tells nothing new.
  pub exponent_still : v2 ≡ after_reads 1 v1
  exponent_still = load_sealed_still at v1 exponent v2 reads at 0 (Generation generation)
      (record { known = known; sealed = omega arith; here = omega arith }) (λ e. absurd (omega (arith, e)))

  pub still_known : KnowsGeneration v2 at generation
  still_known = subst (λ (view : PassView). KnowsGeneration view at generation) (sym exponent_still) known

  -- The word is the exponent,
  pub exponent_is : exponent ≡ generation.exponent
  exponent_is = exponent_word v1 at generation known exponent reads.reads

  -- which is at most 24, and the generation with its buckets lies in the arena.
  pub buckets_within : IsSound v2 → (at + FIRST_BUCKET + 2 ^ exponent ≤ 2 ^ 28) × (exponent ≤ 24)
  buckets_within sound =
      let inside = generation_within v2 sound at generation still_known in
      let size : 2 ^ exponent ≡ 2 ^ generation.exponent = ap (λ (e : ℕ). 2 ^ e) exponent_is in
      (omega (arith, inside.0.small, size), omega (arith, inside.1, exponent_is))

  module _ (key place : ℕ) (here : place ≡ at + FIRST_BUCKET + key_bucket exponent key) where
    -- The place is the word of the key's bucket.
    key_bucket_word : IsBucketWord v2 place at (key_bucket generation.exponent key) generation
    key_bucket_word = record {
      known = still_known;
      within = key_bucket_small generation.exponent key;
      here = here ∙ ap (λ (e : ℕ). at + FIRST_BUCKET + key_bucket e key) exponent_is;
    }

    -- So it may be loaded,
    pub knows_key_bucket : KnowsBucket v2 place
    knows_key_bucket = (at, key_bucket generation.exponent key, generation, key_bucket_word)

    -- and is then the bucket of the key.
    pub bucket_loaded : (number word : ℕ) (v3 : PassView) → number ≡ key_bucket exponent key → LoadsBucket place v2 word v3
        → LoadsBucketOf at key v1 (record { bucket = number; place = place; word = word }) v3
    bucket_loaded number word v3 is loads = record {
      generation = generation;
      number = is ∙ ap (λ (e : ℕ). key_bucket e key) exponent_is;
      is_word = subst (λ (view : PassView). IsBucketWord view place at (key_bucket generation.exponent key) generation)
          exponent_still key_bucket_word;
      loads = subst (λ (view : PassView). LoadsBucket place view word v3) exponent_still loads;
    }
