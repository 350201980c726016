-- The only pass of a round finds its key's bucket as the ledger says: nil where it is untouched, never frozen, with the keys of the ledger.
use Rattle.std.proofs.Common.{◌≡◌, ℕ, Bool, false, sym, ap, ◌∙◌, subst}
use Rattle.step_core.specs.Buckets.{class_keys, key_bucket}
use Rattle.step_core.specs.Format.{IsMutable, IsNil, base_of, row_address}
use Rattle.step_core.specs.Ledger.{Ledger, bucket_for, bucket_keys, touch, touch_for, touch_where}
use Rattle.step_core.specs.Rising.{keys_after}
use Rattle.step_core.specs.declared.published.GenerationBlock.{GenerationBlock}
use Rattle.step_core.specs.declared.published.RowBlock.{RowBlock}
use Rattle.step_core.specs.declared.views.PassView.{PassView}
use Rattle.step_core.specs.declared.views.RoundFacts.{RoundFacts}
use Rattle.cells.specs.Frames.{after_reads}
use Rattle.cells.specs.Known.{IsBucketWord, keys_at}
use Rattle.cells.specs.Lone.{head_at, head_generation, is_untouched, latest_head, ledger_of, EndsAs, IsNilOfHead, SameLedger}
use Rattle.cells.specs.Sound.{IsSound}
use Rattle.cells.specs.Steps.{LoadsHead, LoadsKnownBucket, is_nil}
use Rattle.cells.proofs.laws.BucketKeys.{load_bucket_keys}
use Rattle.cells.proofs.laws.BucketLoads.{is_nil-nil, is_nil-other}
use Rattle.cells.proofs.laws.Lone.{ledger_of-exponent, ledger_of-keys, ledger_of-untouched}
use Rattle.cells.proofs.laws.Outcomes.{ends_before, ends_from, ends_same}
use Rattle.fset.specs.Alone.{FillsAlone, FindsAlone, HasBucketKeys, LoadsAlone}
use Rattle.fset.specs.Ensuring.{EnsuresFilled}
use Rattle.fset.specs.Seeking.{LoadsBucketOf}
use Rattle.fset.specs.Seen.{ReadsRow}
use Rattle.fset.specs.declared.seeking.LoadedBucket.{LoadedBucket}
use Rattle.fset.specs.declared.seen.Seen.{Seen}
use Rattle.fset.proofs.laws.AloneRows.{reads_same, same_then, still_alone}
use Rattle.fset.proofs.laws.AloneSources.{head_generation-known}

module _ (head key : ℕ) (old new : PassView) (bucket : LoadedBucket) (of : LoadsBucketOf head key old bucket new) (sound : IsSound old)
    (alone : old.facts.seats ≡ 1) (here : head ≡ head_at old) where
  abbrev between : PassView
  between = after_reads 1 old

  abbrev number : ℕ
  number = key_bucket of.generation.exponent key

  tells : LoadsKnownBucket bucket.place between bucket.word new
  tells = of.loads.alone alone

  is_generation : head_generation old ≡ of.generation
  is_generation = head_generation-known old head of.generation sound of.is_word.known here

  -- the bucket is one of the head
  own_word : IsBucketWord between bucket.place (head_at between) number (head_generation between)
  own_word = subst (λ (z : ℕ × GenerationBlock). IsBucketWord between bucket.place z.0 number z.1) (λ i. (here i, sym is_generation i)) of.is_word

  exponent_is : (ledger_of old).exponent ≡ of.generation.exponent
  exponent_is = ledger_of-exponent old ∙ ap (λ (g : GenerationBlock). g.exponent) is_generation

  -- The load leaves the ledger.
  pub loaded_same : SameLedger old new
  loaded_same = same_then old between new (reads_same 1 old) tells.same

  -- The bucket isn't frozen,
  pub loaded_mutable : IsMutable bucket.word
  loaded_mutable = tells.mutable number own_word

  -- it is the key's bucket of the ledger,
  pub loaded_number : bucket.bucket ≡ bucket_for key (ledger_of old)
  loaded_number = of.number ∙ ap (λ (e : ℕ). key_bucket e key) (sym exponent_is)

  -- and is nil where that has it as untouched.
  loaded_nil : (ledger_of old).untouched (bucket_for key (ledger_of old)) ≡ is_nil bucket.word
  loaded_nil =
      ledger_of-untouched old (bucket_for key (ledger_of old))
      ∙ ap (λ (e : ℕ). is_untouched old (key_bucket e key)) exponent_is
      ∙ sym (tells.nil number own_word)

  -- Its row has the bucket's keys.
  pub loaded_keys : ¬ IsNil bucket.word → IsSound new → HasBucketKeys (row_address bucket.word) key new
  loaded_keys filled sound_now =
      let exponent : of.generation.exponent ≡ (ledger_of new).exponent =
      sym exponent_is ∙ sym (ap (λ (l : Ledger). l.exponent) loaded_same.ledger) in
      let keys : keys_after old.facts.keys new.front ≡ (ledger_of new).keys =
      ap (λ (f : RoundFacts). keys_after f.keys new.front) (sym (ap (λ (view : PassView). view.facts) of.loads.view)) ∙ sym (ledger_of-keys new) in
      load_bucket_keys bucket.place between bucket.word new of.loads sound_now filled head number of.generation of.is_word loaded_mutable
      sound.facts.rising
      ∙ (λ i. class_keys (exponent i) (key_bucket (exponent i) key) (keys i))

  -- A bucket that isn't nil isn't filled.
  found_filled : ¬ IsNil bucket.word → EndsAs (touch_for key (ledger_of old)) false new
  found_filled filled =
      subst (λ (nil : Bool). EndsAs (touch_where nil (bucket_for key (ledger_of old)) (ledger_of old)) false new)
      (sym (loaded_nil ∙ is_nil-other bucket.word filled)) (ends_same old new loaded_same)

  -- One that is nil is one of the head, and untouched.
  pub found_nil : IsNil bucket.word → IsNilOfHead head bucket.bucket new
  found_nil nil = record {
    is_head = here ∙ sym (ap head_at of.loads.view);
    untouched = sym (ledger_of-untouched new bucket.bucket)
        ∙ (λ i. (loaded_same.ledger i).untouched (loaded_number i))
        ∙ loaded_nil ∙ is_nil-nil bucket.word nil;
  }

  -- So where the head was loaded first, the key's bucket is loaded as the ledger says, if it isn't nil.
  pub loads_filled : (v0 : PassView) → SameLedger v0 old → ¬ IsNil bucket.word → IsSound new → LoadsAlone key v0 bucket new
  loads_filled v0 same filled sound_now = record {
    ends = ends_from (touch_for key) false v0 old new same (found_filled filled);
    mutable = loaded_mutable;
    keys = loaded_keys filled sound_now;
  }

  -- Where it is nil, the fill is that of the ledger,
  pub fills_nil : (v0 after : PassView) (full : Bool) → SameLedger v0 old → IsNil bucket.word → FillsAlone head bucket.bucket full new after
      → EndsAs (touch_for key (ledger_of v0)) full after
  fills_nil v0 after full same nil fills =
      ends_from (touch_for key) full v0 new after (same_then v0 old new same loaded_same)
      (subst (λ (b : ℕ). EndsAs (touch b (ledger_of new)) full after)
      (loaded_number ∙ ap (λ (l : Ledger). bucket_for key l) (sym loaded_same.ledger))
      (fills (found_nil nil) (still_alone old new (ap (λ (view : PassView). view.facts) of.loads.view) alone)))

  -- behind which the bucket is loaded again.
  pub loads_again : (v0 : PassView) → EndsAs (touch_for key (ledger_of v0)) false old → ¬ IsNil bucket.word → IsSound new
      → LoadsAlone key v0 bucket new
  loads_again v0 ends filled sound_now = record {
    ends = ends_before (touch_for key (ledger_of v0)) false old new ends loaded_same;
    mutable = loaded_mutable;
    keys = loaded_keys filled sound_now;
  }

-- Filling a bucket of the head leaves the head.
pub head_still : (head key : ℕ) (v1 v2 : PassView) (bucket : LoadedBucket) → LoadsBucketOf head key v1 bucket v2 → (v3 : PassView)
    → head ≡ head_at v1 → EnsuresFilled head bucket.bucket v2 v3 → head ≡ head_at v3
head_still head key v1 v2 bucket of v3 here ensured =
    here ∙ sym (ap head_at of.loads.view)
    ∙ sym (λ i. latest_head (ensured.notes.heads i) (base_of (ensured.spends.grows.facts i).seats))

-- The head that was loaded is the head.
pub loaded_head : (old : PassView) (head : ℕ) (new : PassView) → LoadsHead old head new → head ≡ head_at new
loaded_head old head new loads = sym (ap head_at loads.view)

module _ (key : ℕ) (v0 v1 v2 : PassView) (bucket : LoadedBucket) (seen : Seen) (loads : LoadsAlone key v0 bucket v1)
    (reads : ReadsRow (row_address bucket.word) v1 seen v2) (alone : v1.facts.seats ≡ 1) where
  -- Reading its row leaves that.
  pub finds_alone : FindsAlone key v0 (record { place = bucket.place; word = bucket.word; row = seen }) v2
  finds_alone = record {
    ends = ends_before (touch_for key (ledger_of v0)) false v1 v2 loads.ends (reads.alone alone);
    keys = ap (keys_at v2) reads.place ∙ ap (λ (row : RowBlock). row.keys) reads.same ∙ loads.keys
        ∙ ap (λ (ledger : Ledger). bucket_keys (bucket_for key ledger) ledger) (sym (reads.alone alone).ledger);
  }
