-- How the head and its buckets are loaded and filled by a pass that is the only one: as its ledger says.
use Rattle.std.proofs.Common.{◌≡◌, ℕ, zero, suc, ◌+◌, ◌-◌, ◌<◌, Bool, true, false, refl, sym, ap, ◌∙◌, subst, arith}
use Rattle.step_core.specs.Format.{IsNil, base_of}
use Rattle.step_core.specs.Ledger.{Ledger, touch, touch_first, touch_where}
use Rattle.step_core.specs.declared.format.TheConstants.{FIRST_BUCKET}
use Rattle.step_core.specs.declared.published.GenerationBlock.{GenerationBlock}
use Rattle.step_core.specs.declared.views.PassView.{PassView}
use Rattle.cells.specs.Known.{IsBucketWord}
use Rattle.cells.specs.Lone.{first_generation, generation_in, head_at, head_generation, latest_head, ledger_of, EndsAs, IsNilOfHead, SameLedger}
use Rattle.cells.specs.Sound.{IsSound}
use Rattle.cells.specs.Steps.{LoadsBucket, LoadsKnownBucket, LoadsKnownHead}
use Rattle.cells.proofs.laws.BucketLoads.{is_nil-nil, is_nil-other}
use Rattle.cells.proofs.laws.Known.{generation_in-known}
use Rattle.cells.proofs.laws.Lone.{ledger_of-exponent, ledger_of-untouched}
use Rattle.cells.proofs.laws.Outcomes.{ends_from, ends_full, ends_same, ends_then}
use Rattle.fset.specs.Alone.{FillsAlone}
use Rattle.fset.proofs.laws.AloneRows.{reads_same, same_then, still_alone}
use Rattle.buckets.specs.Alone.{FillsFirstAlone, FillsOneAlone, LoadsAlone}
use Rattle.buckets.specs.Resizing.{LoadsExponent}

-- The head and its exponent are those of the ledger, which stays.
pub loads_alone : (at exponent : ℕ) (old new : PassView) → LoadsExponent at exponent old new → old.facts.seats ≡ 1
    → LoadsAlone at exponent old new
loads_alone at exponent old new loads alone =
    let known : LoadsKnownHead old at loads.loads.generation loads.between = loads.loads.alone alone in
    record {
      same = same_then old loads.between new known.same
          (subst (SameLedger loads.between) (sym loads.same) (reads_same 1 loads.between));
      is_head = sym (ap head_at loads.same ∙ ap head_at loads.loads.view);
      is_exponent = sym loads.here ∙ ap (λ (g : GenerationBlock). g.exponent) known.generation_is ∙ sym (ledger_of-exponent old);
    }

module _ (at bucket word : ℕ) (v0 v1 : PassView) (loads : LoadsBucket (at + FIRST_BUCKET + bucket) v0 word v1) (generation : GenerationBlock)
    (is_word : IsBucketWord v0 (at + FIRST_BUCKET + bucket) at bucket generation) (sound : IsSound v0) where
  abbrev place : ℕ
  place = at + FIRST_BUCKET + bucket

  -- the bucket is one of the head
  in_head : at ≡ head_at v0 → IsBucketWord v0 place (head_at v0) bucket (head_generation v0)
  in_head is_head =
      let found : generation ≡ head_generation v0 =
      sym (generation_in-known v0 at (first_generation v0.facts) generation sound is_word.known)
      ∙ ap (λ (a : ℕ). generation_in v0.known a (first_generation v0.facts)) is_head in
      subst (λ (z : ℕ × GenerationBlock). IsBucketWord v0 place z.0 bucket z.1) (λ i. (is_head i, found i)) is_word

  told : v0.facts.seats ≡ 1 → LoadsKnownBucket place v0 word v1
  told alone = loads.alone alone

  -- A bucket that isn't nil needs not be filled,
  pub load_touches : ¬ IsNil word → FillsOneAlone at bucket false v0 v1
  load_touches some is_head alone =
      let test : (ledger_of v0).untouched bucket ≡ false =
      ledger_of-untouched v0 bucket ∙ sym ((told alone).nil bucket (in_head is_head)) ∙ is_nil-other word some in
      subst (λ (b : Bool). EndsAs (touch_where b bucket (ledger_of v0)) false v1) (sym test) (ends_same v0 v1 (told alone).same)

  -- one that is nil is untouched,
  found_nil : IsNil word → at ≡ head_at v0 → v0.facts.seats ≡ 1 → IsNilOfHead at bucket v1
  found_nil nil is_head alone = record {
    is_head = is_head ∙ sym (ap head_at loads.view);
    untouched = sym (ledger_of-untouched v1 bucket)
        ∙ ap (λ (ledger : Ledger). ledger.untouched bucket) (told alone).same.ledger
        ∙ ledger_of-untouched v0 bucket
        ∙ sym ((told alone).nil bucket (in_head is_head))
        ∙ is_nil-nil word nil;
  }

  -- and is filled as the ledger says.
  pub fill_touches : (full : Bool) (v2 : PassView) → IsNil word → FillsAlone at bucket full v1 v2 → FillsOneAlone at bucket full v0 v2
  fill_touches full v2 nil fills is_head alone =
      ends_from (touch bucket) full v0 v1 v2 (told alone).same
      (fills (found_nil nil is_head alone) (still_alone v0 v1 (ap (λ (view : PassView). view.facts) loads.view) alone))

-- So far none of the head's buckets was loaded.
pub first_touched : (at : ℕ) (view : PassView) → FillsFirstAlone at 0 false view view
unfolding touch_first
first_touched at view is_head alone = ends_same view view (record { front = refl; ledger = refl })

-- Where the first buckets can't be filled, no more can.
touched_on : (more first count : ℕ) (ledger : Ledger) (new : PassView) → count ≡ more + first → EndsAs (touch_first first ledger) true new
    → EndsAs (touch_first count ledger) true new
unfolding touch_first
touched_on zero first count ledger new is ends =
    let same : first ≡ count = omega (arith, is) in
    subst (λ (c : ℕ). EndsAs (touch_first c ledger) true new) same ends
touched_on (suc more) first count ledger new is ends =
    let before : EndsAs (touch_first (more + first) ledger) true new = touched_on more first (more + first) ledger new refl ends in
    let same : suc (more + first) ≡ count = omega (arith, is) in
    subst (λ (c : ℕ). EndsAs (touch_first c ledger) true new) same
    (ends_full (touch_first (more + first) ledger) (touch (more + first)) new before)

module _ (at count : ℕ) (v0 v1 v2 : PassView) (facts : v1.facts ≡ v0.facts) (heads : v1.heads ≡ v0.heads)
    (first : FillsFirstAlone at count false v0 v1) where
  -- the head is the same
  still_head : at ≡ head_at v0 → at ≡ head_at v1
  still_head is_head = is_head ∙ sym (λ i. latest_head (heads i) (base_of (facts i).seats))

  -- The next one is filled as well,
  pub next_touched : (full : Bool) → FillsOneAlone at count full v1 v2 → FillsFirstAlone at (count + 1) full v0 v2
  unfolding touch_first
  next_touched full one is_head alone =
      let same : suc count ≡ count + 1 = omega arith in
      subst (λ (c : ℕ). EndsAs (touch_first c (ledger_of v0)) full v2) same
      (ends_then (touch_first count (ledger_of v0)) (touch count) full v1 v2 (first is_head alone)
      (one (still_head is_head) (still_alone v0 v1 facts alone)))

  -- or it can't be, so all of them can't.
  pub touch_refused : (all : ℕ) → count < all → FillsOneAlone at count true v1 v2 → FillsFirstAlone at all true v0 v2
  touch_refused all below one is_head alone =
      let is : all ≡ all - (count + 1) + (count + 1) = omega (arith, below) in
      touched_on (all - (count + 1)) (count + 1) all (ledger_of v0) v2 is (next_touched true one is_head alone)
