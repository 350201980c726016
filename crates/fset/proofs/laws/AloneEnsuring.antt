-- The fill of an untouched bucket of the head by the only pass of a round ends as the ledger says: it is Full at its draw, or the bucket is touched.
use Rattle.std.proofs.Common.{◌≡◌, ℕ, ◌+◌, ◌&&◌, not, Bool, true, false, nat_eq, sym, ap, ◌∙◌, subst, refl}
use Rattle.step_core.specs.Format.{base_of}
use Rattle.step_core.specs.Ledger.{Ledger, done, draw_row, fill, row_len, touch, touch_where, touched, bucket_keys}
use Rattle.step_core.specs.declared.format.TheConstants.{FIRST_BUCKET}
use Rattle.step_core.specs.declared.published.GenerationBlock.{GenerationBlock}
use Rattle.step_core.specs.declared.views.PassView.{PassView}
use Rattle.step_core.proofs.ledgers.Kept.{drawing-untouched}
use Rattle.cells.specs.Filling.{FillsBucket, LosesFill}
use Rattle.cells.specs.Known.{IsBucketWord, KnowsGeneration}
use Rattle.cells.specs.Lone.{head_at, head_generation, is_among, is_untouched, latest_head, ledger_of, EndsAs, IsNilOfHead, SameLedger}
use Rattle.cells.specs.Sound.{IsSound}
use Rattle.cells.specs.Steps.{LoadsSealed}
use Rattle.cells.specs.Tokens.{BlockValue}
use Rattle.cells.proofs.laws.Known.{bucket_word_stays, generation_at-known}
use Rattle.cells.proofs.laws.Lone.{ledger_of-untouched}
use Rattle.cells.proofs.laws.Outcomes.{ends_full, ends_then}
use Rattle.fset.specs.Alone.{BuildsAlone}
use Rattle.fset.specs.Ensuring.{BuildsFilling, IsFilling}
use Rattle.fset.specs.declared.ensuring.Filling.{Filling}
use Rattle.fset.proofs.laws.AloneRows.{same_then, still_alone}
use Rattle.fset.proofs.laws.AloneSources.{head_generation-known, nil_stays}
use Rattle.fset.proofs.laws.Looking.{still_known}
use Rattle.fset.proofs.laws.Naming.{named_is}

module _ (head bucket : ℕ) (v0 : PassView) (nil : IsNilOfHead head bucket v0) where
  -- The generation of an untouched bucket has one before.
  pub never_first : (generation : GenerationBlock) → KnowsGeneration v0 head generation → IsSound v0 → (v1 : PassView) (exponent : ℕ)
      → LoadsSealed head v0 exponent v1 → (v2 : PassView) (predecessor : ℕ) → LoadsSealed (head + 1) v1 predecessor v2 → predecessor ≡ 0 → ⊥
  never_first generation known sound v1 exponent first v2 predecessor second none =
      let zero : (head_generation v0).predecessor ≡ 0 =
      ap (λ (g : GenerationBlock). g.predecessor) (head_generation-known v0 head generation sound known nil.is_head)
      ∙ sym (named_is head generation v1 predecessor v2 (still_known v0 v1 head exponent generation known first) second) ∙ none in
      let filled : is_untouched v0 bucket ≡ false =
      ap (λ (n : ℕ). not (nat_eq n 0) && not (is_among v0.filled (head_at v0) bucket)) zero in
      let clash : true ≡ false = sym nil.untouched ∙ filled in
      cc

  module _ (alone : v0.facts.seats ≡ 1) (place1 place2 place3 word1 word2 word3 : ℕ) (v1 v2 v3 : PassView) (first : LoadsSealed place1 v0 word1 v1)
      (second : LoadsSealed place2 v1 word2 v2) (third : LoadsSealed place3 v2 word3 v3) where
    -- Reading the words of the generations leaves the ledger,
    pub named_same : SameLedger v0 v3
    named_same =
        let alone1 = still_alone v0 v1 (ap (λ (view : PassView). view.facts) first.view) alone in
        let alone2 = still_alone v1 v2 (ap (λ (view : PassView). view.facts) second.view) alone1 in
        same_then v0 v1 v3 (first.alone alone) (same_then v1 v2 v3 (second.alone alone1) (third.alone alone2))

    -- and that the bucket is nil.
    pub named_nil : IsNilOfHead head bucket v3
    named_nil = nil_stays head bucket v0 v3 named_same (ap head_at third.view ∙ ap head_at second.view ∙ ap head_at first.view) nil

    -- The pass is still the only one.
    pub named_alone : v3.facts.seats ≡ 1
    named_alone = still_alone v0 v3 (ap (λ (view : PassView). view.facts) third.view ∙ ap (λ (view : PassView). view.facts) second.view
        ∙ ap (λ (view : PassView). view.facts) first.view) alone

module _ (filling : Filling) (v0 : PassView) (nil : IsNilOfHead filling.head filling.bucket v0) (alone : v0.facts.seats ≡ 1) where
  abbrev bucket : ℕ
  bucket = filling.bucket

  abbrev ledger : Ledger
  ledger = ledger_of v0

  untouched : ledger.untouched bucket ≡ true
  untouched = ledger_of-untouched v0 bucket ∙ nil.untouched

  -- so a fill is what is to be done
  by_filling : (full : Bool) (new : PassView) → EndsAs (fill bucket ledger) full new → EndsAs (touch bucket ledger) full new
  by_filling full new = subst (λ (nil : Bool). EndsAs (touch_where nil bucket ledger) full new) (sym untouched)

  -- It is Full where its draw is.
  pub filling_full : (v1 : PassView) → BuildsAlone filling.head bucket true v0 v1 → EndsAs (touch bucket ledger) true v1
  filling_full v1 drawn =
      by_filling true v1 (ends_full (draw_row bucket ledger) (λ (drawn : Ledger). done (touched bucket drawn)) v1 (drawn nil alone))

  module _ (f : IsFilling v0 filling) (block : BlockValue) (v1 v2 : PassView) (builds : BuildsFilling filling block v0 v1)
      (drawn : BuildsAlone filling.head bucket false v0 v1) (sound : IsSound v1) where
    abbrev place : ℕ
    place = filling.head + FIRST_BUCKET + bucket

    word : IsBucketWord v1 place filling.head bucket f.generation
    word = bucket_word_stays builds.spends.learned v0 v1 builds.spends.grows.known place filling.head bucket f.generation f.is_word

    -- Where the exchange is won, the bucket is touched.
    pub filling_won : FillsBucket place block.at v1 v2 → EndsAs (touch bucket ledger) false v2
    filling_won won =
        let here = (generation_at-known v1 place filling.head bucket f.generation sound word).1 in
        let after : ledger_of v2 ≡ touched bucket (ledger_of v1) =
        won.alone (still_alone v0 v1 builds.spends.grows.facts alone) ∙ ap (λ (b : ℕ). touched b (ledger_of v1)) here in
        by_filling false v2 (ends_then (draw_row bucket ledger) (λ (drawn : Ledger). done (touched bucket drawn)) false v1 v2 (drawn nil alone)
        (record { is_full = refl; ledger = after }))

    -- It isn't lost, as the bucket is untouched still.
    pub filling_lost : LosesFill place v1 v2 → EndsAs (touch bucket ledger) false v2
    filling_lost lost =
        let is_head : filling.head ≡ head_at v1 =
        nil.is_head ∙ sym (λ i. latest_head (builds.notes.heads i) (base_of (builds.spends.grows.facts i).seats)) in
        let is_generation = head_generation-known v1 filling.head f.generation sound word.known is_head in
        let touched_since = (lost.alone (still_alone v0 v1 builds.spends.grows.facts alone)).filled bucket
        (subst (λ (z : ℕ × GenerationBlock). IsBucketWord v1 place z.0 bucket z.1) (λ i. (is_head i, sym is_generation i)) word) in
        let still : is_untouched v1 bucket ≡ true =
        sym (ledger_of-untouched v1 bucket)
        ∙ ap (λ (l : Ledger). l.untouched bucket) (drawn nil alone).ledger
        ∙ ap (λ (buckets : ℕ → Bool). buckets bucket) (drawing-untouched (row_len (bucket_keys bucket ledger)) ledger)
        ∙ untouched in
        let clash : true ≡ false = sym still ∙ touched_since in
        absurd (cc)
