-- A turn in a round whose head has one bucket, up to its exchange: what is read of the bucket, and when a row that was written may take
-- the place of its row.
use Rattle.std.proofs.Common.{◌≡◌, ℕ, ◌+◌, List, [], length, None, Some, refl, sym, ap, ◌∙◌, subst, arith}
use Rattle.std.proofs.lemmas.Nat.{pow_pos}
use Rattle.std.specs.List.Sorted.{IsStrictlyIncreasing}
use Rattle.arena.specs.Hands.{words_at}
use Rattle.step_core.specs.Content.{InClass}
use Rattle.step_core.specs.Format.{IsNil, IsMutable, row_address, row_words}
use Rattle.step_core.specs.Rising.{Change, change_of}
use Rattle.step_core.specs.declared.format.TheConstants.{FIRST_BUCKET}
use Rattle.step_core.specs.declared.published.Published.TheVariants.{Generation, Row}
use Rattle.step_core.specs.declared.views.Known.{Known}
use Rattle.step_core.specs.declared.views.PassView.{PassView}
use Rattle.cells.specs.Exchanges.{MaySwapRow, swap_change}
use Rattle.cells.specs.Frames.{after_reads}
use Rattle.cells.specs.Known.{IsBucketWord, KnowsBucket, KnowsGeneration, KnowsRow, KnowsSealed, keys_at, row_at}
use Rattle.cells.specs.Sound.{IsSound}
use Rattle.cells.specs.Steps.{LoadsBucket, LoadsHead, LoadsSealed, Writes}
use Rattle.cells.proofs.laws.BucketKeys.{load_bucket_row_known}
use Rattle.cells.proofs.laws.BucketLoads.{load_bucket_knows}
use Rattle.cells.proofs.laws.HeadLoads.{load_head_knows, load_head_turn, load_sealed_still}
use Rattle.cells.proofs.laws.Sealed.{knows_count, knows_sealed, row_count}
use Rattle.cells.proofs.laws.SwapReady.{ready_change, swap_ready}
use Rattle.cells.proofs.laws.WritesAddUp.{writes_whole}

-- The head's first word may be loaded.
pub knows_exponent : (old new : PassView) (head : ℕ) → LoadsHead old head new → KnowsSealed new head
knows_exponent old new head heads =
    subst (KnowsSealed new) (let here : head + 0 ≡ head = omega arith in here)
    (knows_sealed new head (Generation heads.generation) 0 (load_head_knows old head new heads) (omega arith))

module _ (v0 v1 v2 : PassView) (head exponent : ℕ) (heads : LoadsHead v0 head v1) (reads : LoadsSealed head v1 exponent v2) where
  -- that load tells nothing new
  still : v2 ≡ after_reads 1 v1
  still = load_sealed_still head v1 exponent v2 reads head 0 (Generation heads.generation)
      (record { known = load_head_knows v0 head v1 heads; sealed = omega arith; here = omega arith }) (λ e. absurd (omega (arith, e)))

  -- the word is the exponent
  exponent_is : exponent ≡ heads.generation.exponent
  exponent_is = reads.reads head 0 (Generation heads.generation)
      (record { known = load_head_knows v0 head v1 heads; sealed = omega arith; here = omega arith })

  first_bucket : IsBucketWord v2 (head + FIRST_BUCKET) head 0 heads.generation
  first_bucket = record {
    known = subst (λ (v : PassView). KnowsGeneration v head heads.generation) (sym still) (load_head_knows v0 head v1 heads);
    within = pow_pos heads.generation.exponent;
    here = omega arith;
  }

  -- The first bucket may be loaded.
  pub knows_first_bucket : KnowsBucket v2 (head + FIRST_BUCKET)
  knows_first_bucket = (head, 0, heads.generation, first_bucket)

  module _ (v3 : PassView) (word : ℕ) (sound : IsSound v2) (loads : LoadsBucket (head + FIRST_BUCKET) v2 word v3)
      (some_row : ¬ IsNil word) where
    -- The first word of its row may be loaded.
    pub knows_row_count : KnowsSealed v3 (row_address word)
    knows_row_count = knows_count v3 (row_address word) loads.row
        (load_bucket_knows (head + FIRST_BUCKET) v2 word v3 loads some_row)

    module _ (v4 : PassView) (count : ℕ) (sound_row : IsSound v3) (counts : LoadsSealed (row_address word) v3 count v4) where
      row_known : KnowsRow v3 (row_address word) (row_at v3.known (row_address word))
      row_known = load_bucket_row_known (head + FIRST_BUCKET) v2 word v3 loads sound_row some_row

      counted : v4 ≡ after_reads 1 v3
      counted = load_sealed_still (row_address word) v3 count v4 counts (row_address word) 0 (Row (row_at v3.known (row_address word)))
          (record { known = row_known; sealed = omega arith; here = omega arith }) (λ e. absurd (omega (arith, e)))

      -- It is the number of the row's keys.
      pub counts_keys : length (keys_at v3 (row_address word)) ≡ count
      counts_keys = sym (row_count v3 (row_address word) (row_at v3.known (row_address word)) row_known count counts.reads)

      module _ (v5 : PassView) (at : ℕ) (keys : List ℕ) (writes : Writes at 0 (row_words keys) v4 v5)
          (long : length (words_at v0.hands at) ≡ length (row_words keys)) (sound_now : IsSound v5) (no_flight : v0.flight ≡ None)
          (change : Change) (changes : change_of (keys_at v3 (row_address word)) keys ≡ Some change) (mutable : IsMutable word) where
        -- writing leaves what is known, and the turn
        same_known : v5.known ≡ v3.known
        same_known = ap (λ (v : PassView). v.known) writes.only ∙ ap (λ (v : PassView). v.known) counted

        same_turn : v5.turn ≡ v3.turn
        same_turn = ap (λ (v : PassView). v.turn) writes.only ∙ ap (λ (v : PassView). v.turn) counted

        same_flight : v5.flight ≡ None
        same_flight = ap (λ (v : PassView). v.flight) writes.only ∙ ap (λ (v : PassView). v.flight) counted
            ∙ ap (λ (v : PassView). v.flight) loads.view ∙ ap (λ (v : PassView). v.flight) still ∙ ap (λ (v : PassView). v.flight) heads.view
            ∙ no_flight

        -- the row in hand has the keys
        built : words_at v5.hands at ≡ row_words keys
        built = writes_whole at (row_words keys) v4 v5 writes
            (sym (ap (λ (v : PassView). length (words_at v.hands at)) counted
            ∙ ap (λ (v : PassView). length (words_at v.hands at)) loads.view
            ∙ ap (λ (v : PassView). length (words_at v.hands at)) still
            ∙ ap (λ (v : PassView). length (words_at v.hands at)) heads.view
            ∙ long))

        changes_now : change_of (keys_at v5 (row_address word)) keys ≡ Some change
        changes_now = ap (λ (known : List Known). change_of (row_at known (row_address word)).keys keys) same_known ∙ changes

        -- The exchange makes that change,
        pub only_change : swap_change v5 word at ≡ Some change
        only_change = ready_change (head + FIRST_BUCKET) head 0 word at heads.generation v2 v3 v5
            (record { head = head; seen = heads.seen; loads = [] }) (ap (λ (v : PassView). v.turn) still ∙ load_head_turn v0 head v1 heads) refl
            sound first_bucket loads [] same_known same_turn sound_now same_flight some_row mutable keys built change changes_now

        -- and may be made, where the head has one bucket.
        pub only_ready : exponent ≡ 0 → IsStrictlyIncreasing keys → MaySwapRow v5 (head + FIRST_BUCKET) word at
        only_ready one rising = swap_ready (head + FIRST_BUCKET) head 0 word at heads.generation v2 v3 v5
            (record { head = head; seen = heads.seen; loads = [] }) (ap (λ (v : PassView). v.turn) still ∙ load_head_turn v0 head v1 heads) refl
            sound first_bucket loads [] same_known same_turn sound_now same_flight some_row mutable keys built rising change changes_now
            (subst (λ (e : ℕ). InClass e 0 change.key) (sym one ∙ exponent_is) (omega arith))
