-- A turn of the only pass of a round ends as the ledger says: it is answered so, changes the set so, or is Full at the draw of its row.
use Rattle.std.proofs.Common.{◌≡◌, ℕ, Bool, true, false, List, length, Some, refl, sym, ap, ◌∙◌, subst}
use Rattle.set_model.specs.Call.{answer_where}
use Rattle.set_model.specs.Keys.{is_in}
use Rattle.set_model.specs.declared.call.Call.{Call}
use Rattle.step_core.specs.Buckets.{class_keys, key_bucket}
use Rattle.step_core.specs.Ledger.{Ledger, Outcome, answer_of, bucket_for, bucket_keys, change, change_where, changed, done, drawing, row_len, touch_for, width_of, write}
use Rattle.step_core.specs.Rising.{keys_after, keys_after_call}
use Rattle.step_core.specs.declared.views.PassView.{PassView}
use Rattle.step_core.proofs.lists.Histories.{class_keys-in}
use Rattle.cells.specs.Exchanges.{SwapsRow, swap_change}
use Rattle.cells.specs.Frames.{after_reads}
use Rattle.cells.specs.Known.{keys_at}
use Rattle.cells.specs.Lone.{head_generation, ledger_of, EndsAlone, EndsAs, SameLedger}
use Rattle.cells.specs.Sound.{IsSound}
use Rattle.cells.specs.Tokens.{BlockValue}
use Rattle.cells.proofs.laws.Lone.{ledger_of-exponent, ledger_of-keys}
use Rattle.cells.proofs.laws.Outcomes.{ends_before, ends_full, ends_then}
use Rattle.fset.specs.Alone.{AnswersAlone, FindsAlone, HasBucketKeys}
use Rattle.fset.specs.Frames.{row_cost}
use Rattle.fset.specs.Rows.{Builds, RefusesRow}
use Rattle.fset.specs.declared.seeking.Sought.{Sought}
use Rattle.fset.proofs.laws.AloneRows.{ledger_rises, reads_same, still_alone}
use Rattle.fset.proofs.laws.AloneTouch.{bucket_keys-changed, touch-keys}

-- Where its bucket can't be filled, no call is answered.
pub never_filled : (call : Call) (key : ℕ) (old new : PassView) → EndsAs (touch_for key (ledger_of old)) true new
    → EndsAs (write call key (ledger_of old)) true new
never_filled call key old new ends = ends_full (touch_for key (ledger_of old)) (change call key) new ends

module _ (key : ℕ) (call : Call) (v0 v1 v2 : PassView) (sought : Sought) (finds : FindsAlone key v0 sought v1) (loads : ℕ)
    (looks : v2 ≡ after_reads loads v1) (taken : Bool) (found : taken ≡ is_in (keys_at v1 sought.row.at) key) where
  abbrev at : ℕ
  at = sought.row.at

  abbrev ledger : Ledger
  ledger = ledger_of v0

  abbrev now : Ledger
  now = ledger_of v2

  -- looking for the key leaves the ledger
  looked : SameLedger v1 v2
  looked = subst (SameLedger v1) (sym looks) (reads_same loads v1)

  so_far : EndsAs (touch_for key ledger) false v2
  so_far = ends_before (touch_for key ledger) false v1 v2 finds.ends looked

  -- and the row, which has the keys of its bucket
  has_keys : HasBucketKeys at key v2
  has_keys = ap (λ (view : PassView). keys_at view at) looks ∙ finds.keys
      ∙ ap (λ (l : Ledger). bucket_keys (bucket_for key l) l) (sym looked.ledger)

  -- so whether the row has it says the answer,
  answer_now : answer_where call taken ≡ answer_of call key now
  answer_now = ap (answer_where call) (found
      ∙ ap (λ (list : List ℕ). is_in list key) finds.keys
      ∙ class_keys-in (ledger_of v1).exponent (bucket_for key (ledger_of v1)) key (ledger_of v1).keys refl
      ∙ ap (λ (l : Ledger). is_in l.keys key) (sym looked.ledger))

  -- as it was before a fill
  is_answer : answer_where call taken ≡ answer_of call key ledger
  is_answer = answer_now
      ∙ ap (λ (list : List ℕ). answer_where call (is_in list key)) (ap (λ (l : Ledger). l.keys) so_far.ledger ∙ touch-keys (bucket_for key ledger) ledger)

  -- how the call ends, by its answer
  by_answer : (answer full : Bool) (new : PassView) → answer_where call taken ≡ answer → EndsAs (change_where answer call key now) full new
      → EndsAs (write call key ledger) full new
  by_answer answer full new is ends =
      ends_then (touch_for key ledger) (change call key) full v2 new so_far
      (subst (λ (b : Bool). EndsAs (change_where b call key now) full new) (sym is ∙ answer_now) ends)

  -- It is answered by reading where the call wouldn't change the set.
  pub reads_alone : answer_where call taken ≡ false → sought.row.count ≡ length (keys_at v1 at)
      → AnswersAlone call key (record { changed = false; width = sought.row.count }) v0 v2
  reads_alone answer count = record {
    ends = by_answer false false v2 answer (record { is_full = refl; ledger = refl });
    changed = sym answer ∙ is_answer;
    width = count ∙ sym (ap (λ (view : PassView). length (keys_at view at)) looks) ∙ ap length has_keys;
  }

  module _ (alone : v2.facts.seats ≡ 1) (sound : IsSound v2) (answer : answer_where call taken ≡ true) where
    abbrev row : List ℕ
    row = keys_after_call call key (keys_at v2 at)

    abbrev row_draw : Ledger → Outcome
    row_draw = drawing (row_len (bucket_keys (bucket_for key now) (changed call key now)))

    -- the row to be built has the keys that the bucket has then
    row_is : row ≡ bucket_keys (bucket_for key now) (changed call key now)
    row_is = ap (keys_after_call call key) has_keys ∙ bucket_keys-changed call key now (ledger_rises v2 sound)

    row_drawn : (full : Bool) (v3 : PassView) → EndsAlone (drawing (row_cost (length row))) full v2 v3 → EndsAs (row_draw now) full v3
    row_drawn full v3 ends = subst (λ (keys : List ℕ). EndsAs (drawing (row_cost (length keys)) now) full v3) row_is (ends alone)

    -- It is Full where the row's draw is.
    pub full_alone : (v3 : PassView) → RefusesRow row v2 v3 → EndsAs (write call key ledger) true v3
    full_alone v3 refuses =
        by_answer true true v3 answer
        (ends_full (row_draw now) (λ (drawn : Ledger). done (changed call key drawn)) v3 (row_drawn true v3 refuses.alone))

    -- Else its exchange changes the set.
    pub swaps_alone : (block : BlockValue) (v3 v4 : PassView) (serial width : ℕ) → Builds row block v2 v3
        → swap_change v3 sought.word block.at ≡ Some (record { call = call; key = key }) → SwapsRow serial sought.word block.at v3 v4
        → width ≡ length row → AnswersAlone call key (record { changed = true; width = width }) v0 v4
    swaps_alone block v3 v4 serial width builds is_change won is =
        let after : ledger_of v4 ≡ changed call key (ledger_of v3) =
        (won.alone (still_alone v2 v3 (ap (λ (view : PassView). view.facts) builds.only) alone)).ledger (record { call = call; key = key }) is_change in
        let keys : now.keys ≡ (ledger_of v3).keys =
        ledger_of-keys v2 ∙ sym (ap (λ (view : PassView). keys_after view.facts.keys view.front) builds.only) ∙ sym (ledger_of-keys v3) in
        let exponent : now.exponent ≡ (ledger_of v3).exponent =
        ledger_of-exponent v2 ∙ sym (ap (λ (view : PassView). (head_generation view).exponent) builds.only) ∙ sym (ledger_of-exponent v3) in
        record {
          ends = by_answer true false v4 answer
              (ends_then (row_draw now) (λ (drawn : Ledger). done (changed call key drawn)) false v3 v4 (row_drawn false v3 builds.alone)
              (record { is_full = refl; ledger = after }));
          changed = sym answer ∙ is_answer;
          width = is ∙ ap length row_is
              ∙ (λ i. length (class_keys (exponent i) (key_bucket (exponent i) key) (keys_after_call call key (keys i))))
              ∙ ap (width_of key) (sym after);
        }
