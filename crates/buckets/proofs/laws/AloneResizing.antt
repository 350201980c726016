-- How a resize ends for a pass that is the only one: as its ledger says.
use Rattle.std.proofs.Common.{◌≡◌, ℕ, ◌^◌, ◌≤◌, Bool, true, false, List, ◌∷◌, slice_index, refl, sym, ap, ◌∙◌, subst}
use Rattle.arena.specs.Hands.{words_at}
use Rattle.step_core.specs.Ledger.{Ledger, Outcome, done, drawing, publish, resize, resized, touch_first}
use Rattle.step_core.specs.Limits.{max_exponent}
use Rattle.step_core.specs.declared.views.PassView.{PassView}
use Rattle.cells.specs.HeadSwaps.{SwapsHead}
use Rattle.cells.specs.Lone.{ledger_of, EndsAlone, EndsAs, SameLedger}
use Rattle.cells.specs.Steps.{view_after_write}
use Rattle.cells.proofs.laws.Outcomes.{ends_before, ends_from, ends_full, ends_then}
use Rattle.fset.proofs.laws.AloneRows.{same_then, still_alone}
use Rattle.buckets.specs.Alone.{FillsFirstAlone, LoadsAlone, RefusesAlone, ResizesAlone, StaysAlone}
use Rattle.buckets.specs.Filling.{buckets_of}
use Rattle.buckets.specs.Resizing.{LoadsExponent, generation_cost}
use Rattle.buckets.proofs.laws.AloneFilling.{loads_alone}

-- a write into a block in hand leaves the ledger
same_write : (place value : ℕ) (view : PassView) → SameLedger view (view_after_write place value view)
unfolding ledger_of
same_write place value view = record { front = refl; ledger = refl }

-- A generation is drawn, and two words of it written.
pub next_drawn : (len first one second two : ℕ) (v0 v1 v2 v3 : PassView) → (v0.facts.seats ≡ 1 → EndsAs (drawing len (ledger_of v0)) false v1)
    → v2 ≡ view_after_write first one v1 → v3 ≡ view_after_write second two v2 → EndsAlone (drawing len) false v0 v3
next_drawn len first one second two v0 v1 v2 v3 draws writes more alone =
    ends_before (drawing len (ledger_of v0)) false v1 v3 (draws alone)
    (same_then v1 v2 v3 (subst (SameLedger v1) (sym writes) (same_write first one v1))
    (subst (SameLedger v2) (sym more) (same_write second two v2)))

module _ (head before : ℕ) (v0 v1 : PassView) (loads : LoadsExponent head before v0 v1) (alone : v0.facts.seats ≡ 1) where
  told : LoadsAlone head before v0 v1
  told = loads_alone head before v0 v1 loads alone

  -- The exponent that was loaded is the ledger's, which stays.
  pub stays_alone : (limit : ℕ) → before ≡ limit → StaysAlone limit v0 v1
  stays_alone limit is = record { is_exponent = sym told.is_exponent ∙ is; same = told.same }

  module _ (IsNext : ℕ → ℕ → Type 0) (exponent : ℕ) (next : IsNext before exponent) (small : exponent ≤ max_exponent) (v2 : PassView)
      (loaded : v1.facts ≡ v0.facts) where
    -- the next exponent comes next to the ledger's
    next_by : IsNext (ledger_of v0).exponent exponent
    next_by = subst (λ (e : ℕ). IsNext e exponent) told.is_exponent next

    -- all buckets of the head, told from the start on
    abbrev all_buckets : Ledger → ℕ
    all_buckets ledger = 2 ^ ledger.exponent

    all_touched : (full : Bool) → FillsFirstAlone head (buckets_of before) full v1 v2
        → EndsAs (touch_first (all_buckets (ledger_of v0)) (ledger_of v0)) full v2
    all_touched full fills =
        subst (λ (e : ℕ). EndsAs (touch_first (2 ^ e) (ledger_of v0)) full v2) told.is_exponent
        (ends_from (touch_first (buckets_of before)) full v0 v1 v2 told.same (fills told.is_head (still_alone v0 v1 loaded alone)))

    -- One of them can't be filled.
    pub filling_ends : FillsFirstAlone head (buckets_of before) true v1 v2 → RefusesAlone IsNext v0 v2
    filling_ends fills = record {
      exponent = exponent;
      next = next_by;
      small = small;
      ends = ends_full (touch_first (all_buckets (ledger_of v0)) (ledger_of v0)) (publish exponent) v2 (all_touched true fills);
    }

    module _ (fills : FillsFirstAlone head (buckets_of before) false v1 v2) (filled : v2.facts ≡ v1.facts) (v3 : PassView) where
      -- what is published behind them ends the call
      then_published : (full : Bool) (new : PassView) → EndsAs (publish exponent (ledger_of v2)) full new
          → EndsAs (resize exponent (ledger_of v0)) full new
      then_published full new ends =
          ends_then (touch_first (all_buckets (ledger_of v0)) (ledger_of v0)) (publish exponent) full v2 new (all_touched false fills) ends

      only_pass : v2.facts.seats ≡ 1
      only_pass = still_alone v1 v2 filled (still_alone v0 v1 loaded alone)

      -- the generation that was drawn becomes the head
      abbrev then_head : Ledger → Outcome
      then_head drawn = done (resized exponent drawn)

      -- There is no block for the generation.
      pub next_ends : EndsAlone (drawing (generation_cost exponent)) true v2 v3 → RefusesAlone IsNext v0 v3
      next_ends draws = record {
        exponent = exponent;
        next = next_by;
        small = small;
        ends = then_published true v3
            (ends_full (drawing (generation_cost exponent) (ledger_of v2)) then_head v3 (draws only_pass));
      }

      -- It is in the head's place.
      pub head_ends : EndsAlone (drawing (generation_cost exponent)) false v2 v3 → v3.facts ≡ v2.facts → (at : ℕ) (rest : List ℕ)
          → words_at v3.hands at ≡ exponent ∷ rest → (v4 : PassView) → SwapsHead head at v3 v4 → ResizesAlone IsNext exponent v0 v4
      head_ends draws drawn at rest built v4 swaps =
          let word : slice_index (words_at v3.hands at) 0 ≡ exponent = ap (λ (words : List ℕ). slice_index words 0) built in
          let is_head : EndsAs (then_head (ledger_of v3)) false v4 = record {
            is_full = refl;
            ledger = swaps.alone (still_alone v2 v3 drawn only_pass) ∙ ap (λ (e : ℕ). resized e (ledger_of v3)) word;
          } in
          record {
            next = next_by;
            ends = then_published false v4
                (ends_then (drawing (generation_cost exponent) (ledger_of v2)) then_head false v3 v4 (draws only_pass) is_head);
          }
