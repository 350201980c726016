-- A key whose row was met and then read was looked up.
use Rattle.std.proofs.Common.{◌≡◌, ℕ, ◌+◌, List, [], ◌∷◌, ◌++◌, refl, sym, ap, ◌∙◌, subst, add-zero, arith}
use mathlib.Core.List.{IsPrefix}
use base.Growing.{prefix_trans}
use Rattle.set_model.specs.Keys.{is_in}
use Rattle.set_model.specs.declared.entry.Entry.{Entry}
use Rattle.step_core.specs.declared.published.Published.TheVariants.{Generation}
use Rattle.step_core.specs.declared.views.HeadLoad.{HeadLoad}
use Rattle.step_core.specs.declared.views.Known.{Known}
use Rattle.step_core.specs.declared.views.PassView.{PassView}
use Rattle.step_core.specs.declared.views.StepCounts.{StepCounts}
use Rattle.cells.specs.Known.{known_block, row_at, KnowsRow}
use Rattle.cells.specs.Marks.{IsHeadNow}
use Rattle.cells.specs.Sound.{IsSound}
use Rattle.cells.specs.Steps.{LoadsHead}
use Rattle.fset.specs.Content.{front_has, seen_content}
use Rattle.fset.specs.Frames.{Grows}
use Rattle.fset.specs.Looking.{LoadsEachOnce, LooksUp}
use Rattle.fset.specs.Seen.{KnowsRowAt, ReadsRow}
use Rattle.fset.specs.declared.seen.Seen.{Seen}
use Rattle.fset.proofs.laws.AloneRows.{same_then, still_alone}
use Rattle.fset.proofs.laws.Frames.{grows_then, latest_row-append, own_then, then_loses}
use Rattle.fset.proofs.laws.Looking.{head_grows}
use Rattle.fset.proofs.laws.Meeting.{Met}
use Rattle.fset.proofs.laws.Reading.{seen_content-plain}

-- A head that was loaded was so from the front of now.
pub head_now : (old : PassView) (head : ℕ) (new : PassView) → LoadsHead old head new → IsHeadNow new head
head_now old head new loads =
    subst (λ (view : PassView). IsHeadNow view head) (sym loads.view) (0, omega arith, refl)

-- The row that was met may be read.
pub met_known : (key at : ℕ) (old new : PassView) → Met key old at new → KnowsRowAt new at
met_known key at old new met = subst (KnowsRow new at) (sym met.is_row) met.known

module _ (key head at : ℕ) (v0 v1 v2 v3 : PassView) (seen : Seen) (heads : LoadsHead v0 head v1) (met : Met key v1 at v2)
    (reads : ReadsRow at v2 seen v3) (sound : IsSound v3) (once : LoadsEachOnce head key v0 v3) where
  -- so far the row has no operation
  plain : seen.op ≡ 0
  plain = reads.agrees.op ∙ sound.no_op seen.at (row_at v3.known seen.at) reads.agrees.known

  -- so reading it tells nothing new of blocks
  grown : Grows [] 0 0 v2 v3
  grown = subst (λ (learned : List Known). Grows learned 0 0 v2 v3) (reads.nothing plain) reads.reads.grows

  -- but that it agrees with the set after the front
  agrees : seen_content v3 seen key ≡ front_has v3 key
  agrees =
      seen_content-plain v3 seen key plain
      ∙ ap (λ (a : ℕ). is_in (row_at v3.known a).keys key) reads.place
      ∙ (reads.marked plain key met.marked).0

  abbrev learned : List Known
  learned = met.learned ++ known_block head (Generation heads.generation) ∷ []

  -- The key was looked up.
  pub looked_up : LooksUp key v0 seen v3
  looked_up = record {
    learned = learned;
    losses = met.losses;
    few = met.few;
    grows = subst (λ (sum : ℕ). Grows learned 0 sum v0 v3) (add-zero met.losses)
        (grows_then learned [] 0 0 met.losses 0 v0 v2 v3
        (then_loses (known_block head (Generation heads.generation) ∷ []) met.learned met.losses v0 v1 v2
        (head_grows v0 head v1 heads).0 met.grows) grown);
    own = own_then v0 v2 v3 (own_then v0 v1 v2 (head_grows v0 head v1 heads).1 met.own) (record {
      mine = ap (λ (view : PassView). view.mine) reads.reads.only;
      flight = ap (λ (view : PassView). view.flight) reads.reads.only;
      used = ap (λ (view : PassView). view.used) reads.reads.only;
    });
    row = met.row;
    latest = latest_row-append (known_block head (Generation heads.generation) ∷ []) met.learned met.row met.latest;
    is_row = ap (row_at v3.known) reads.place ∙ reads.same ∙ met.is_row;
    seen = reads.agrees;
    agrees = agrees;
    head = record { at = head; front = heads.history };
    heads = subst (λ (loads : List HeadLoad). loads ≡ record { at = head; front = heads.history } ∷ v0.heads)
        (sym (ap (λ (view : PassView). view.heads) reads.reads.only ∙ met.heads)) (ap (λ (view : PassView). view.heads) heads.view);
    further = prefix_trans heads.history v2.front v3.front
        (subst (λ (front : List Entry). IsPrefix front v2.front) (ap (λ (view : PassView). view.front) heads.view) met.grows.front)
        grown.front;
    spent = ap (λ (view : PassView). view.spent) reads.reads.only ∙ met.spent ∙ ap (λ (view : PassView). view.spent) heads.view;
    hands = ap (λ (view : PassView). view.hands) reads.reads.only ∙ met.hands ∙ ap (λ (view : PassView). view.hands) heads.view;
    buckets = met.buckets;
    few_buckets = met.few_buckets;
    each_once = once;
    sealed = met.sealed + 2;
    few_sealed = let few = met.few_sealed in omega (arith, few);
    made = reads.reads.made
        ∙ ap (λ (made : StepCounts). record made { sealed_loads = made.sealed_loads + 2 }) (met.made
        ∙ ap (λ (made : StepCounts). record made {
          sealed_loads = made.sealed_loads + met.sealed;
          bucket_loads = made.bucket_loads + met.buckets;
        }) (ap (λ (view : PassView). view.made) heads.view))
        ∙ (λ i. record v0.made {
          head_loads = v0.made.head_loads + 1;
          sealed_loads = (let sum : v0.made.sealed_loads + met.sealed + 2 ≡ v0.made.sealed_loads + (met.sealed + 2) = omega arith in sum) i;
          bucket_loads = v0.made.bucket_loads + met.buckets;
        });
    alone = λ alone.
        let found = still_alone v0 v1 (ap (λ (view : PassView). view.facts) heads.view) alone in
        same_then v0 v1 v3 (heads.alone alone).same
        (same_then v1 v2 v3 (met.alone found) (reads.alone (still_alone v1 v2 met.grows.facts found)));
  }
