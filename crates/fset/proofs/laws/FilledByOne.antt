-- After a growth the row that was built of the one source's keys may fill the bucket; and what was drawn for it is bounded by its width.
use Rattle.std.proofs.Common.{◌≡◌, ℕ, ◌+◌, ◌%◌, ◌^◌, List, [], ◌∷◌, length, All, refl, sym, ap, ◌∙◌, subst, arith}
use Rattle.std.proofs.Math.Nat.{mod-eq_of_lt}
use Rattle.std.specs.List.Sorted.{IsStrictlyIncreasing}
use Rattle.set_model.specs.Keys.{is_in}
use Rattle.step_core.specs.Buckets.{class_keys}
use Rattle.step_core.specs.Content.{bucket_of, spot_of, InClass}
use Rattle.step_core.specs.declared.published.Published.TheVariants.{Row}
use Rattle.step_core.specs.declared.views.FixedCell.{FixedCell}
use Rattle.step_core.specs.declared.views.Known.{Known}
use Rattle.step_core.specs.declared.views.PassView.{PassView}
use Rattle.step_core.specs.declared.views.StepCounts.{StepCounts}
use Rattle.cells.specs.Exchanges.{content_keys, fixed_at}
use Rattle.cells.specs.Filling.{KnowsClosed, source_row}
use Rattle.cells.specs.Known.{known_block}
use Rattle.cells.specs.Sound.{IsSound}
use Rattle.cells.specs.Tokens.{BlockValue}
use Rattle.fset.specs.Ensuring.{BuildsFilling, ClosesBucket, FreezesSources, IsFilling, OnlyFillSteps, OnlyFills, RefusesFilling}
use Rattle.fset.specs.Frames.{row_cost}
use Rattle.fset.specs.Rows.{Builds, OnlyBuilds, RefusesRow}
use Rattle.fset.specs.Splitting.{split_keys}
use Rattle.fset.specs.declared.ensuring.Filling.{Filling}
use Rattle.fset.specs.declared.seen.Seen.{Seen}
use Rattle.fset.proofs.laws.Closing.{closed_content, closed_holds, closed_keys, fixed_at-here, knows_closed}
use Rattle.fset.proofs.laws.Frames.{keys_of-row}
use Rattle.fset.proofs.laws.Sources.{split_class, split_fewer, split_from, split_has, split_source}
use Rattle.fset.proofs.laws.Splitting.{split-rises}
use Rattle.fset.proofs.laws.Filling.{built_grown, built_own, built_steps, built_turn, filling_within, may_fill, refused_from, built_notes}
use Rattle.fset.proofs.laws.Freezing.{froze_one}

module _ (filling : Filling) (v0 : PassView) (f : IsFilling v0 filling) (sound : IsSound v0) where
  module _ (one : filling.exponent ≡ filling.before + 1) (seen : Seen) (v1 v2 : PassView)
      (closes : ClosesBucket filling.predecessor (filling.bucket % 2 ^ filling.before) v0 seen v1) (sound_read : IsSound v1) (sound_now : IsSound v2) where
    abbrev split : List ℕ
    split = split_keys filling.exponent filling.bucket v1 seen

    abbrev read : List Known
    read = known_block seen.at (Row closes.row) ∷ []

    -- the keys that go into the row are the row's that are of the class
    split_is : split ≡ class_keys filling.exponent filling.bucket closes.row.keys
    split_is = ap (class_keys filling.exponent filling.bucket)
        (closed_keys filling.predecessor (filling.bucket % 2 ^ filling.before) v0 seen v1 closes [] v1 refl sound_read)

    row_rises : IsStrictlyIncreasing closes.row.keys
    row_rises = (closed_holds filling.predecessor (filling.bucket % 2 ^ filling.before) v0 seen v1 closes [] v1 refl sound_read).rising

    split_steps : (writes : ℕ) → OnlyBuilds writes v1.made v2.made → OnlyFills v0.made v2.made
    split_steps writes builds =
        let closed = ap (λ (made : StepCounts). made) closes.made in
        built_steps v0 v1 v2 read closes.grows closes.only writes (subst (OnlyFillSteps v0.made) (sym closes.made) refl)
        (let freezes : v1.made.freezes ≡ v0.made.freezes + 1 = ap (λ (made : StepCounts). made.freezes) closes.made in omega (arith, freezes))
        (ap (λ (made : StepCounts). made.draws) closes.made) (ap (λ (made : StepCounts). made.fills) closes.made) builds

    -- the one source was frozen
    split_froze : v2.known ≡ v1.known → v2.fixed ≡ v1.fixed → v2.made.freezes ≡ v1.made.freezes
        → FreezesSources filling.head filling.bucket v0 v2
    split_froze known fixed freezes =
        froze_one filling v0 f read v2 (known ∙ closes.grows.known) filling.bucket (filling.bucket % 2 ^ filling.before) closes.word
        (mod-eq_of_lt (filling_within filling v0 f sound)) refl (fixed ∙ closes.fixed)
        (freezes ∙ ap (λ (made : StepCounts). made.freezes) closes.made)

    -- where they were built
    module _ (block : BlockValue) (builds : Builds split block v1 v2) where
      fixed_now : fixed_at v2.fixed filling.predecessor (filling.bucket % 2 ^ filling.before) ≡ closes.word
      fixed_now = ap (λ (list : List FixedCell). fixed_at list filling.predecessor (filling.bucket % 2 ^ filling.before))
          (ap (λ (view : PassView). view.fixed) builds.only ∙ closes.fixed)
          ∙ fixed_at-here filling.predecessor (filling.bucket % 2 ^ filling.before) closes.word v0.fixed

      same_known : v2.known ≡ v1.known
      same_known = ap (λ (view : PassView). view.known) builds.only

      split_content : (key : ℕ) → InClass filling.exponent filling.bucket key → is_in split key
          ≡ is_in (content_keys v2 (source_row v2 filling.predecessor (bucket_of filling.before (spot_of key)))) key
      split_content key class =
          ap (λ (list : List ℕ). is_in list key) split_is
          ∙ split_has filling.exponent filling.bucket closes.row.keys key class
          ∙ ap (λ (list : List ℕ). is_in list key) (sym (closed_content filling.predecessor (filling.bucket % 2 ^ filling.before) v0 seen v1 closes []
          v2 same_known sound_now fixed_now))
          ∙ ap (λ (bucket : ℕ). is_in (content_keys v2 (source_row v2 filling.predecessor bucket)) key)
          (sym (split_source filling.exponent filling.before filling.bucket (spot_of key) one class))

      -- the row may fill the bucket.
      pub split_fills : BuildsFilling filling block v0 v2
      split_fills = record {
        may = may_fill filling v0 f sound v2 block read (same_known ∙ closes.grows.known)
            (λ spot is. subst (λ (bucket : ℕ). KnowsClosed v2 filling.predecessor bucket)
            (sym (split_source filling.exponent filling.before filling.bucket spot one is))
            (knows_closed filling.predecessor (filling.bucket % 2 ^ filling.before) v0 seen v1 closes [] v2 same_known sound_now fixed_now))
            split builds.built
            (subst IsStrictlyIncreasing (sym split_is) (split-rises filling.exponent filling.bucket closes.row.keys row_rises))
            (subst (All (InClass filling.exponent filling.bucket)) (sym split_is)
            (split_class filling.exponent filling.bucket closes.row.keys))
            split_content;
        spends = record {
          learned = read;
          words = builds.words;
          grows = built_grown v0 v1 v2 read closes.grows closes.only builds.only builds.words builds.drawn;
          wide = split;
          keys = record {
            rising = subst IsStrictlyIncreasing (sym split_is) (split-rises filling.exponent filling.bucket closes.row.keys row_rises);
            from = λ key here. (
              seen.at,
              closes.row,
              (0, omega arith, refl),
              split_from filling.exponent filling.bucket closes.row.keys key (sym (ap (λ (list : List ℕ). is_in list key) split_is) ∙ here),
            );
          };
          bound = builds.bound;
        };
        own = built_own v0 v1 v2 read closes.grows closes.only builds.only;
        turn = built_turn v0 v1 v2 read closes.grows closes.only builds.only;
        notes = built_notes v0 v1 v2 read closes.grows closes.only builds.only;
        unspent = sym (ap (λ (view : PassView). view.spent) closes.only) ∙ builds.unspent;
        spent = builds.spent ∙ ap (λ (view : PassView). view.spent) closes.only;
        steps = split_steps (row_cost (length split)) builds.steps;
        frozen = split_froze same_known (ap (λ (view : PassView). view.fixed) builds.only)
            (ap (λ (made : StepCounts). made.freezes) builds.steps.only);
        unfilled = ap (λ (made : StepCounts). made.fills) builds.steps.only ∙ ap (λ (made : StepCounts). made.fills) closes.made;
      }

    -- and where no block for it was to be had, no more was drawn than for the row that was read.
    pub split_refused : RefusesRow split v1 v2 → RefusesFilling filling.head filling.bucket v0 v2
    split_refused refuses = record {
      spends = record {
        learned = read;
        words = refuses.words;
        grows = built_grown v0 v1 v2 read closes.grows closes.only refuses.only refuses.words refuses.drawn;
        wide = closes.row.keys;
        keys = keys_of-row read seen.at closes.row (0, omega arith, refl) row_rises;
        bound = omega (
          arith,
          refuses.bound,
          ap (λ (list : List ℕ). length list) split_is,
          split_fewer filling.exponent filling.bucket closes.row.keys,
        );
      };
      own = built_own v0 v1 v2 read closes.grows closes.only refuses.only;
      turn = built_turn v0 v1 v2 read closes.grows closes.only refuses.only;
      notes = built_notes v0 v1 v2 read closes.grows closes.only refuses.only;
      full = refused_from refuses.words read 0 v0 v1 v2 closes.grows (ap (λ (view : PassView). view.spent) closes.only) refuses.full;
      steps = split_steps 0 refuses.steps;
      frozen = split_froze (ap (λ (view : PassView). view.known) refuses.only) (ap (λ (view : PassView). view.fixed) refuses.only)
          (ap (λ (made : StepCounts). made.freezes) refuses.steps.only);
      unfilled = ap (λ (made : StepCounts). made.fills) refuses.steps.only ∙ ap (λ (made : StepCounts). made.fills) closes.made;
    }
