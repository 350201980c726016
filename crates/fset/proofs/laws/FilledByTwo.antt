-- After a shrink the row that was built of both sources' keys may fill the bucket; and what was drawn for it is bounded by its width.
use Rattle.std.proofs.Common.{◌≡◌, ℕ, ◌+◌, ◌^◌, ◌<◌, true, List, [], ◌∷◌, ◌++◌, length, All, ⊎_elim, refl, sym, ap, ◌∙◌, subst, arith}
use Rattle.std.proofs.Math.Nat.{add-mod_right, mod-eq_of_lt}
use Rattle.std.specs.List.Sorted.{IsStrictlyIncreasing}
use Rattle.set_model.specs.Keys.{is_in}
use Rattle.step_core.specs.Content.{bucket_of, spot_of, InClass}
use Rattle.step_core.specs.Fits.{HoldsClass}
use Rattle.step_core.specs.declared.published.Published.TheVariants.{Row}
use Rattle.step_core.specs.declared.views.FixedCell.{FixedCell}
use Rattle.step_core.specs.declared.views.Known.{Known}
use Rattle.step_core.specs.declared.views.PassView.{PassView}
use Rattle.step_core.specs.declared.views.StepCounts.{StepCounts}
use Rattle.cells.specs.Exchanges.{content_keys, fixed_at}
use Rattle.cells.specs.Filling.{KnowsClosed, source_row}
use Rattle.cells.specs.Known.{known_block}
use Rattle.cells.specs.Sound.{IsSound}
use Rattle.cells.specs.Tokens.{BlockValue}
use Rattle.fset.specs.Ensuring.{BuildsFilling, ClosesBucket, FreezesSources, IsFilling, OnlyCloses, OnlyFillSteps, OnlyFills, RefusesFilling, cell_of}
use Rattle.fset.specs.Frames.{AreKeysOf, Grows, IsKeyOf, row_cost}
use Rattle.fset.specs.Joining.{joined, joined_keys}
use Rattle.fset.specs.Rows.{Builds, OnlyBuilds, RefusesRow}
use Rattle.fset.specs.Seen.{IsSeen}
use Rattle.fset.specs.declared.ensuring.Filling.{Filling}
use Rattle.fset.specs.declared.seen.Seen.{Seen}
use Rattle.fset.proofs.laws.Closing.{closed_content, closed_holds, closed_keys, closes_then, fixed_at-here, fixed_at-other, knows_closed}
use Rattle.fset.proofs.laws.Frames.{grows_then, keys_of-either, keys_of-row, longer}
use Rattle.fset.proofs.laws.Joining.{joined-rises, length-joined}
use Rattle.fset.proofs.laws.Reading.{seen_stays}
use Rattle.fset.proofs.laws.Sources.{joined_class, joined_from, joined_high, joined_low, join_source, other_source, sources_within}
use Rattle.fset.proofs.laws.Freezing.{froze_two}
use Rattle.fset.proofs.laws.Filling.{built_grown, built_own, built_steps, built_turn, fill_steps_then, filling_within, may_fill, refused_from, source_word, built_notes}

module _ (filling : Filling) (v0 : PassView) (f : IsFilling v0 filling) (sound : IsSound v0) where
  module _ (two : filling.before ≡ filling.exponent + 1) (low high : Seen) (v1 v2 : PassView)
      (first : ClosesBucket filling.predecessor filling.bucket v0 low v1)
      (second : ClosesBucket filling.predecessor (filling.bucket + 2 ^ filling.exponent) v1 high v2) (sound_two : IsSound v2) where
    abbrev other : ℕ
    other = filling.bucket + 2 ^ filling.exponent

    abbrev one_read : List Known
    one_read = known_block low.at (Row first.row) ∷ []

    abbrev other_read : List Known
    other_read = known_block high.at (Row second.row) ∷ []

    abbrev both_read : List Known
    both_read = other_read ++ one_read

    -- The first row is as it was read still.
    pub low_still : IsSeen v2 low
    low_still = seen_stays other_read (cell_of filling.predecessor other second.word ∷ []) v1 v2 low sound_two second.grows.known second.fixed
        first.agrees

    closed : OnlyCloses v0 v2
    closed = closes_then v0 v1 v2 first.only second.only

    closed_grown : Grows both_read 0 0 v0 v2
    closed_grown = grows_then one_read other_read 0 0 0 0 v0 v1 v2 first.grows second.grows

    within : (filling.bucket < 2 ^ filling.before) × (other < 2 ^ filling.before)
    within = sources_within filling.exponent filling.before filling.bucket two (filling_within filling v0 f sound)

    abbrev joint : List ℕ
    joint = joined_keys v2 low high

    -- The keys that go into the row are those of both,
    pub joint_is : joint ≡ joined first.row.keys second.row.keys
    joint_is = λ i. joined (closed_keys filling.predecessor filling.bucket v0 low v1 first other_read v2 second.grows.known sound_two i)
        (closed_keys filling.predecessor other v1 high v2 second [] v2 refl sound_two i)

    low_holds : HoldsClass first.row
    low_holds = closed_holds filling.predecessor filling.bucket v0 low v1 first other_read v2 second.grows.known sound_two

    high_holds : HoldsClass second.row
    high_holds = closed_holds filling.predecessor other v1 high v2 second [] v2 refl sound_two

    -- rising,
    pub joint_rises : IsStrictlyIncreasing joint
    joint_rises = subst IsStrictlyIncreasing (sym joint_is) (joined-rises first.row.keys second.row.keys low_holds.rising high_holds.rising)

    -- and of the classes of the two sources.
    pub low_class : All (InClass filling.before filling.bucket) first.row.keys
    low_class =
        let home = first.home f.source (source_word filling v0 f sound [] v0 refl filling.bucket within.0) in
        subst (λ (z : ℕ × ℕ). All (InClass z.0 z.1) first.row.keys) (λ i. ((home.0 ∙ sym f.of_source) i, home.1 i)) low_holds.class

    pub high_class : All (InClass filling.before other) second.row.keys
    high_class =
        let home = second.home f.source (source_word filling v0 f sound one_read v1 first.grows.known other within.1) in
        subst (λ (z : ℕ × ℕ). All (InClass z.0 z.1) second.row.keys) (λ i. ((home.0 ∙ sym f.of_source) i, home.1 i)) high_holds.class

    joint_of : AreKeysOf both_read joint
    joint_of = record {
      rising = joint_rises;
      from = λ key here. ⊎_elim
          (λ (one : is_in first.row.keys key ≡ true).
          let from : IsKeyOf both_read key = (low.at, first.row, (1, omega arith, refl), one) in from)
          (λ (one : is_in second.row.keys key ≡ true).
          let from : IsKeyOf both_read key = (high.at, second.row, (0, omega arith, refl), one) in from)
          (joined_from first.row.keys second.row.keys key (sym (ap (λ (list : List ℕ). is_in list key) joint_is) ∙ here));
    }

    -- both sources were frozen
    joint_froze : (v3 : PassView) → v3.known ≡ v2.known → v3.fixed ≡ v2.fixed → v3.made.freezes ≡ v2.made.freezes
        → FreezesSources filling.head filling.bucket v0 v3
    joint_froze v3 known fixed freezes =
        let bucket_small = filling_within filling v0 f sound in
        froze_two filling v0 f both_read v3 (known ∙ closed_grown.known) filling.bucket filling.bucket first.word other other second.word
        (mod-eq_of_lt bucket_small) (sym (mod-eq_of_lt within.0))
        (add-mod_right filling.bucket (2 ^ filling.exponent) ∙ mod-eq_of_lt bucket_small) (sym (mod-eq_of_lt within.1))
        (fixed ∙ second.fixed ∙ ap (λ (list : List FixedCell). cell_of filling.predecessor other second.word ∷ list) first.fixed)
        (let one = ap (λ (made : StepCounts). made.freezes) first.made in
        let two = ap (λ (made : StepCounts). made.freezes) second.made in
        omega (arith, freezes, one, two))

    joint_steps : (v3 : PassView) (writes : ℕ) → OnlyBuilds writes v2.made v3.made → OnlyFills v0.made v3.made
    joint_steps v3 writes builds =
        let one = ap (λ (made : StepCounts). made.freezes) first.made in
        let more = ap (λ (made : StepCounts). made.freezes) second.made in
        built_steps v0 v2 v3 both_read closed_grown closed writes
        (fill_steps_then v0.made v1.made v2.made (subst (OnlyFillSteps v0.made) (sym first.made) refl)
        (subst (OnlyFillSteps v1.made) (sym second.made) refl))
        (omega (arith, one, more))
        (ap (λ (made : StepCounts). made.draws) second.made ∙ ap (λ (made : StepCounts). made.draws) first.made)
        (ap (λ (made : StepCounts). made.fills) second.made ∙ ap (λ (made : StepCounts). made.fills) first.made) builds

    -- where they were built
    module _ (v3 : PassView) (block : BlockValue) (builds : Builds joint block v2 v3) (sound_now : IsSound v3) where
      known_now : v3.known ≡ v2.known
      known_now = ap (λ (view : PassView). view.known) builds.only

      noted : v3.fixed ≡ cell_of filling.predecessor other second.word ∷ cell_of filling.predecessor filling.bucket first.word ∷ v0.fixed
      noted = ap (λ (view : PassView). view.fixed) builds.only ∙ second.fixed
          ∙ ap (λ (list : List FixedCell). cell_of filling.predecessor other second.word ∷ list) first.fixed

      high_fixed : fixed_at v3.fixed filling.predecessor other ≡ second.word
      high_fixed = ap (λ (list : List FixedCell). fixed_at list filling.predecessor other) noted
          ∙ fixed_at-here filling.predecessor other second.word (cell_of filling.predecessor filling.bucket first.word ∷ v0.fixed)

      low_fixed : fixed_at v3.fixed filling.predecessor filling.bucket ≡ first.word
      low_fixed =
          ap (λ (list : List FixedCell). fixed_at list filling.predecessor filling.bucket) noted
          ∙ fixed_at-other filling.predecessor filling.bucket other second.word (cell_of filling.predecessor filling.bucket first.word ∷ v0.fixed)
          (other_source filling.exponent filling.before filling.bucket two (filling_within filling v0 f sound))
          ∙ fixed_at-here filling.predecessor filling.bucket first.word v0.fixed

      low_more : v3.known ≡ other_read ++ v1.known
      low_more = known_now ∙ second.grows.known

      -- each spot of the bucket has one of the two
      closed_one : (spot : ℕ) → bucket_of filling.exponent spot ≡ filling.bucket
          → KnowsClosed v3 filling.predecessor (bucket_of filling.before spot)
      closed_one spot is = ⊎_elim
          (λ (one : bucket_of filling.before spot ≡ filling.bucket).
          subst (λ (bucket : ℕ). KnowsClosed v3 filling.predecessor bucket) (sym one)
          (knows_closed filling.predecessor filling.bucket v0 low v1 first other_read v3 low_more sound_now low_fixed))
          (λ (one : bucket_of filling.before spot ≡ other).
          subst (λ (bucket : ℕ). KnowsClosed v3 filling.predecessor bucket) (sym one)
          (knows_closed filling.predecessor other v1 high v2 second [] v3 known_now sound_now high_fixed))
          (join_source filling.exponent filling.before filling.bucket spot two is)

      abbrev source_has : ℕ → ℕ → Type 0
      source_has key bucket = is_in joint key ≡ is_in (content_keys v3 (source_row v3 filling.predecessor bucket)) key

      -- whose keys the row has
      joint_content : (key : ℕ) → InClass filling.exponent filling.bucket key → source_has key (bucket_of filling.before (spot_of key))
      joint_content key class = ⊎_elim
          (λ (one : bucket_of filling.before (spot_of key) ≡ filling.bucket).
          subst (source_has key) (sym one)
          (ap (λ (list : List ℕ). is_in list key) joint_is
          ∙ joined_low filling.exponent filling.before filling.bucket two (filling_within filling v0 f sound) first.row.keys second.row.keys low_class high_class key one
          ∙ ap (λ (list : List ℕ). is_in list key) (sym (closed_content filling.predecessor filling.bucket v0 low v1 first other_read v3 low_more
          sound_now low_fixed))))
          (λ (one : bucket_of filling.before (spot_of key) ≡ other).
          subst (source_has key) (sym one)
          (ap (λ (list : List ℕ). is_in list key) joint_is
          ∙ joined_high filling.exponent filling.before filling.bucket two (filling_within filling v0 f sound) first.row.keys second.row.keys low_class high_class key one
          ∙ ap (λ (list : List ℕ). is_in list key) (sym (closed_content filling.predecessor other v1 high v2 second [] v3 known_now
          sound_now high_fixed))))
          (join_source filling.exponent filling.before filling.bucket (spot_of key) two class)

      -- the row may fill the bucket.
      pub joint_fills : BuildsFilling filling block v0 v3
      joint_fills = record {
        may = may_fill filling v0 f sound v3 block both_read (known_now ∙ closed_grown.known) closed_one joint builds.built joint_rises
            (subst (All (InClass filling.exponent filling.bucket)) (sym joint_is)
            (joined_class filling.exponent filling.before filling.bucket two (filling_within filling v0 f sound) first.row.keys second.row.keys low_class high_class))
            joint_content;
        spends = record {
          learned = both_read;
          words = builds.words;
          grows = built_grown v0 v2 v3 both_read closed_grown closed builds.only builds.words builds.drawn;
          wide = joint;
          keys = joint_of;
          bound = builds.bound;
        };
        own = built_own v0 v2 v3 both_read closed_grown closed builds.only;
        turn = built_turn v0 v2 v3 both_read closed_grown closed builds.only;
        notes = built_notes v0 v2 v3 both_read closed_grown closed builds.only;
        unspent = sym (ap (λ (view : PassView). view.spent) closed) ∙ builds.unspent;
        spent = builds.spent ∙ ap (λ (view : PassView). view.spent) closed;
        steps = joint_steps v3 (row_cost (length joint)) builds.steps;
        frozen = joint_froze v3 (ap (λ (view : PassView). view.known) builds.only) (ap (λ (view : PassView). view.fixed) builds.only)
            (ap (λ (made : StepCounts). made.freezes) builds.steps.only);
        unfilled = ap (λ (made : StepCounts). made.fills) builds.steps.only
            ∙ ap (λ (made : StepCounts). made.fills) second.made ∙ ap (λ (made : StepCounts). made.fills) first.made;
      }

    -- and where no block for it was to be had, no more was drawn than for the two rows that were read.
    pub joint_refused : (v3 : PassView) → RefusesRow joint v2 v3 → RefusesFilling filling.head filling.bucket v0 v3
    joint_refused v3 refuses =
        let widest = longer first.row.keys second.row.keys in
        record {
          spends = record {
            learned = both_read;
            words = refuses.words;
            grows = built_grown v0 v2 v3 both_read closed_grown closed refuses.only refuses.words refuses.drawn;
            wide = widest.0;
            keys = keys_of-either one_read other_read first.row.keys second.row.keys widest.0
                (keys_of-row one_read low.at first.row (0, omega arith, refl) low_holds.rising)
                (keys_of-row other_read high.at second.row (0, omega arith, refl) high_holds.rising) widest.1.which;
            bound = omega (
              arith,
              refuses.bound,
              ap (λ (list : List ℕ). length list) joint_is,
              length-joined first.row.keys second.row.keys,
              widest.1.first,
              widest.1.second,
            );
          };
          own = built_own v0 v2 v3 both_read closed_grown closed refuses.only;
          turn = built_turn v0 v2 v3 both_read closed_grown closed refuses.only;
          notes = built_notes v0 v2 v3 both_read closed_grown closed refuses.only;
          full = refused_from refuses.words both_read 0 v0 v2 v3 closed_grown (ap (λ (view : PassView). view.spent) closed) refuses.full;
          steps = joint_steps v3 0 refuses.steps;
          frozen = joint_froze v3 (ap (λ (view : PassView). view.known) refuses.only) (ap (λ (view : PassView). view.fixed) refuses.only)
              (ap (λ (made : StepCounts). made.freezes) refuses.steps.only);
          unfilled = ap (λ (made : StepCounts). made.fills) refuses.steps.only
              ∙ ap (λ (made : StepCounts). made.fills) second.made ∙ ap (λ (made : StepCounts). made.fills) first.made;
        }
