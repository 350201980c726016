-- The keys that the sources of an untouched bucket have are those of the bucket in the ledger of the only pass.
use Rattle.std.proofs.Common.{◌≡◌, ℕ, ◌+◌, ◌%◌, ◌^◌, ◌<◌, Bool, List, [], ◌∷◌, ◌++◌, length, All, ⊎_elim, refl, sym, ap, ◌∙◌, subst}
use Rattle.std.proofs.Math.Nat.{mod-lt}
use Rattle.std.proofs.lemmas.Nat.{pow_pos}
use Rattle.std.specs.List.Sorted.{IsStrictlyIncreasing}
use Rattle.set_model.specs.Keys.{is_in}
use Rattle.step_core.specs.Buckets.{class_keys, key_bucket}
use Rattle.step_core.specs.Content.{bucket_of, spot_of, InClass}
use Rattle.step_core.specs.Ledger.{Ledger, bucket_keys, draw_row, drawing}
use Rattle.step_core.specs.declared.format.TheConstants.{FIRST_BUCKET}
use Rattle.step_core.specs.declared.published.Published.TheVariants.{Generation, Row}
use Rattle.step_core.specs.declared.published.RowBlock.{RowBlock}
use Rattle.step_core.specs.declared.published.GenerationBlock.{GenerationBlock}
use Rattle.step_core.specs.declared.views.Known.{Known}
use Rattle.step_core.specs.declared.views.PassView.{PassView}
use Rattle.step_core.proofs.lists.Histories.{class_only}
use Rattle.cells.specs.Known.{known_block, row_at, keys_at, KnowsGeneration}
use Rattle.cells.specs.Lone.{first_generation, head_at, head_generation, is_untouched, ledger_of, EndsAlone, EndsAs, IsNilOfHead, SameLedger}
use Rattle.cells.specs.Sound.{IsSound}
use Rattle.cells.proofs.laws.Known.{bucket_word_stays, generation_in-known, knows_more}
use Rattle.cells.proofs.laws.Lone.{ledger_of-exponent, ledger_of-untouched}
use Rattle.fset.specs.Alone.{ClosesAlone}
use Rattle.fset.specs.Ensuring.{ClosesBucket, IsFilling}
use Rattle.fset.specs.Frames.{row_cost}
use Rattle.fset.specs.Joining.{joined, joined_keys}
use Rattle.fset.specs.Splitting.{split_keys}
use Rattle.fset.specs.declared.ensuring.Filling.{Filling}
use Rattle.fset.specs.declared.seen.Seen.{Seen}
use Rattle.fset.proofs.laws.AloneRows.{ledger_rises, same_then, still_alone}
use Rattle.fset.proofs.laws.Filling.{filling_within, source_word}
use Rattle.fset.proofs.laws.FilledByTwo.{high_class, joint_is, joint_rises, low_class}
use Rattle.fset.proofs.laws.Sources.{join_source, joined_class, joined_high, joined_low, sources_within, split_class, split_has, split_source}
use Rattle.fset.proofs.laws.Splitting.{split-rises}
use Rattle.fset.proofs.laws.Taking.{seen_keys-known}

-- The generation that is known at the head is the head's.
pub head_generation-known : (view : PassView) (head : ℕ) (generation : GenerationBlock) → IsSound view → KnowsGeneration view head generation
    → head ≡ head_at view → head_generation view ≡ generation
head_generation-known view head generation sound known is_head =
    generation_in-known view (head_at view) (first_generation view.facts) generation sound
    (subst (λ (at : ℕ). KnowsGeneration view at generation) is_head known)

-- What leaves the ledger and the head leaves which buckets are nil.
pub nil_stays : (head bucket : ℕ) (old new : PassView) → SameLedger old new → head_at new ≡ head_at old → IsNilOfHead head bucket old
    → IsNilOfHead head bucket new
nil_stays head bucket old new same heads nil = record {
  is_head = nil.is_head ∙ sym heads;
  untouched = sym (ledger_of-untouched new bucket) ∙ ap (λ (ledger : Ledger). ledger.untouched bucket) same.ledger
      ∙ ledger_of-untouched old bucket ∙ nil.untouched;
}

-- Two generations that follow each other are so while more becomes known.
filling_stays : (filling : Filling) (learned : List Known) (old new : PassView) → new.known ≡ learned ++ old.known → IsFilling old filling
    → IsFilling new filling
filling_stays filling learned old new more f = record {
  generation = f.generation;
  is_word = bucket_word_stays learned old new more (filling.head + FIRST_BUCKET + filling.bucket) filling.head filling.bucket f.generation f.is_word;
  source = f.source;
  before = knows_more learned old new more filling.predecessor (Generation f.source) f.before;
  predecessor = f.predecessor;
  exponent = f.exponent;
  of_source = f.of_source;
}

module _ (filling : Filling) (view : PassView) (f : IsFilling view filling) (sound : IsSound view)
    (nil : IsNilOfHead filling.head filling.bucket view) where
  is_generation : head_generation view ≡ f.generation
  is_generation = head_generation-known view filling.head f.generation sound f.is_word.known nil.is_head

  -- A rising list of the bucket's class that has of it what the ledger has is the bucket's part of that.
  bucket_keys_only : (list : List ℕ) → IsStrictlyIncreasing list → All (InClass filling.exponent filling.bucket) list
      → ((key : ℕ) → InClass filling.exponent filling.bucket key → is_in list key ≡ is_in (ledger_of view).keys key)
      → list ≡ bucket_keys filling.bucket (ledger_of view)
  bucket_keys_only list rises all same =
      let exponent : filling.exponent ≡ (ledger_of view).exponent =
      f.exponent ∙ ap (λ (g : GenerationBlock). g.exponent) (sym is_generation) ∙ sym (ledger_of-exponent view) in
      class_only filling.exponent filling.bucket list (ledger_of view).keys rises (ledger_rises view sound) all same
      ∙ ap (λ (e : ℕ). class_keys e filling.bucket (ledger_of view).keys) exponent

  -- A source that was frozen has of the bucket's class, and of its own, what the ledger has.
  source_has : (source : ℕ) (seen : Seen) (new : PassView) → source < 2 ^ filling.before → ClosesAlone filling.predecessor source view seen new
      → (key : ℕ) → InClass filling.exponent filling.bucket key → InClass filling.before source key
      → is_in (keys_at new seen.at) key ≡ is_in (ledger_of view).keys key
  source_has source seen new within closed key class of_source =
      let bucket : key_bucket (head_generation view).exponent key ≡ filling.bucket =
      ap (λ (g : GenerationBlock). key_bucket g.exponent key) is_generation ∙ ap (λ (e : ℕ). key_bucket e key) (sym f.exponent) ∙ class in
      closed.agrees f.source (source_word filling view f sound [] view refl source within)
      (ap (λ (g : GenerationBlock). g.predecessor) is_generation ∙ f.predecessor) key
      (ap (λ (e : ℕ). key_bucket e key) (sym f.of_source) ∙ of_source)
      (ap (λ (b : ℕ). is_untouched view b) bucket ∙ nil.untouched)

-- the draw of a row ends as one of the bucket's keys where these are the row's, and closing its sources left the ledger
bucket_ends : (bucket : ℕ) (keys : List ℕ) (full : Bool) (old between new : PassView) → SameLedger old between
    → keys ≡ bucket_keys bucket (ledger_of old) → EndsAs (drawing (row_cost (length keys)) (ledger_of between)) full new
    → EndsAs (draw_row bucket (ledger_of old)) full new
bucket_ends bucket keys full old between new same are ends =
    subst (λ (z : List ℕ × Ledger). EndsAs (drawing (row_cost (length z.0)) z.1) full new) (λ i. (are i, same.ledger i)) ends

module _ (filling : Filling) (v0 : PassView) (f : IsFilling v0 filling) (sound : IsSound v0)
    (nil : IsNilOfHead filling.head filling.bucket v0) (alone : v0.facts.seats ≡ 1) where
  module _ (one : filling.exponent ≡ filling.before + 1) (seen : Seen) (v1 : PassView)
      (closes : ClosesBucket filling.predecessor (filling.bucket % 2 ^ filling.before) v0 seen v1)
      (closed : ClosesAlone filling.predecessor (filling.bucket % 2 ^ filling.before) v0 seen v1) (sound_read : IsSound v1) where
    abbrev split : List ℕ
    split = split_keys filling.exponent filling.bucket v1 seen

    abbrev read : List ℕ
    read = keys_at v1 seen.at

    split_is : split ≡ class_keys filling.exponent filling.bucket read
    split_is = ap (class_keys filling.exponent filling.bucket) (seen_keys-known v1 seen sound_read closes.agrees)

    -- After a growth the one source has the bucket's keys.
    split_keys_are : split ≡ bucket_keys filling.bucket (ledger_of v0)
    split_keys_are =
        split_is
        ∙ bucket_keys_only filling v0 f sound nil (class_keys filling.exponent filling.bucket read)
        (split-rises filling.exponent filling.bucket read (sound_read.rows seen.at (row_at v1.known seen.at) closes.agrees.known).rising)
        (split_class filling.exponent filling.bucket read)
        (λ key class. split_has filling.exponent filling.bucket read key class
        ∙ source_has filling v0 f sound nil (filling.bucket % 2 ^ filling.before) seen v1 (mod-lt filling.bucket (pow_pos filling.before)) closed key
        class (split_source filling.exponent filling.before filling.bucket (spot_of key) one class))

    -- So the draw of the row that fills the bucket ends as the ledger says.
    pub split_ends : (full : Bool) (v2 : PassView) → EndsAlone (drawing (row_cost (length split))) full v1 v2
        → EndsAs (draw_row filling.bucket (ledger_of v0)) full v2
    split_ends full v2 ends =
        bucket_ends filling.bucket split full v0 v1 v2 closed.same split_keys_are (ends (still_alone v0 v1 closes.grows.facts alone))

  module _ (two : filling.before ≡ filling.exponent + 1) (low high : Seen) (v1 v2 : PassView)
      (first : ClosesBucket filling.predecessor filling.bucket v0 low v1)
      (second : ClosesBucket filling.predecessor (filling.bucket + 2 ^ filling.exponent) v1 high v2) (sound_one : IsSound v1)
      (sound_two : IsSound v2) (low_closed : ClosesAlone filling.predecessor filling.bucket v0 low v1)
      (high_closed : ClosesAlone filling.predecessor (filling.bucket + 2 ^ filling.exponent) v1 high v2) where
    abbrev other : ℕ
    other = filling.bucket + 2 ^ filling.exponent

    abbrev joint : List ℕ
    joint = joined_keys v2 low high

    abbrev both : List ℕ
    both = joined first.row.keys second.row.keys

    within : (filling.bucket < 2 ^ filling.before) × (other < 2 ^ filling.before)
    within = sources_within filling.exponent filling.before filling.bucket two (filling_within filling v0 f sound)

    both_are : joint ≡ both
    both_are = joint_is filling v0 f sound two low high v1 v2 first second sound_two

    of_low : All (InClass filling.before filling.bucket) first.row.keys
    of_low = low_class filling v0 f sound two low high v1 v2 first second sound_two

    of_high : All (InClass filling.before other) second.row.keys
    of_high = high_class filling v0 f sound two low high v1 v2 first second sound_two

    nil_still : IsNilOfHead filling.head filling.bucket v1
    nil_still = nil_stays filling.head filling.bucket v0 v1 low_closed.same (ap head_at first.only) nil

    -- each source has what the ledger has
    both_have : (key : ℕ) → InClass filling.exponent filling.bucket key → is_in both key ≡ is_in (ledger_of v0).keys key
    both_have key class = ⊎_elim
        (λ (one : bucket_of filling.before (spot_of key) ≡ filling.bucket).
        joined_low filling.exponent filling.before filling.bucket two (filling_within filling v0 f sound) first.row.keys second.row.keys of_low of_high
        key one
        ∙ ap (λ (row : RowBlock). is_in row.keys key) (sym first.is_row)
        ∙ source_has filling v0 f sound nil filling.bucket low v1 within.0 low_closed key class one)
        (λ (one : bucket_of filling.before (spot_of key) ≡ other).
        joined_high filling.exponent filling.before filling.bucket two (filling_within filling v0 f sound) first.row.keys second.row.keys of_low of_high
        key one
        ∙ ap (λ (row : RowBlock). is_in row.keys key) (sym second.is_row)
        ∙ source_has filling v1 (filling_stays filling (known_block low.at (Row first.row) ∷ []) v0 v1 first.grows.known f) sound_one nil_still
        other high v2 within.1 high_closed key class one
        ∙ ap (λ (ledger : Ledger). is_in ledger.keys key) low_closed.same.ledger)
        (join_source filling.exponent filling.before filling.bucket (spot_of key) two class)

    -- After a shrink both have the bucket's keys.
    joint_keys_are : joint ≡ bucket_keys filling.bucket (ledger_of v0)
    joint_keys_are =
        both_are
        ∙ bucket_keys_only filling v0 f sound nil both
        (subst IsStrictlyIncreasing both_are (joint_rises filling v0 f sound two low high v1 v2 first second sound_two))
        (joined_class filling.exponent filling.before filling.bucket two (filling_within filling v0 f sound) first.row.keys second.row.keys of_low of_high)
        both_have

    -- So the draw of the row that fills the bucket ends as the ledger says.
    pub joint_ends : (full : Bool) (v3 : PassView) → EndsAlone (drawing (row_cost (length joint))) full v2 v3
        → EndsAs (draw_row filling.bucket (ledger_of v0)) full v3
    joint_ends full v3 ends =
        bucket_ends filling.bucket joint full v0 v2 v3 (same_then v0 v1 v2 low_closed.same high_closed.same) joint_keys_are
        (ends (still_alone v1 v2 second.grows.facts (still_alone v0 v1 first.grows.facts alone)))
