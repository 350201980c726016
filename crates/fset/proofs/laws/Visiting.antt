-- Of the head, and where its bucket is nil of the generation before, the bucket of a key is loaded once, and no other bucket.
use Rattle.std.proofs.Common.{◌≡◌, ⊎_elim, inl, inr, ℕ, Bool, cond, List, [], ◌∷◌, ◌++◌, refl, sym, ap, ◌∙◌, subst, arith}
use Rattle.step_core.specs.Buckets.{key_bucket}
use Rattle.step_core.specs.Format.{IsNil, row_address}
use Rattle.step_core.specs.declared.published.Published.TheVariants.{Generation, Row}
use Rattle.step_core.specs.declared.published.GenerationBlock.{GenerationBlock}
use Rattle.step_core.specs.declared.views.FilledBucket.{FilledBucket}
use Rattle.step_core.specs.declared.views.Known.{Known}
use Rattle.step_core.specs.declared.views.NilBucket.{NilBucket}
use Rattle.step_core.specs.declared.views.PassView.{PassView}
use Rattle.step_core.specs.declared.views.StepCounts.{StepCounts}
use Rattle.cells.specs.Frames.{after_reads}
use Rattle.cells.specs.Known.{known_block, IsBucketWord, KnowsGeneration}
use Rattle.cells.specs.Sound.{IsSound}
use Rattle.cells.specs.Steps.{LoadsBucket, LoadsHead, filled_bucket, nil_bucket}
use Rattle.cells.proofs.laws.BucketLoads.{is_nil-nil, is_nil-other, load_bucket_learned, load_bucket_nil}
use Rattle.cells.proofs.laws.Counted.{sound_counted}
use Rattle.cells.proofs.laws.Known.{bucket_word_stays, generation_at-known, knows_more}
use Rattle.fset.specs.Looking.{LoadsBehind, LoadsEachOnce, LoadsInHead, MeetsBefore, MeetsInHead, MeetsRow, key_bucket_at}
use Rattle.fset.specs.Seen.{ReadsRow}
use Rattle.fset.specs.declared.seen.Seen.{Seen}
use Rattle.fset.proofs.laws.Looking.{nil_noted}
use Rattle.fset.proofs.laws.Naming.{named_is, names_grow}

module _ (place : ℕ) (old : PassView) (word : ℕ) (new : PassView) (loads : LoadsBucket place old word new) where
  -- a bucket that isn't nil is then known to be filled, by its place,
  filled_is : ¬ IsNil word → new.filled ≡ filled_bucket old place ∷ old.filled
  filled_is some = ap (λ (view : PassView). view.filled) loads.view
      ∙ ap (λ (b : Bool). cond b old.filled (filled_bucket old place ∷ old.filled)) (is_nil-other word some)

  filled_same : IsNil word → new.filled ≡ old.filled
  filled_same nil = ap (λ (view : PassView). view.filled) loads.view
      ∙ ap (λ (b : Bool). cond b old.filled (filled_bucket old place ∷ old.filled)) (is_nil-nil word nil)

  nils_same : ¬ IsNil word → new.nils ≡ old.nils
  nils_same some = ap (λ (view : PassView). view.nils) loads.view
      ∙ ap (λ (b : Bool). cond b (nil_bucket old place loads.history ∷ old.nils) old.nils) (is_nil-other word some)

  -- and that is the bucket of the generation, where the view after the load is sound
  filled_known : ¬ IsNil word → IsSound new → (at bucket : ℕ) (generation : GenerationBlock) → IsBucketWord old place at bucket generation
      → new.filled ≡ record { at = at; bucket = bucket } ∷ old.filled
  filled_known some sound at bucket generation is_word =
      let learned : List Known = known_block (row_address word) (Row loads.row) ∷ [] in
      let more = load_bucket_learned place old word new loads some in
      let lookup = generation_at-known new place at bucket generation sound
      (bucket_word_stays learned old new more place at bucket generation is_word) in
      let here : filled_bucket new place ≡ filled_bucket old place =
      ap (λ (known : List Known). filled_bucket (record old { known = known }) place) more in
      filled_is some
      ∙ ap (λ (bucket : FilledBucket). bucket ∷ old.filled) (sym here)
      ∙ (λ i. record { at = lookup.0 i; bucket = lookup.1 i } ∷ old.filled)

module _ (head key at : ℕ) (v1 v2 : PassView) (sound : IsSound v2) (m : MeetsInHead head key v1 at v2) where
  -- The key's bucket in the head was loaded and no other.
  in_head : LoadsInHead head key v1 v2
  in_head =
      let between = after_reads 1 v1 in
      let loads = m.loads.loads in
      let generation = m.loads.generation in
      record {
        generation = generation;
        known = knows_more (known_block (row_address m.bucket.word) (Row loads.row) ∷ []) between v2
            (load_bucket_learned m.bucket.place between m.bucket.word v2 loads m.filled) head (Generation generation) m.loads.is_word.known;
        filled = filled_known m.bucket.place between m.bucket.word v2 loads m.filled sound head (key_bucket generation.exponent key) generation
            m.loads.is_word;
        nils = nils_same m.bucket.place between m.bucket.word v2 loads m.filled;
        loads = ap (λ (view : PassView). view.made.bucket_loads) loads.view;
      }

module _ (head key at : ℕ) (v1 v4 : PassView) (sound1 : IsSound v1) (sound : IsSound v4) (m : MeetsBefore head key v1 at v4) where
  abbrev first : PassView
  first = after_reads 1 v1

  abbrev v2 : PassView
  v2 = m.found

  abbrev v3 : PassView
  v3 = m.named

  abbrev second : PassView
  second = after_reads 1 v3

  abbrev generation : GenerationBlock
  generation = m.finds.generation

  abbrev source : GenerationBlock
  source = m.loads.generation

  abbrev finds : LoadsBucket m.nil.place first m.nil.word v2
  finds = m.finds.loads

  abbrev loads : LoadsBucket m.bucket.place second m.bucket.word v4
  loads = m.loads.loads

  knows_head : KnowsGeneration v2 head generation
  knows_head = knows_more [] first v2 (load_bucket_nil m.nil.place first m.nil.word v2 finds m.is_nil) head (Generation generation)
      m.finds.is_word.known

  knows_still : KnowsGeneration second head generation
  knows_still = knows_more m.names.learned v2 second (names_grow head generation v2 m.predecessor v3 knows_head m.names).known head
      (Generation generation) knows_head

  is_predecessor : m.predecessor ≡ generation.predecessor
  is_predecessor = named_is head generation v2 m.predecessor v3 knows_head m.names

  -- the bucket before isn't nil
  some : ¬ IsNil m.bucket.word
  some = loads.followed m.predecessor (key_bucket source.exponent key) source m.loads.is_word head generation knows_still (sym is_predecessor)

  abbrev more : v4.known ≡ (known_block (row_address m.bucket.word) (Row loads.row) ∷ []) ++ second.known
  more = load_bucket_learned m.bucket.place second m.bucket.word v4 loads some

  -- The key's bucket in the head was found nil, and that in the generation before was loaded, and no other.
  behind : LoadsBehind head key v1 v4
  behind =
      let learned : List Known = known_block (row_address m.bucket.word) (Row loads.row) ∷ [] in
      record {
        generation = generation;
        known = knows_more learned second v4 more head (Generation generation) knows_still;
        nil = record { at = head; bucket = key_bucket generation.exponent key; front = finds.history };
        found = (refl, refl);
        nils = nils_same m.bucket.place second m.bucket.word v4 loads some ∙ ap (λ (view : PassView). view.nils) m.names.view
            ∙ nil_noted m.nil.place first m.nil.word v2 finds m.is_nil head (key_bucket generation.exponent key) generation
            (sound_counted v1 first.made sound1) m.finds.is_word;
        source = source;
        before = subst (λ (at : ℕ). KnowsGeneration v4 at source) is_predecessor
            (knows_more learned second v4 more m.predecessor (Generation source) m.loads.is_word.known);
        filled = filled_known m.bucket.place second m.bucket.word v4 loads some sound m.predecessor (key_bucket source.exponent key) source
            m.loads.is_word
            ∙ ap (λ (at : ℕ). key_bucket_at at source key ∷ second.filled) is_predecessor
            ∙ ap (λ (list : List FilledBucket). key_bucket_at generation.predecessor source key ∷ list)
            (ap (λ (view : PassView). view.filled) m.names.view ∙ filled_same m.nil.place first m.nil.word v2 finds m.is_nil);
        loads =
            let one = ap (λ (view : PassView). view.made.bucket_loads) finds.view in
            let named = ap (λ (view : PassView). view.made.bucket_loads) m.names.view in
            let two = ap (λ (view : PassView). view.made.bucket_loads) loads.view in
            omega (arith, one, named, two);
      }

-- However the row was met, each generation had at most one bucket loaded.
pub met_once : (head key at : ℕ) (old new : PassView) → IsSound old → IsSound new → MeetsRow head key old at new → LoadsEachOnce head key old new
met_once head key at old new sound1 sound meets = ⊎_elim
    (λ (one : MeetsInHead head key old at new).
    let once : LoadsEachOnce head key old new = inl (in_head head key at old new sound one) in once)
    (λ (two : MeetsBefore head key old at new).
    let once : LoadsEachOnce head key old new = inr (behind head key at old new sound1 sound two) in once)
    meets

-- So it is from before the head was loaded until the row is read.
pub once_read : (head key at : ℕ) (v0 v1 v2 v3 : PassView) (seen : Seen) → LoadsHead v0 head v1 → ReadsRow at v2 seen v3
    → LoadsEachOnce head key v1 v2 → LoadsEachOnce head key v0 v3
once_read head key at v0 v1 v2 v3 seen heads reads once =
    let filled0 = ap (λ (view : PassView). view.filled) heads.view in
    let nils0 = ap (λ (view : PassView). view.nils) heads.view in
    let loads0 = ap (λ (view : PassView). view.made.bucket_loads) heads.view in
    let filled3 = ap (λ (view : PassView). view.filled) reads.reads.only in
    let nils3 = ap (λ (view : PassView). view.nils) reads.reads.only in
    let loads3 = ap (λ (made : StepCounts). made.bucket_loads) reads.reads.made in
    ⊎_elim
    (λ (one : LoadsInHead head key v1 v2).
    let once : LoadsEachOnce head key v0 v3 = inl (record {
      generation = one.generation;
      known = knows_more reads.learned v2 v3 reads.reads.grows.known head (Generation one.generation) one.known;
      filled = filled3 ∙ one.filled ∙ ap (λ (list : List FilledBucket). key_bucket_at head one.generation key ∷ list) filled0;
      nils = nils3 ∙ one.nils ∙ nils0;
      loads = omega (arith, loads3, one.loads, loads0);
    }) in once)
    (λ (two : LoadsBehind head key v1 v2).
    let once : LoadsEachOnce head key v0 v3 = inr (record {
      generation = two.generation;
      known = knows_more reads.learned v2 v3 reads.reads.grows.known head (Generation two.generation) two.known;
      nil = two.nil;
      found = two.found;
      nils = nils3 ∙ two.nils ∙ ap (λ (list : List NilBucket). two.nil ∷ list) nils0;
      source = two.source;
      before = knows_more reads.learned v2 v3 reads.reads.grows.known two.generation.predecessor (Generation two.source) two.before;
      filled = filled3 ∙ two.filled ∙ ap (λ (list : List FilledBucket). key_bucket_at two.generation.predecessor two.source key ∷ list) filled0;
      loads = omega (arith, loads3, two.loads, loads0);
    }) in once)
    once
