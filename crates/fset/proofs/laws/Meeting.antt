-- A row that was met in the head, or behind a nil bucket in the generation before, is known and marked for the key.
use Rattle.std.proofs.Common.{◌≡◌, ◌⊎◌, inl, inr, ⊎_elim, ℕ, ◌+◌, ◌*◌, ◌%◌, ◌≤◌, List, [], ◌∷◌, ◌++◌, Some, refl, sym, ap, ◌∙◌, subst, add-zero, arith}
use Rattle.step_core.specs.Buckets.{key_bucket}
use Rattle.step_core.specs.Format.{IsFrozen, IsMutable, IsNil, row_address}
use Rattle.step_core.specs.declared.published.Published.TheVariants.{Generation, Row}
use Rattle.step_core.specs.declared.published.GenerationBlock.{GenerationBlock}
use Rattle.step_core.specs.declared.published.RowBlock.{RowBlock}
use Rattle.step_core.specs.declared.views.Known.{Known}
use Rattle.step_core.specs.declared.views.PassView.{PassView}
use Rattle.step_core.specs.declared.views.StepCounts.{StepCounts}
use Rattle.cells.specs.Frames.{after_reads}
use Rattle.cells.specs.Known.{known_block, row_at, KnowsGeneration, KnowsRow}
use Rattle.cells.specs.Lone.{SameLedger}
use Rattle.cells.specs.Marks.{IsHeadNow, IsMarkedFor, IsNilNow}
use Rattle.cells.specs.Sound.{IsSound}
use Rattle.cells.specs.Steps.{LoadsBucket, LoadsSealed}
use Rattle.cells.proofs.laws.BucketLoads.{load_bucket_knows, load_bucket_learned, load_bucket_lost, load_bucket_lost_none, load_bucket_mutable, load_bucket_nil, odd_or_even}
use Rattle.cells.proofs.laws.Counted.{sound_counted}
use Rattle.cells.proofs.laws.Known.{knows_more, row_at-first}
use Rattle.fset.specs.Frames.{Grows, KeepsOwn, latest_row}
use Rattle.fset.specs.Looking.{MeetsBefore, MeetsInHead, MeetsRow}
use Rattle.fset.specs.Seeking.{KnowsGenerationAt, LoadsBucketOf}
use Rattle.fset.specs.declared.seeking.LoadedBucket.{LoadedBucket}
use Rattle.fset.proofs.laws.AloneRows.{reads_same, same_then, still_alone}
use Rattle.fset.proofs.laws.Looking.{bucket_grown, bucket_own, nil_noted}
use Rattle.fset.proofs.laws.Naming.{front_still, named_is, names_grow, names_own, names_predecessor}
use Rattle.fset.proofs.laws.Frames.{grows_then, own_then, reads_grow, reads_own, then_loses}

-- what is known of a row that was met
pub record Met (key : ℕ) (old : PassView) (at : ℕ) (new : PassView) : Type 0 where
  pub learned : List Known
  pub losses : ℕ
  pub few : losses ≤ 1
  pub grows : Grows learned 0 losses old new
  pub own : KeepsOwn old new
  pub row : RowBlock
  pub latest : latest_row learned ≡ Some row
  pub is_row : row_at new.known at ≡ row
  pub known : KnowsRow new at row
  pub marked : IsMarkedFor new at key
  pub heads : new.heads ≡ old.heads
  pub spent : new.spent ≡ old.spent
  pub hands : new.hands ≡ old.hands
  pub buckets : ℕ
  pub few_buckets : (buckets ≡ 1) ⊎ (buckets ≡ 2)
  pub sealed : ℕ
  pub few_sealed : sealed + 1 ≡ 2 * buckets
  pub made : new.made ≡ record old.made {
    sealed_loads = old.made.sealed_loads + sealed;
    bucket_loads = old.made.bucket_loads + buckets;
  }
  pub alone : old.facts.seats ≡ 1 → SameLedger old new

-- how many turns the load of a bucket lost
lost_few : (place : ℕ) (old : PassView) (word : ℕ) (new : PassView) → LoadsBucket place old word new
    → (losses : ℕ) × (losses ≤ 1) × (new.lost ≡ old.lost + losses)
lost_few place old word new loads = ⊎_elim
    (λ (none : new.lost ≡ old.lost).
    let few : (losses : ℕ) × (losses ≤ 1) × (new.lost ≡ old.lost + losses) = (0, omega arith, none ∙ sym (add-zero old.lost)) in few)
    (λ (one : (new.lost ≡ old.lost + 1) × IsFrozen word).
    let few : (losses : ℕ) × (losses ≤ 1) × (new.lost ≡ old.lost + losses) = (1, omega arith, one.0) in few)
    (load_bucket_lost place old word new loads)

module _ (head key at : ℕ) (v1 v2 : PassView) (now : IsHeadNow v1 head) (m : MeetsInHead head key v1 at v2) where
  abbrev between : PassView
  between = after_reads 1 v1

  abbrev word : ℕ
  word = m.bucket.word

  abbrev loads : LoadsBucket m.bucket.place between word v2
  loads = m.loads.loads

  abbrev losses : (losses : ℕ) × (losses ≤ 1) × (v2.lost ≡ between.lost + losses)
  losses = lost_few m.bucket.place between word v2 loads

  -- frozen or not, the row is marked
  marked : IsMarkedFor v2 (row_address word) key
  marked = ⊎_elim
      (λ (odd : word % 2 ≡ 1).
      loads.marked.head head (key_bucket m.loads.generation.exponent key) m.loads.generation m.loads.is_word odd now key refl)
      (λ (even : word % 2 ≡ 0).
      loads.marked.mutable head (key_bucket m.loads.generation.exponent key) m.loads.generation m.loads.is_word m.filled even key refl)
      (odd_or_even word)

  -- The row of a bucket of the head is met.
  pub met_in_head : Met key v1 at v2
  met_in_head =
      let known = load_bucket_learned m.bucket.place between word v2 loads m.filled in
      record {
        learned = known_block (row_address word) (Row loads.row) ∷ [];
        losses = losses.0;
        few = losses.1;
        grows = then_loses [] (known_block (row_address word) (Row loads.row) ∷ []) losses.0 v1 between v2 (reads_grow 1 v1)
            (bucket_grown m.bucket.place between word v2 loads (known_block (row_address word) (Row loads.row) ∷ []) losses.0 known losses.2);
        own = own_then v1 between v2 (reads_own 1 v1) (bucket_own m.bucket.place between word v2 loads);
        row = loads.row;
        latest = refl;
        is_row = ap (row_at v2.known) m.row ∙ ap (λ (known : List Known). row_at known (row_address word)) known
            ∙ row_at-first (row_address word) loads.row between.known;
        known = subst (λ (a : ℕ). KnowsRow v2 a loads.row) (sym m.row) (load_bucket_knows m.bucket.place between word v2 loads m.filled);
        marked = subst (λ (a : ℕ). IsMarkedFor v2 a key) (sym m.row) marked;
        heads = ap (λ (view : PassView). view.heads) loads.view;
        spent = ap (λ (view : PassView). view.spent) loads.view;
        hands = ap (λ (view : PassView). view.hands) loads.view;
        sealed = 1;
        few_sealed = omega arith;
        buckets = 1;
        few_buckets = inl refl;
        made = ap (λ (view : PassView). view.made) loads.view;
        alone = λ alone. same_then v1 between v2 (reads_same 1 v1) (loads.alone alone).same;
      }

-- Behind a nil bucket the generation before may be loaded from, once its address was.
pub before_known : (head key : ℕ) (v1 v2 v3 : PassView) (nil : LoadedBucket) (predecessor : ℕ) → LoadsBucketOf head key v1 nil v2 → IsNil nil.word
    → LoadsSealed (head + 1) v2 predecessor v3 → KnowsGenerationAt v3 predecessor
before_known head key v1 v2 v3 nil predecessor finds is_nil names =
    let generation = finds.generation in
    let known = knows_more [] (after_reads 1 v1) v2 (load_bucket_nil nil.place (after_reads 1 v1) nil.word v2 finds.loads is_nil)
    head (Generation generation) finds.is_word.known in
    names_predecessor head generation v2 predecessor v3 known names
    (λ none. finds.loads.filled head (key_bucket generation.exponent key) generation finds.is_word
    (inr (sym (named_is head generation v2 predecessor v3 known names) ∙ none)) is_nil)

module _ (head key at : ℕ) (v1 v4 : PassView) (sound : IsSound v1) (m : MeetsBefore head key v1 at v4) where
  abbrev first : PassView
  first = after_reads 1 v1

  abbrev v2 : PassView
  v2 = m.found

  abbrev v3 : PassView
  v3 = m.named

  abbrev second : PassView
  second = after_reads 1 v3

  abbrev generation : GenerationBlock
  generation = m.finds.generation

  -- the bucket that is nil
  abbrev bucket : ℕ
  bucket = key_bucket generation.exponent key

  abbrev finds : LoadsBucket m.nil.place first m.nil.word v2
  finds = m.finds.loads

  abbrev before_word : ℕ
  before_word = m.bucket.word

  abbrev before_loads : LoadsBucket m.bucket.place second before_word v4
  before_loads = m.loads.loads

  even : IsMutable m.nil.word
  even = let nil = m.is_nil in omega (arith, nil)

  -- the load of the nil bucket makes nothing known
  still_known : v2.known ≡ v1.known
  still_known = load_bucket_nil m.nil.place first m.nil.word v2 finds m.is_nil

  knows_head : KnowsGeneration v2 head generation
  knows_head = knows_more [] first v2 still_known head (Generation generation) m.finds.is_word.known

  -- the predecessor's address is the word behind its exponent
  abbrev is_predecessor : m.predecessor ≡ generation.predecessor
  is_predecessor = named_is head generation v2 m.predecessor v3 knows_head m.names

  -- reading it leaves the front as it was
  abbrev same_front : v3.front ≡ v2.front
  same_front = front_still head generation v2 m.predecessor v3 knows_head m.names

  abbrev more_known : v3.known ≡ m.names.learned ++ v2.known
  more_known = (names_grow head generation v2 m.predecessor v3 knows_head m.names).known

  knows_still : KnowsGeneration second head generation
  knows_still = knows_more m.names.learned v2 second more_known head (Generation generation) knows_head

  -- the bucket before isn't nil
  filled : ¬ IsNil before_word
  filled = before_loads.followed m.predecessor (key_bucket m.loads.generation.exponent key) m.loads.generation m.loads.is_word head generation
      knows_still (sym is_predecessor)

  -- the nil bucket is the latest that was found so, from the front of now
  nil_now : IsNilNow second head bucket
  nil_now =
      let history : v3.front ≡ finds.history = same_front ∙ load_bucket_mutable m.nil.place first m.nil.word v2 finds even in (
        first.nils,
        ap (λ (view : PassView). view.nils) m.names.view
            ∙ nil_noted m.nil.place first m.nil.word v2 finds m.is_nil head bucket generation (sound_counted v1 first.made sound) m.finds.is_word
            ∙ (λ i. record { at = head; bucket = bucket; front = sym history i } ∷ first.nils),
      )

  -- frozen or not, the row is marked
  marked_before : IsMarkedFor v4 (row_address before_word) key
  marked_before = ⊎_elim
      (λ (odd : before_word % 2 ≡ 1).
      before_loads.marked.source m.predecessor (key_bucket m.loads.generation.exponent key) m.loads.generation m.loads.is_word odd head bucket
      generation knows_still (sym is_predecessor) nil_now key refl refl)
      (λ (even_word : before_word % 2 ≡ 0).
      before_loads.marked.mutable m.predecessor (key_bucket m.loads.generation.exponent key) m.loads.generation m.loads.is_word filled even_word
      key refl)
      (odd_or_even before_word)

  abbrev lost_here : (losses : ℕ) × (losses ≤ 1) × (v4.lost ≡ second.lost + losses)
  lost_here = lost_few m.bucket.place second before_word v4 before_loads

  -- The row of a bucket of the generation before is met.
  pub met_before : Met key v1 at v4
  met_before =
      let nil_lost = load_bucket_lost_none m.nil.place first m.nil.word v2 finds even ∙ sym (add-zero first.lost) in
      let one = grows_then [] [] 0 0 0 0 v1 first v2 (reads_grow 1 v1)
      (bucket_grown m.nil.place first m.nil.word v2 finds [] 0 still_known nil_lost) in
      let two = grows_then [] m.names.learned 0 0 0 0 v1 v2 v3 one (names_grow head generation v2 m.predecessor v3 knows_head m.names) in
      let three = grows_then (m.names.learned ++ []) [] 0 0 0 0 v1 v3 second two (reads_grow 1 v3) in
      let row_known = load_bucket_learned m.bucket.place second before_word v4 before_loads filled in
      let four = then_loses ([] ++ (m.names.learned ++ [])) (known_block (row_address before_word) (Row before_loads.row) ∷ []) lost_here.0 v1 second v4
      three (bucket_grown m.bucket.place second before_word v4 before_loads (known_block (row_address before_word) (Row before_loads.row) ∷ []) lost_here.0 row_known
      lost_here.2) in
      record {
        learned = (known_block (row_address before_word) (Row before_loads.row) ∷ []) ++ ([] ++ (m.names.learned ++ []));
        losses = lost_here.0;
        few = lost_here.1;
        grows = four;
        own = own_then v1 second v4 (own_then v1 v3 second (own_then v1 v2 v3 (own_then v1 first v2 (reads_own 1 v1)
            (bucket_own m.nil.place first m.nil.word v2 finds)) (names_own head generation v2 m.predecessor v3 knows_head m.names)) (reads_own 1 v3))
            (bucket_own m.bucket.place second before_word v4 before_loads);
        row = before_loads.row;
        latest = refl;
        is_row = ap (row_at v4.known) m.row ∙ ap (λ (known : List Known). row_at known (row_address before_word)) row_known
            ∙ row_at-first (row_address before_word) before_loads.row second.known;
        known = subst (λ (a : ℕ). KnowsRow v4 a before_loads.row) (sym m.row) (load_bucket_knows m.bucket.place second before_word v4 before_loads filled);
        marked = subst (λ (a : ℕ). IsMarkedFor v4 a key) (sym m.row) marked_before;
        heads = ap (λ (view : PassView). view.heads) before_loads.view ∙ ap (λ (view : PassView). view.heads) m.names.view
            ∙ ap (λ (view : PassView). view.heads) finds.view;
        spent = ap (λ (view : PassView). view.spent) before_loads.view ∙ ap (λ (view : PassView). view.spent) m.names.view
            ∙ ap (λ (view : PassView). view.spent) finds.view;
        hands = ap (λ (view : PassView). view.hands) before_loads.view ∙ ap (λ (view : PassView). view.hands) m.names.view
            ∙ ap (λ (view : PassView). view.hands) finds.view;
        sealed = 3;
        few_sealed = omega arith;
        buckets = 2;
        few_buckets = inr refl;
        made =
            let finds_made : v2.made ≡ record v1.made {
              sealed_loads = v1.made.sealed_loads + 1;
              bucket_loads = v1.made.bucket_loads + 1;
            } = ap (λ (view : PassView). view.made) finds.view in
            let names_made : v3.made ≡ record v2.made { sealed_loads = v2.made.sealed_loads + 1 } =
            ap (λ (view : PassView). view.made) m.names.view in
            let loads_made : v4.made ≡ record v3.made {
              sealed_loads = v3.made.sealed_loads + 1;
              bucket_loads = v3.made.bucket_loads + 1;
            } = ap (λ (view : PassView). view.made) before_loads.view in
            loads_made
            ∙ ap (λ (made : StepCounts). record made { sealed_loads = made.sealed_loads + 1; bucket_loads = made.bucket_loads + 1 })
            (names_made ∙ ap (λ (made : StepCounts). record made { sealed_loads = made.sealed_loads + 1 }) finds_made)
            ∙ (λ i. record v1.made {
              sealed_loads = (let sum : v1.made.sealed_loads + 1 + 1 + 1 ≡ v1.made.sealed_loads + 3 = omega arith in sum) i;
              bucket_loads = (let sum : v1.made.bucket_loads + 1 + 1 ≡ v1.made.bucket_loads + 2 = omega arith in sum) i;
            });
        alone = λ alone.
            let found = still_alone v1 v2 (ap (λ (view : PassView). view.facts) finds.view) alone in
            let named = still_alone v2 v3 (ap (λ (view : PassView). view.facts) m.names.view) found in
            same_then v1 v2 v4 (same_then v1 first v2 (reads_same 1 v1) (finds.alone alone).same)
            (same_then v2 v3 v4 (m.names.alone found) (same_then v3 second v4 (reads_same 1 v3) (before_loads.alone named).same));
      }

-- However it was met, so it is.
pub met_row : (head key at : ℕ) (old new : PassView) → IsSound old → IsHeadNow old head → MeetsRow head key old at new → Met key old at new
met_row head key at old new sound now meets = ⊎_elim
    (λ (in_head : MeetsInHead head key old at new). met_in_head head key at old new now in_head)
    (λ (before : MeetsBefore head key old at new). met_before head key at old new sound before)
    meets
