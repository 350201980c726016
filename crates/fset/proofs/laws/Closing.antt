-- A bucket that was frozen, and its row read, is known to be closed, also while more becomes known.
use Rattle.std.proofs.Common.{◌≡◌, ◌≢◌, ℕ, ◌+◌, ◌^◌, ◌<◌, ◌&&◌, ◌||◌, Bool, true, nat_eq, cond, List, [], ◌∷◌, ◌++◌, inl, refl, sym, ap, ◌∙◌, subst, eq-eqb, ne_eqb, add-zero}
use base.Growing.{prefix_refl}
use Rattle.step_core.specs.Fits.{HoldsClass}
use Rattle.step_core.specs.Format.{IsFrozen, row_address, frozen_word}
use Rattle.step_core.specs.declared.format.TheConstants.{FIRST_BUCKET}
use Rattle.step_core.specs.declared.published.Published.TheVariants.{Row}
use Rattle.step_core.specs.declared.published.RowBlock.{RowBlock}
use Rattle.step_core.specs.declared.views.FilledBucket.{FilledBucket}
use Rattle.step_core.specs.declared.views.FixedCell.{FixedCell}
use Rattle.step_core.specs.declared.views.Known.{Known}
use Rattle.step_core.specs.declared.views.PassView.{PassView}
use Rattle.step_core.specs.declared.views.StepCounts.{StepCounts}
use Rattle.step_core.proofs.seen.FrozenWord.{frozen_names, frozen_odd}
use Rattle.cells.specs.Exchanges.{content_keys, fixed_at, named_row}
use Rattle.cells.specs.Filling.{KnowsClosed, source_row}
use Rattle.cells.specs.Frames.{OnlyReads}
use Rattle.cells.specs.Freezing.{FreezesBucket, MayFreeze}
use Rattle.cells.specs.Known.{known_block, row_at, KnowsRow}
use Rattle.cells.specs.Lone.{is_among}
use Rattle.cells.specs.Sound.{IsSound}
use Rattle.cells.proofs.laws.Known.{generation_at-known, keys_at-known, knows_first, knows_more, row_at-first, row_at-known}
use Rattle.cells.proofs.laws.Swaps.{content_keys-plain}
use Rattle.cells.proofs.laws.Within.{bucket_within}
use Rattle.fset.specs.Content.{seen_keys}
use Rattle.fset.specs.Ensuring.{ClosesBucket, IsSource, OnlyCloses, cell_of}
use Rattle.fset.specs.Frames.{Grows, KeepsOwn}
use Rattle.fset.specs.Seen.{KnowsRowAt, ReadsRow}
use Rattle.fset.specs.declared.seen.Seen.{Seen}
use Rattle.fset.proofs.laws.Frames.{behind_self, grows_then}
use Rattle.fset.proofs.laws.Reading.{seen_keys-plain}

-- The word that a cell was noted with last is found,
pub fixed_at-here : (at bucket word : ℕ) (others : List FixedCell) → fixed_at (cell_of at bucket word ∷ others) at bucket ≡ word
fixed_at-here at bucket word others =
    ap (λ (b : Bool). cond (b && nat_eq bucket bucket) word (fixed_at others at bucket)) (eq-eqb at at refl)
    ∙ ap (λ (b : Bool). cond b word (fixed_at others at bucket)) (eq-eqb bucket bucket refl)

-- and that of another bucket is as before.
pub fixed_at-other : (at bucket other word : ℕ) (others : List FixedCell) → other ≢ bucket
    → fixed_at (cell_of at other word ∷ others) at bucket ≡ fixed_at others at bucket
fixed_at-other at bucket other word others apart =
    ap (λ (b : Bool). cond (b && nat_eq other bucket) word (fixed_at others at bucket)) (eq-eqb at at refl)
    ∙ ap (λ (b : Bool). cond b word (fixed_at others at bucket)) (ne_eqb other bucket apart)

-- A bucket is among others where it is the first of them.
pub is_among-first : (first : FilledBucket) (others : List FilledBucket) (at bucket : ℕ) → first.at ≡ at → first.bucket ≡ bucket
    → is_among (first ∷ others) at bucket ≡ true
is_among-first first others at bucket same here =
    ap (λ (b : Bool). (b && nat_eq first.bucket bucket) || is_among others at bucket) (eq-eqb first.at at same)
    ∙ ap (λ (b : Bool). b || is_among others at bucket) (eq-eqb first.bucket bucket here)

-- Closing one bucket and then another changes no more than closing one.
pub closes_then : (old between new : PassView) → OnlyCloses old between → OnlyCloses between new → OnlyCloses old new
closes_then old between new one two = two
    ∙ ap (λ (view : PassView). record view {
      front = new.front;
      horizon = new.horizon;
      known = new.known;
      marks = new.marks;
      trials = new.trials;
      fixed = new.fixed;
      made = new.made;
    }) one

-- Reading a row changes no more.
reads_close : (old new : PassView) → OnlyReads old new → OnlyCloses old new
reads_close old new only =
    only
    ∙ (λ i. record old {
      front = new.front;
      horizon = sym (ap (λ (view : PassView). view.horizon) only) i;
      known = new.known;
      marks = new.marks;
      trials = new.trials;
      fixed = new.fixed;
      made = new.made;
    })

-- It makes no entry.
pub closes_own : (old new : PassView) → OnlyCloses old new → KeepsOwn old new
closes_own old new only = record {
  mine = ap (λ (view : PassView). view.mine) only;
  flight = ap (λ (view : PassView). view.flight) only;
  used = ap (λ (view : PassView). view.used) only;
}

module _ (at bucket : ℕ) (v0 : PassView) (source : IsSource v0 at bucket) where
  -- A source may be frozen,
  pub may_freeze : MayFreeze v0 (at + FIRST_BUCKET + bucket)
  may_freeze = record {
    at = at;
    bucket = bucket;
    generation = source.generation;
    is_word = source.is_word;
    later = source.later;
    newer = source.newer;
    known = source.known;
    follows = source.follows;
  }

  -- and lies in the arena.
  pub source_within : IsSound v0 → at + FIRST_BUCKET + bucket < 2 ^ 28
  source_within sound = (bucket_within v0 sound (at + FIRST_BUCKET + bucket) (at, bucket, source.generation, source.is_word)).small

module _ (at bucket : ℕ) (v0 v1 : PassView) (word : ℕ) (freezes : FreezesBucket (at + FIRST_BUCKET + bucket) v0 word v1) where
  abbrev row : RowBlock
  row = freezes.row

  -- The lookup finds the row of a frozen bucket.
  pub named : row_at v1.known (row_address word) ≡ row
  named = ap (λ (view : PassView). row_at view.known (row_address word)) freezes.view ∙ row_at-first (row_address word) row v0.known

  -- The row of a frozen bucket may be read.
  pub frozen_known : KnowsRowAt v1 (row_address word)
  frozen_known = subst (KnowsRow v1 (row_address word)) (sym named)
      (knows_first (row_address word) (Row row) [] v0 v1 (ap (λ (view : PassView). view.known) freezes.view))

  frozen_grown : Grows (known_block (row_address word) (Row row) ∷ []) 0 0 v0 v1
  frozen_grown = subst (Grows (known_block (row_address word) (Row row) ∷ []) 0 0 v0) (sym freezes.view) (record {
    number = refl;
    facts = refl;
    front = prefix_refl v0.front;
    known = refl;
    fixed = (cell_of _ _ (frozen_word word) ∷ [], refl);
    asked = behind_self v0.asked;
    drawn = sym (add-zero v0.drawn);
    lost = sym (add-zero v0.lost);
  })

  module _ (source : IsSource v0 at bucket) (v2 : PassView) (seen : Seen) (reads : ReadsRow (row_address word) v1 seen v2) (sound : IsSound v0)
      (sound_now : IsSound v2) where
    -- so far it has no operation
    plain : seen.op ≡ 0
    plain = reads.agrees.op ∙ sound_now.no_op seen.at (row_at v2.known seen.at) reads.agrees.known

    read_grown : Grows [] 0 0 v1 v2
    read_grown = subst (λ (learned : List Known). Grows learned 0 0 v1 v2) (reads.nothing plain) reads.reads.grows

    -- the cell is known to change no more
    noted : v2.fixed ≡ cell_of at bucket (frozen_word word) ∷ v0.fixed
    noted =
        let lookup = generation_at-known v0 (at + FIRST_BUCKET + bucket) at bucket source.generation sound source.is_word in
        reads.unfixed plain ∙ ap (λ (view : PassView). view.fixed) freezes.view
        ∙ (λ i. cell_of (lookup.0 i) (lookup.1 i) (frozen_word word) ∷ v0.fixed)

    -- The bucket is closed.
    pub bucket_closed : ClosesBucket at bucket v0 seen v2
    bucket_closed = record {
      only = closes_then v0 v1 v2 (subst (OnlyCloses v0) (sym freezes.view) refl) (reads_close v1 v2 reads.reads.only);
      word = frozen_word word;
      frozen = frozen_odd word;
      address = reads.place ∙ sym (frozen_names word);
      fixed = noted;
      row = row;
      grows = subst (λ (a : ℕ). Grows (known_block a (Row row) ∷ []) 0 0 v0 v2) (sym reads.place)
          (grows_then (known_block (row_address word) (Row row) ∷ []) [] 0 0 0 0 v0 v1 v2 frozen_grown read_grown);
      agrees = reads.agrees;
      is_row = ap (row_at v2.known) reads.place ∙ reads.same ∙ named;
      home = λ generation is_word. freezes.home at bucket generation is_word freezes.some_row;
      made = reads.reads.made
          ∙ ap (λ (made : StepCounts). record made { sealed_loads = made.sealed_loads + 2 }) (ap (λ (view : PassView). view.made) freezes.view);
    }

module _ (at bucket : ℕ) (old : PassView) (seen : Seen) (mid : PassView) (closes : ClosesBucket at bucket old seen mid) (learned : List Known)
    (new : PassView) (more : new.known ≡ learned ++ mid.known) (sound : IsSound new) where
  known_there : KnowsRow new seen.at closes.row
  known_there = knows_more learned mid new more seen.at (Row closes.row) (subst (KnowsRow mid seen.at) closes.is_row closes.agrees.known)

  row_plain : closes.row.op ≡ 0
  row_plain = sound.no_op seen.at closes.row known_there

  -- The row of a closed bucket rises, and its keys are of the bucket's class.
  pub closed_holds : HoldsClass closes.row
  closed_holds = sound.rows seen.at closes.row known_there

  -- The keys that were read are the row's.
  pub closed_keys : seen_keys new seen ≡ closes.row.keys
  closed_keys =
      seen_keys-plain new seen (closes.agrees.op ∙ ap (λ (row : RowBlock). row.op) closes.is_row ∙ row_plain)
      ∙ keys_at-known new seen.at closes.row sound known_there

  module _ (fixed : fixed_at new.fixed at bucket ≡ closes.word) where
    row_known : KnowsRow new (row_address closes.word) closes.row
    row_known = subst (λ (a : ℕ). KnowsRow new a closes.row) closes.address known_there

    source_is : source_row new at bucket ≡ closes.row
    source_is = ap (named_row new) fixed ∙ row_at-known new (row_address closes.word) closes.row sound row_known

    -- A closed bucket is known to be closed while its cell is noted,
    pub knows_closed : KnowsClosed new at bucket
    knows_closed = record {
      frozen = subst IsFrozen (sym fixed) closes.frozen;
      known = subst (λ (z : RowBlock × ℕ). KnowsRow new (row_address z.1) z.0) (λ i. (sym source_is i, sym fixed i)) row_known;
      settled = inl (ap (λ (row : RowBlock). row.op) source_is ∙ row_plain);
    }

    -- and has the keys of its row.
    pub closed_content : content_keys new (source_row new at bucket) ≡ closes.row.keys
    closed_content = ap (content_keys new) source_is ∙ content_keys-plain new closes.row row_plain
