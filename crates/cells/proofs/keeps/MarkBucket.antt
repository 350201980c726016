-- Which rows a load of a bucket marks: that of a mutable bucket, and that of a frozen one where the view noted its generation as the
-- head, or a bucket behind it as nil.
use Rattle.std.proofs.Common.{◌≡◌, ⊎_elim, ℕ, List, [], ◌∷◌, get_or, cond, Bool, All, refl, sym, ap, ◌∙◌, subst, arith}
use mathlib.Core.Option.{some}
use lib.ListN.{get_elem?}
use native.Mathlib.Decide.{ℕ_discrete}
use base.Growing.{prefix_refl}
use Rattle.std.proofs.lemmas.List.Elements.{All-cons, All-contains, All-head}
use Rattle.set_model.specs.declared.entry.Entry.{Entry}
use Rattle.step_core.specs.Content.{InClass}
use Rattle.step_core.specs.Fits.{IsPublished}
use Rattle.step_core.specs.Format.{IsNil, IsMutable, IsFrozen, row_address}
use Rattle.step_core.specs.States.{RoundState, IsGeneration}
use Rattle.step_core.specs.declared.published.Published.TheVariants.{Generation}
use Rattle.step_core.specs.declared.published.GenerationBlock.{GenerationBlock}
use Rattle.step_core.specs.declared.published.RowBlock.{RowBlock}
use Rattle.step_core.specs.declared.views.Mark.{Mark}
use Rattle.step_core.specs.declared.views.NilBucket.{NilBucket}
use Rattle.step_core.specs.declared.views.PassView.{PassView}
use Rattle.step_core.specs.declared.views.RoundFacts.{RoundFacts}
use Rattle.cells.specs.Hindsight.{bucket_mark, shared_mark, HasStood, StoodInSources}
use Rattle.cells.specs.Invariant.{HoldsRound}
use Rattle.cells.specs.Known.{known_block, KnowsBlock, KnowsGeneration, IsBucketWord}
use Rattle.cells.specs.Marks.{IsMarkedFor, IsHeadNow, IsNilNow}
use Rattle.cells.specs.Sound.{IsSound}
use Rattle.cells.specs.Steps.{MarksRow, view_after_load_bucket}
use Rattle.cells.proofs.laws.BucketLoads.{odd_or_even, is_frozen-frozen, is_frozen-mutable}
use Rattle.cells.proofs.laws.FoundBucket.{published, word_is}
use Rattle.cells.proofs.laws.Hindsight.{in_only_bucket}
use Rattle.cells.proofs.laws.Known.{generation_at-known}
use Rattle.cells.proofs.laws.Marking.{IsOtherLoad, one_generation, even_stands, head_stood, source_stood}
use Rattle.cells.proofs.laws.Sound.{sound_view}

-- a place is the word of one bucket of one known generation
pub one_bucket : (view : PassView) (place at bucket other other_bucket : ℕ) (generation other_generation : GenerationBlock) → IsSound view
    → IsBucketWord view place at bucket generation → IsBucketWord view place other other_bucket other_generation
    → (generation ≡ other_generation) × (bucket ≡ other_bucket)
one_bucket view place at bucket other other_bucket generation other_generation sound one two =
    let first = generation_at-known view place at bucket generation sound one in
    let second = generation_at-known view place other other_bucket other_generation sound two in
    let same : at ≡ other = sym first.0 ∙ second.0 in
    let blocks : Generation generation ≡ Generation other_generation =
    sound.one other (Generation generation) (Generation other_generation)
    (subst (λ (a : ℕ). KnowsBlock view a (Generation generation)) same one.known) two.known in
    (cc, sym first.1 ∙ second.1)

module _ {facts : RoundFacts} {words : List ℕ} {state : RoundState} {history : List Entry} (round : HoldsRound facts words state history)
    (old : PassView) (there : get_elem? state.views old.number ≡ some old) (place at bucket : ℕ) (generation : GenerationBlock)
    (is : IsBucketWord old place at bucket generation) (row : RowBlock) where
  -- the word that is loaded
  abbrev word : ℕ
  word = get_or words place 0

  -- the view after the load with these marks
  abbrev pub marked_view : List Mark → PassView
  marked_view marks = view_after_load_bucket place word history row marks old

  -- that a marked row stood
  abbrev pub Stood : Mark → Type 0
  Stood = HasStood facts.keys state.blocks state.cells history

  -- marks that the load may leave
  pub record Marking : Type 0 where
    pub marks : List Mark
    pub stood : All Stood marks
    pub marked : MarksRow place old word (marked_view marks)

  -- the pass's view is sound
  sound : IsSound old
  sound = sound_view round old.number old there

  -- the generation is published, and its cell has the word
  here : IsGeneration state.blocks at generation
  here = published round old there place at bucket generation is

  shown : word ≡ state.cells at bucket
  shown = word_is round old there place at bucket generation is

  -- the marks that the view had stood
  before : All Stood old.marks
  before = (round.hindsight old.number old there).marks

  -- whichever way the place is seen, a key of the bucket is
  same_class : (other other_bucket : ℕ) (g : GenerationBlock) → IsBucketWord old place other other_bucket g → (key : ℕ)
      → InClass g.exponent other_bucket key → InClass generation.exponent bucket key
  same_class other other_bucket g too key class =
      let same = one_bucket old place at bucket other other_bucket generation g sound is too in
      subst (λ (z : GenerationBlock × ℕ). InClass z.0.exponent z.1 key) (λ i. (sym same.0 i, sym same.1 i)) class

  -- and the generation is one
  same_at : (other other_bucket : ℕ) (g : GenerationBlock) → IsBucketWord old place other other_bucket g → other ≡ at
  same_at other other_bucket g too =
      sym (generation_at-known old place other other_bucket g sound too).0
      ∙ (generation_at-known old place at bucket generation sound is).0

  -- a nil bucket names no row to mark
  nil_marking : IsNil word → Marking
  nil_marking nil = record {
    marks = old.marks;
    stood = before;
    marked = record {
      mutable = λ other b g too some_row. absurd (some_row nil);
      head = λ other b g too odd. absurd (omega arith);
      source = λ other b g too odd. absurd (omega arith);
    };
  }

  module _ (mutable : IsMutable word) (some_row : ¬ IsNil word) where
    -- the mark on the row of a mutable bucket
    abbrev even_mark : Mark
    even_mark = bucket_mark (row_address word) history generation.exponent bucket

    -- it stands
    even_stood : Stood even_mark
    even_stood = subst (λ (w : ℕ). Stood (bucket_mark (row_address w) history generation.exponent bucket)) (sym shown)
        (even_stands round at bucket generation here is.within (subst (λ (w : ℕ). ¬ IsNil w) shown some_row)
        (subst IsMutable shown mutable) history (prefix_refl history))

    even_marking : Marking
    even_marking = record {
      marks = even_mark ∷ old.marks;
      stood = All-cons Stood even_mark old.marks even_stood before;
      marked = record {
        mutable = λ other b g too filled even key class. record {
          mark = even_mark;
          others = old.marks;
          latest = refl;
          row = refl;
          now = sym (ap (λ (frozen : Bool). cond frozen old.front history) (is_frozen-mutable word mutable));
          of_key = record { first = same_class other b g too key class; second = in_only_bucket key };
        };
        head = λ other b g too odd. absurd (omega arith);
        source = λ other b g too odd. absurd (omega arith);
      };
    }

  module _ (odd : IsFrozen word) where
    -- the cell is as odd
    odd_there : IsFrozen (state.cells at bucket)
    odd_there = subst IsFrozen shown odd

    -- the front stays
    front_stays : (marks : List Mark) → old.front ≡ (marked_view marks).front
    front_stays marks = sym (ap (λ (frozen : Bool). cond frozen old.front history) (is_frozen-frozen word odd))

    -- the mark from a load of the generation as the head
    abbrev head_mark : Mark
    head_mark = bucket_mark (row_address word) old.front generation.exponent bucket

    -- with it the row is marked for all keys of the bucket
    by_head : (other b : ℕ) (g : GenerationBlock) → IsBucketWord old place other b g → (key : ℕ) → InClass g.exponent b key
        → IsMarkedFor (marked_view (head_mark ∷ old.marks)) (row_address word) key
    by_head other b g too key class = record {
      mark = head_mark;
      others = old.marks;
      latest = refl;
      row = refl;
      now = front_stays (head_mark ∷ old.marks);
      of_key = record { first = same_class other b g too key class; second = in_only_bucket key };
    }

    head_marking : Stood (bucket_mark (row_address (state.cells at bucket)) old.front generation.exponent bucket) → Marking
    head_marking stood = record {
      marks = head_mark ∷ old.marks;
      stood = All-cons Stood head_mark old.marks
          (subst (λ (w : ℕ). Stood (bucket_mark (row_address w) old.front generation.exponent bucket)) (sym shown) stood) before;
      marked = record {
        mutable = λ other b g too filled even. absurd (omega arith);
        head = λ other b g too frozen now. by_head other b g too;
        source = λ other b g too frozen later nil newer known behind now key shared class. by_head other b g too key class;
      };
    }

    module _ (others : All (IsOtherLoad at old.front) old.heads) where
      -- the head wasn't loaded from the front of now
      no_head : (other b : ℕ) (g : GenerationBlock) → IsBucketWord old place other b g → IsHeadNow old other → ⊥
      no_head other b g too now =
          All-contains (IsOtherLoad at old.front) old.heads (record { at = other; front = old.front }) others now (same_at other b g too) refl

      -- without a note of a nil bucket behind the generation no row is marked
      unmarked : ((later nil : ℕ) (newer : GenerationBlock) → KnowsGeneration old later newer → newer.predecessor ≡ at
          → IsNilNow old later nil → ⊥) → Marking
      unmarked none = record {
        marks = old.marks;
        stood = before;
        marked = record {
          mutable = λ other b g too filled even. absurd (omega arith);
          head = λ other b g too frozen now. absurd (no_head other b g too now);
          source = λ other b g too frozen later nil newer known behind now. absurd (none later nil newer known (behind ∙ same_at other b g too) now);
        };
      }

      module _ (nil : NilBucket) (stood : StoodInSources facts.keys state.blocks state.cells history nil) where
        -- the mark from the note of a nil bucket
        abbrev nil_mark : Mark
        nil_mark = shared_mark (row_address word) nil.front stood.generation.exponent nil.bucket generation.exponent bucket

        -- the generation that the view knows there is the note's
        newer_is : (later bucket : ℕ) (newer : GenerationBlock) → KnowsGeneration old later newer
            → nil ≡ record { at = later; bucket = bucket; front = old.front } → newer ≡ stood.generation
        newer_is later bucket newer known same =
            one_generation round later newer stood.generation
            (All-contains (IsPublished state.blocks) old.known (known_block later (Generation newer))
            (round.fits.known old.number old there) known)
            (subst (λ (a : ℕ). IsGeneration state.blocks a stood.generation) (ap (λ (n : NilBucket). n.at) same) stood.here)

        source_marking : stood.generation.predecessor ≡ at
            → ((later bucket : ℕ) → IsNilNow old later bucket → nil ≡ record { at = later; bucket = bucket; front = old.front }) → Marking
        source_marking behind latest = record {
          marks = nil_mark ∷ old.marks;
          stood = All-cons Stood nil_mark old.marks
              (subst (λ (w : ℕ). Stood (shared_mark (row_address w) nil.front stood.generation.exponent nil.bucket generation.exponent bucket))
              (sym shown) (source_stood round at bucket generation here is.within odd_there nil stood behind)) before;
          marked = record {
            mutable = λ other b g too filled even. absurd (omega arith);
            head = λ other b g too frozen now. absurd (no_head other b g too now);
            source = λ other b g too frozen later nb newer known after now key shared class.
                let same = latest later nb now in
                let is_newer = newer_is later nb newer known same in
                record {
                  mark = nil_mark;
                  others = old.marks;
                  latest = refl;
                  row = refl;
                  now = ap (λ (n : NilBucket). n.front) same ∙ front_stays (nil_mark ∷ old.marks);
                  of_key = record {
                    first = subst (λ (z : ℕ × ℕ). InClass z.0 z.1 key)
                        (λ i. ((is_newer i).exponent, (sym same i).bucket)) shared;
                    second = same_class other b g too key class;
                  };
                };
          };
        }

      -- the latest note of a nil bucket decides
      by_notes : (nils : List NilBucket) → old.nils ≡ nils → All (StoodInSources facts.keys state.blocks state.cells history) nils → Marking
      by_notes [] none stood = unmarked (λ later nil newer known behind now. let clash = sym none ∙ now.1 in absurd (cc))
      by_notes (nil ∷ nils) is_list stood =
          let first = All-head (StoodInSources facts.keys state.blocks state.cells history) nil nils stood in
          let latest : (later bucket : ℕ) → IsNilNow old later bucket → nil ≡ record { at = later; bucket = bucket; front = old.front } =
          λ later bucket now. let both = sym is_list ∙ now.1 in cc in
          elim (ℕ_discrete first.generation.predecessor at) [
            | yes behind ↦ source_marking nil first behind latest
            | no apart ↦ unmarked (λ later nb newer known after now.
                apart (ap (λ (g : GenerationBlock). g.predecessor) (sym (newer_is nil first later nb newer known (latest later nb now))) ∙ after))
          ]

    -- so the marks of a frozen bucket are chosen
    odd_marking : Marking
    odd_marking = ⊎_elim head_marking (λ others. by_notes others old.nils refl (round.hindsight old.number old there).nils)
        (head_stood round at bucket generation here is.within odd_there old.front (round.past.begun old.number old there).front old.heads
        (round.hindsight old.number old there).heads)

  -- The load may leave these marks.
  pub marking : Marking
  marking = elim (ℕ_discrete word 0) [
    | yes nil ↦ nil_marking nil
    | no some_row ↦ ⊎_elim odd_marking (λ even. even_marking even some_row) (odd_or_even word)
  ]
