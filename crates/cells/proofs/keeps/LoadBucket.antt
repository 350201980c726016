-- A load of a bucket keeps the invariant: the row that it names is known, and the open turn notes the load or is lost.
use Rattle.std.proofs.Common.{◌≡◌, ℕ, List, ◌∷◌, get_or, set, cond, Bool, true, false, if◌then◌else◌, refl, sym, ap, ap₂, ◌∙◌, subst, arith, Option, All}
use mathlib.Core.List.{IsPrefix}
use mathlib.Core.Option.{some}
use lib.ListN.{get_elem?}
use native.Mathlib.Decide.{ℕ_discrete}
use base.Growing.{prefix_refl}
use Rattle.std.proofs.lemmas.List.Elements.{All-cons}
use Rattle.std.proofs.lemmas.Bool.Decides.{nat_tests}
use Rattle.std.proofs.Math.Nat.{mod-eq_of_lt}
use Rattle.atomic_table.specs.Table.{Step as TableStep}
use Rattle.set_model.specs.declared.entry.Entry.{Entry}
use Rattle.step_core.specs.Fits.{IsPublished}
use Rattle.step_core.specs.Format.{IsNil, IsMutable, row_address}
use Rattle.step_core.specs.States.{RoundState, IsRow}
use Rattle.step_core.specs.declared.kinds.Step.TheVariants.{LoadBucket}
use Rattle.step_core.specs.declared.published.Published.{Published}
use Rattle.step_core.specs.declared.published.Published.TheVariants.{Row}
use Rattle.step_core.specs.declared.published.GenerationBlock.{GenerationBlock}
use Rattle.step_core.specs.declared.published.RowBlock.{RowBlock}
use Rattle.step_core.specs.declared.views.FilledBucket.{FilledBucket}
use Rattle.step_core.specs.declared.views.Known.{Known}
use Rattle.step_core.specs.declared.views.NilBucket.{NilBucket}
use Rattle.step_core.specs.declared.views.PassView.{PassView}
use Rattle.step_core.specs.declared.views.RoundFacts.{RoundFacts}
use Rattle.cells.specs.Hindsight.{HasHindsight, StoodInSources}
use Rattle.cells.specs.Invariant.{HoldsRound, IsFilled}
use Rattle.cells.specs.Known.{known_block, no_row, generation_at, bucket_at, KnowsBucket, IsBucketWord}
use Rattle.cells.specs.Lone.{head_at, head_generation, is_untouched, KnowsTable}
use Rattle.cells.specs.Moves.{Moved, Moves, load_bucket_tells}
use Rattle.cells.specs.Paid.{wins_of}
use Rattle.cells.specs.Sound.{IsSound}
use Rattle.cells.specs.Steps.{LoadsBucket, LoadsKnownBucket, AgreesWithHistory, NamesOwnRow, is_nil, is_frozen, filled_bucket, nil_bucket, view_after_load_bucket}
use Rattle.cells.specs.Past.{KnowsGiven}
use Rattle.cells.proofs.laws.BucketLoads.{is_nil-nil, is_nil-other}
use Rattle.cells.proofs.laws.FoundBucket.{published, word_is, row_there, finds_filled, finds_followed, row_agrees, is_untouched-cases}
use Rattle.cells.proofs.laws.Given.{given_published}
use Rattle.cells.proofs.laws.Known.{generation_at-known}
use Rattle.cells.proofs.laws.Lone.{same_ledger, table_stays}
use Rattle.cells.proofs.laws.LoneBucket.{is_touched, bucket_generation, bucket_untouched}
use Rattle.cells.proofs.laws.LoneRound.{lone_front}
use Rattle.cells.proofs.laws.Paid.{paid_load_bucket}
use Rattle.cells.proofs.laws.Sound.{sound_view}
use Rattle.cells.proofs.keeps.MarkBucket.{Marking, marking, one_bucket}
use Rattle.cells.proofs.laws.Marking.{nil_stands}
use Rattle.cells.proofs.parts.NoWord.{load_moved}
use Rattle.cells.proofs.parts.PutView.{Goes}

-- where the word isn't nil, the row that it names is known with the others
row_known : (blocks : ℕ → Option Published) (word : ℕ) (row : RowBlock) (known : List Known)
    → (¬ IsNil word → IsRow blocks (row_address word) row)
    → All (IsPublished blocks) known
    → All (IsPublished blocks) (if is_nil word then known else known_block (row_address word) (Row row) ∷ known)
row_known blocks word row known there others = elim (ℕ_discrete word 0) [
  | yes nil ↦ let test : is_nil word ≡ true = grind (arith, nat_tests, nil) in
      subst (λ b. All (IsPublished blocks) (cond b known (known_block (row_address word) (Row row) ∷ known))) (sym test) others
  | no some_row ↦ let test : is_nil word ≡ false = grind (arith, nat_tests, some_row) in
      subst (λ b. All (IsPublished blocks) (cond b known (known_block (row_address word) (Row row) ∷ known))) (sym test)
      (All-cons (IsPublished blocks) (known_block (row_address word) (Row row)) known (there some_row) others)
]

-- where the word isn't nil, the bucket is one of those that aren't
filled_known : (cells : ℕ → ℕ → ℕ) (word : ℕ) (bucket : FilledBucket) (full : List FilledBucket) → (¬ IsNil word → IsFilled cells bucket)
    → All (IsFilled cells) full → All (IsFilled cells) (if is_nil word then full else bucket ∷ full)
filled_known cells word bucket full here others = elim (ℕ_discrete word 0) [
  | yes nil ↦ let test : is_nil word ≡ true = grind (arith, nat_tests, nil) in
      subst (λ b. All (IsFilled cells) (cond b full (bucket ∷ full))) (sym test) others
  | no some_row ↦ let test : is_nil word ≡ false = grind (arith, nat_tests, some_row) in
      subst (λ b. All (IsFilled cells) (cond b full (bucket ∷ full))) (sym test)
      (All-cons (IsFilled cells) bucket full (here some_row) others)
]

-- where the word is nil, the bucket is one of those that were found so
nils_known : (Fact : NilBucket → Type 0) (word : ℕ) (bucket : NilBucket) (nils : List NilBucket) → (IsNil word → Fact bucket)
    → All Fact nils → All Fact (if is_nil word then bucket ∷ nils else nils)
nils_known Fact word bucket nils here others = elim (ℕ_discrete word 0) [
  | yes nil ↦ subst (λ b. All Fact (cond b (bucket ∷ nils) nils)) (sym (is_nil-nil word nil)) (All-cons Fact bucket nils (here nil) others)
  | no some_row ↦ subst (λ b. All Fact (cond b (bucket ∷ nils) nils)) (sym (is_nil-other word some_row)) others
]

-- the front is the history or stays
front_grows : (frozen : Bool) (front history : List Entry) → IsPrefix front history → IsPrefix front (if frozen then front else history)
front_grows true front history begins = prefix_refl front
front_grows false front history begins = begins

-- either way it begins the history
front_begins : (frozen : Bool) (front history : List Entry) → IsPrefix front history → IsPrefix (if frozen then front else history) history
front_begins true front history begins = begins
front_begins false front history begins = prefix_refl history

-- a front that is the whole history is the front either way
front_same : (frozen : Bool) (front history : List Entry) → front ≡ history → (if frozen then front else history) ≡ front
front_same true front history whole = refl
front_same false front history whole = sym whole

module _ {facts : RoundFacts} {words : List ℕ} {state : RoundState} {history : List Entry} (round : HoldsRound facts words state history)
    (old : PassView) (there : get_elem? state.views old.number ≡ some old) (place at bucket : ℕ) (generation : GenerationBlock)
    (is : IsBucketWord old place at bucket generation) where
  -- the pass's view is sound
  sound : IsSound old
  sound = sound_view round old.number old there

  -- the word that is loaded
  abbrev found : ℕ
  found = get_or words place 0

  module _ (row : RowBlock) (here : ¬ IsNil found → IsRow state.blocks (row_address found) row) (home : NamesOwnRow old place found row)
      (agrees : AgreesWithHistory old found history row) where
    -- the marks that it leaves
    marks : Marking round old there place at bucket generation is row
    marks = marking round old there place at bucket generation is row

    -- the view after the load
    abbrev new_view : PassView
    new_view = view_after_load_bucket place found history row marks.marks old

    -- where the lookups find the bucket
    lookup : (generation_at old.known place ≡ at) × (bucket_at old.known place ≡ bucket)
    lookup = generation_at-known old place at bucket generation sound is

    module _ (alone : facts.seats ≡ 1) where
      -- the table, as the only pass knows it
      table : KnowsTable state.head state.blocks state.cells old
      table = round.alone old.number old there alone

      -- its generation is found still,
      same_generation : head_generation new_view ≡ head_generation old
      same_generation = bucket_generation state.head state.blocks state.cells old table place at bucket found generation lookup.0 lookup.1
          (published round old there place at bucket generation is) is.within
          (word_is round old there place at bucket generation is) history row marks.marks here

      -- and the same buckets are untouched
      same_untouched : (b : ℕ) → is_untouched new_view b ≡ is_untouched old b
      same_untouched = bucket_untouched state.head state.blocks state.cells old table place at bucket found generation lookup.0 lookup.1
          (published round old there place at bucket generation is) is.within
          (word_is round old there place at bucket generation is) history row marks.marks here

      -- the front is the whole history before and after
      same_front : new_view.front ≡ old.front
      same_front = front_same (is_frozen found) old.front history (lone_front round old.number old there alone)

      -- a bucket of the head is nil exactly where the ledger says so
      nil_is : (b : ℕ) → IsBucketWord old place (head_at old) b (head_generation old) → is_nil found ≡ is_untouched old b
      nil_is b head = elim (ℕ_discrete found 0) [
        | yes nil ↦ is_nil-nil found nil ∙ sym (is_untouched-cases old b
            (λ reason. finds_filled round old there place (head_at old) b (head_generation old) head reason nil))
        | no filled ↦ is_nil-other found filled
            ∙ sym (is_touched state.head state.blocks state.cells old table place (head_at old) b found (head_generation old)
            (generation_at-known old place (head_at old) b (head_generation old) sound head).0
            (generation_at-known old place (head_at old) b (head_generation old) sound head).1
            (published round old there place (head_at old) b (head_generation old) head) head.within
            (word_is round old there place (head_at old) b (head_generation old) head) filled refl)
      ]

      -- and the ledger stays
      loads_known : LoadsKnownBucket place old found new_view
      loads_known = record {
        same = same_ledger old new_view refl same_generation same_untouched same_front refl refl;
        mutable = λ b head. subst (λ (w : ℕ). IsMutable w)
            (sym (word_is round old there place (head_at old) b (head_generation old) head
            ∙ ap (λ (a : ℕ). state.cells a b) table.head_is))
            (round.fits.holds.chain.mutable b);
        nil = nil_is;
      }

    -- the row's keys are given by the history
    given_now : KnowsGiven facts.keys old.number new_view
    given_now = given_published facts.keys history state.blocks new_view.known round.given
        (row_known state.blocks found row old.known here (round.fits.known old.number old there))

    -- what the view noted is so
    noted : HasHindsight facts.keys state.blocks state.cells history old.number new_view
    noted =
        let was = round.hindsight old.number old there in
        record {
          marks = marks.stood;
          heads = was.heads;
          nils = nils_known (StoodInSources facts.keys state.blocks state.cells history) found (nil_bucket old place history) old.nils
              (λ nil. subst (StoodInSources facts.keys state.blocks state.cells history)
              (ap₂ (λ (at bucket : ℕ). record { at = at; bucket = bucket; front = history }) (sym lookup.0) (sym lookup.1))
              (nil_stands round at bucket generation (published round old there place at bucket generation is) is.within
              (sym (word_is round old there place at bucket generation is) ∙ nil))) was.nils;
        }

    -- the view owes nothing
    goes : Goes facts state.head state.blocks state.cells history (wins_of state.views) old new_view
    goes =
        let begun = round.past.begun old.number old there in
        let filled_is : found ≡ state.cells (generation_at old.known place) (bucket_at old.known place) =
        word_is round old there place at bucket generation is ∙ ap₂ state.cells (sym lookup.0) (sym lookup.1) in
        record {
          number = refl;
          same_round = refl;
          known = row_known state.blocks found row old.known here (round.fits.known old.number old there);
          fixed = round.fixed old.number old there;
          filled = filled_known state.cells found (filled_bucket old place) old.filled
              (λ some_row. subst (λ (w : ℕ). ¬ IsNil w) filled_is some_row) (round.filled old.number old there);
          grows = front_grows (is_frozen found) old.front history begun.front;
          front = front_begins (is_frozen found) old.front history begun.front;
          heard = begun.heard;
          horizon = prefix_refl history;
          mine = refl;
          flight = refl;
          used = refl;
          won = refl;
          paid = paid_load_bucket (wins_of state.views) state.head state.cells old (round.paid old.number old there)
              place at bucket found lookup.0 lookup.1 (word_is round old there place at bucket generation is)
              round.fits.holds.chain.mutable history row marks.marks;
          alone = λ alone. table_stays old new_view refl (same_generation alone) (same_untouched alone)
              state.head state.blocks state.cells refl (table alone);
          hindsight = noted;
          given = given_now;
        }

    -- so the load moves the round, whichever row this is
    moved : Moved facts (set words place found) state history old (LoadsBucket place old found)
    moved = load_moved round old new_view there goes refl refl refl place (LoadsBucket place old found) (record {
      history = history;
      row = row;
      grows = (round.past.begun old.number old there).front;
      home = home;
      filled = λ other other_bucket g too reason. finds_filled round old there place other other_bucket g too reason;
      followed = λ other other_bucket g too later newer known behind.
          finds_followed round old there place other other_bucket g too later newer known behind;
      marks = marks.marks;
      agrees = agrees;
      marked = marks.marked;
      view = refl;
      alone = λ alone. loads_known
          (ap (λ (facts : RoundFacts). facts.seats) (sym (round.fits.numbered old.number old there).same_round) ∙ alone);
    })

  -- the row is at home whichever way the place is seen
  pub row_home : (row : RowBlock) → row.exponent ≡ generation.exponent → row.bucket ≡ bucket → NamesOwnRow old place found row
  row_home row exponent number other other_bucket other_generation too some_row =
      let same = one_bucket old place at bucket other other_bucket generation other_generation sound is too in
      (exponent ∙ ap (λ (g : GenerationBlock). g.exponent) same.0, number ∙ same.1)

  -- where the bucket is nil no row is known, and else that which it names
  all_moved : Moved facts (set words place found) state history old (LoadsBucket place old found)
  all_moved = elim (ℕ_discrete found 0) [
    | yes nil ↦ moved no_row (λ some_row. absurd (some_row nil)) (λ other b g too some_row. absurd (some_row nil))
        (λ some_row even none key class. absurd (some_row nil))
    | no some_row ↦ let row = row_there round old there place at bucket generation is some_row in
        let number : row.row.bucket ≡ bucket = row.bucket ∙ mod-eq_of_lt is.within in
        moved row.row (λ other. row.here) (row_home row.row row.exponent number)
        (row_agrees round old there place at bucket generation is row.row (λ other. row.here) row.exponent number)
  ]

-- whatever the round is, the pass may load a bucket word of a generation that it knows
pub load_bucket_moves : (facts : RoundFacts) (old : PassView) (step : TableStep ℕ) → KnowsBucket old step.word
    → Moves facts old (LoadBucket step.word) (load_bucket_tells old step)
load_bucket_moves facts old step knows words state history round there small =
    all_moved round old there step.word knows.0 knows.1 knows.2 knows.3
