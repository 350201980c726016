-- Where marks come from: which rows stand as a word is loaded, and which stood since a load of the head or a nil bucket.
use Rattle.std.proofs.Common.{◌≡◌, ◌≢◌, ◌⊎◌, inl, inr, ⊎_elim, ℕ, ◌<◌, ◌^◌, List, [], ◌∷◌, length, Some, All, sym, ap, ◌∙◌, subst, arith}
use native.Mathlib.Decide.{ℕ_discrete}
use mathlib.Core.List.{IsPrefix}
use base.Growing.{prefix_refl}
use Rattle.std.proofs.lemmas.List.Elements.{All-nil, All-cons, All-head, All-tail}
use Rattle.std.proofs.Math.Nat.{mod-eq_of_lt}
use Rattle.set_model.specs.declared.entry.Entry.{Entry}
use Rattle.step_core.specs.Content.{bucket_of, spot_of}
use Rattle.step_core.specs.Fits.{predecessor_of}
use Rattle.step_core.specs.Format.{IsNil, IsMutable, IsFrozen, row_address}
use Rattle.step_core.specs.Members.{bucket_cell, live_cell}
use Rattle.step_core.specs.States.{RoundState, IsGeneration, IsRow}
use Rattle.step_core.specs.declared.published.Published.TheVariants.{Generation}
use Rattle.step_core.specs.declared.published.GenerationBlock.{GenerationBlock}
use Rattle.step_core.specs.declared.views.HeadLoad.{HeadLoad}
use Rattle.step_core.specs.declared.views.Mark.{Mark}
use Rattle.step_core.specs.declared.views.NilBucket.{NilBucket}
use Rattle.step_core.specs.declared.views.RoundFacts.{RoundFacts}
use Rattle.step_core.proofs.seen.Held.{bucket_cell-there, live_cell-predecessor, live_even, is_held-row}
use Rattle.cells.specs.Hindsight.{bucket_mark, shared_mark, HasStood, StoodInHead, StoodInSources}
use Rattle.cells.specs.Invariant.{HoldsRound}
use Rattle.cells.proofs.laws.Hindsight.{same_fronts}

-- the load isn't one of that head from a front as long
abbrev pub IsOtherLoad : ℕ → List Entry → HeadLoad → Type 0
IsOtherLoad at front load = load.at ≡ at → length load.front ≡ length front → ⊥

module _ {facts : RoundFacts} {words : List ℕ} {state : RoundState} {history : List Entry} (round : HoldsRound facts words state history) where
  -- that a marked row stood
  abbrev pub Stood : Mark → Type 0
  Stood = HasStood facts.keys state.blocks state.cells history

  -- at one address one generation is published
  pub one_generation : (at : ℕ) (one other : GenerationBlock) → IsGeneration state.blocks at one
      → IsGeneration state.blocks at other → one ≡ other
  one_generation at one other here there =
      let both : Some (Generation one) ≡ Some (Generation other) = sym here ∙ there in cc

  module _ (at bucket : ℕ) (generation : GenerationBlock) (here : IsGeneration state.blocks at generation)
      (within : bucket < 2 ^ generation.exponent) where
    -- the bucket's own number finds it
    own_bucket : bucket_of generation.exponent bucket ≡ bucket
    own_bucket = mod-eq_of_lt within

    -- The row that a mutable bucket names has what the set has now.
    pub even_stands : ¬ IsNil (state.cells at bucket) → IsMutable (state.cells at bucket) → (front : List Entry)
        → IsPrefix front history → Stood (bucket_mark (row_address (state.cells at bucket)) front generation.exponent bucket)
    even_stands filled mutable front begins =
        let word : ℕ = state.cells at bucket in
        let home = round.fits.holds.chain.names at generation bucket here
        (subst (λ (b : ℕ). ¬ IsNil (state.cells at b)) (sym own_bucket) filled) in
        let named : IsRow state.blocks (row_address word) home.row =
        subst (λ (b : ℕ). IsRow state.blocks (row_address (state.cells at b)) home.row) own_bucket home.here in
        record {
          row = home.row;
          here = named;
          home = λ key of. ap (λ (e : ℕ). bucket_of e (spot_of key)) home.exponent ∙ of.first ∙ sym (home.bucket ∙ own_bucket);
          past = history;
          further = begins;
          begins = prefix_refl history;
          held = λ key of.
              let live = live_even state.head state.blocks state.cells round.fits.holds.chain at (spot_of key) generation here
              (subst (λ (b : ℕ). ¬ IsNil (state.cells at b)) (sym of.first) filled)
              (subst (λ (b : ℕ). IsMutable (state.cells at b)) (sym of.first) mutable) ∙ ap (state.cells at) of.first in
              sym (is_held-row state.head state.blocks state.cells key word home.row live named) ∙ round.members key;
        }

  -- A generation that is loaded as the head has no frozen bucket yet.
  pub head_stands : (word : ℕ) (generation : GenerationBlock) → word ≡ state.head → IsGeneration state.blocks word generation
      → StoodInHead facts.keys state.blocks state.cells history (record { at = word; front = history })
  head_stands word generation is_head here = record {
    generation = generation;
    here = here;
    begins = prefix_refl history;
    frozen = λ bucket within odd.
        let even : IsMutable (state.cells word bucket) =
        subst (λ (a : ℕ). IsMutable (state.cells a bucket)) (sym is_head) (round.fits.holds.chain.mutable bucket) in
        absurd (omega arith);
  }

  module _ (generation source : GenerationBlock) (here : IsGeneration state.blocks state.head generation)
      (there : IsGeneration state.blocks generation.predecessor source) (bucket : ℕ) (nil : IsNil (state.cells state.head bucket))
      (before : generation.predecessor ≢ state.head) where
    -- where a bucket of the head is nil, a row of the predecessor has what the set has now of the keys of both buckets
    source_stands : (other : ℕ) → other < 2 ^ source.exponent → (front : List Entry) → IsPrefix front history
        → Stood (shared_mark (row_address (state.cells generation.predecessor other)) front generation.exponent bucket source.exponent other)
    source_stands other within front begins =
        let word : ℕ = state.cells generation.predecessor other in
        let own : bucket_of source.exponent other ≡ other = mod-eq_of_lt within in
        let home = round.fits.holds.chain.names generation.predecessor source other there
        (round.fits.holds.chain.filled generation.predecessor source other there (inl before)) in
        let named : IsRow state.blocks (row_address word) home.row =
        subst (λ (b : ℕ). IsRow state.blocks (row_address (state.cells generation.predecessor b)) home.row) own home.here in
        record {
          row = home.row;
          here = named;
          home = λ key of. ap (λ (e : ℕ). bucket_of e (spot_of key)) home.exponent ∙ of.second ∙ sym (home.bucket ∙ own);
          past = history;
          further = begins;
          begins = prefix_refl history;
          held = λ key of.
              let head_cell : bucket_cell state.blocks state.cells state.head (spot_of key) ≡ 0 =
              bucket_cell-there state.head state.blocks state.cells state.head (spot_of key) generation here
              ∙ ap (state.cells state.head) of.first ∙ nil in
              let live : live_cell state.head state.blocks state.cells (spot_of key) ≡ word =
              live_cell-predecessor state.head state.blocks state.cells (spot_of key) head_cell
              ∙ ap (λ (a : ℕ). bucket_cell state.blocks state.cells a (spot_of key)) (ap predecessor_of here)
              ∙ bucket_cell-there state.head state.blocks state.cells generation.predecessor (spot_of key) source there
              ∙ ap (state.cells generation.predecessor) of.second in
              sym (is_held-row state.head state.blocks state.cells key word home.row live named) ∙ round.members key;
        }

  -- The rows of the generation before one with a nil bucket stand, for the keys of that bucket.
  pub nil_stands : (at bucket : ℕ) (generation : GenerationBlock) → IsGeneration state.blocks at generation
      → bucket < 2 ^ generation.exponent → IsNil (state.cells at bucket)
      → StoodInSources facts.keys state.blocks state.cells history (record { at = at; bucket = bucket; front = history })
  nil_stands at bucket generation here within nil =
      let chain = round.fits.holds.chain in
      let own : bucket_of generation.exponent bucket ≡ bucket = mod-eq_of_lt within in
      let nil_there : IsNil (state.cells at (bucket_of generation.exponent bucket)) =
      subst (λ (b : ℕ). IsNil (state.cells at b)) (sym own) nil in
      elim (ℕ_discrete at state.head) [
        | yes same ↦ elim (ℕ_discrete generation.predecessor 0) [
          | yes first ↦ absurd (chain.filled at generation bucket here (inr first) nil_there)
          | no before ↦
              let follows = chain.follows at generation here before in
              record {
                generation = generation;
                here = here;
                source = follows.other;
                there = follows.there;
                begins = prefix_refl history;
                frozen = λ other low odd. source_stands generation follows.other
                    (subst (λ (a : ℕ). IsGeneration state.blocks a generation) same here) follows.there bucket
                    (subst (λ (a : ℕ). IsNil (state.cells a bucket)) same nil) follows.not_head other low history (prefix_refl history);
              }
        ]
        | no other ↦ absurd (chain.filled at generation bucket here (inl other) nil_there)
      ]

  module _ (at bucket : ℕ) (generation : GenerationBlock) (here : IsGeneration state.blocks at generation)
      (within : bucket < 2 ^ generation.exponent) (odd : IsFrozen (state.cells at bucket)) where
    -- The row of a frozen bucket stood since a load of its generation as the head from the front, where the view noted one.
    pub head_stood : (front : List Entry) → IsPrefix front history → (loads : List HeadLoad)
        → All (StoodInHead facts.keys state.blocks state.cells history) loads
        → Stood (bucket_mark (row_address (state.cells at bucket)) front generation.exponent bucket) ⊎ All (IsOtherLoad at front) loads
    head_stood front begins [] stood = inr (All-nil (IsOtherLoad at front))
    head_stood front begins (load ∷ loads) stood =
        let first = All-head (StoodInHead facts.keys state.blocks state.cells history) load loads stood in
        let more : (IsOtherLoad at front load)
        → Stood (bucket_mark (row_address (state.cells at bucket)) front generation.exponent bucket)
        ⊎ All (IsOtherLoad at front) (load ∷ loads) =
        λ differs. ⊎_elim (λ found. inl found) (λ others. inr (All-cons (IsOtherLoad at front) load loads differs others))
        (head_stood front begins loads (All-tail (StoodInHead facts.keys state.blocks state.cells history) load loads stood)) in
        elim (ℕ_discrete load.at at) [
          | yes same ↦ elim (ℕ_discrete (length load.front) (length front)) [
            | yes long ↦
                let fronts : load.front ≡ front = same_fronts load.front front history first.begins begins long in
                let is : first.generation ≡ generation = one_generation at first.generation generation
                (subst (λ (a : ℕ). IsGeneration state.blocks a first.generation) same first.here) here in
                let row : Stood (bucket_mark (row_address (state.cells load.at bucket)) load.front first.generation.exponent bucket) =
                first.frozen bucket (subst (λ (g : GenerationBlock). bucket < 2 ^ g.exponent) (sym is) within)
                (subst (λ (a : ℕ). IsFrozen (state.cells a bucket)) (sym same) odd) in
                inl (subst (λ (z : ℕ × List Entry × GenerationBlock).
                Stood (bucket_mark (row_address (state.cells z.0 bucket)) z.1 z.2.exponent bucket))
                (λ i. (same i, fronts i, is i)) row)
            | no other ↦ more (λ a long. other long)
          ]
          | no apart ↦ more (λ a long. apart a)
        ]

    -- So it did since a bucket of the generation behind it was found nil, for the keys of both.
    pub source_stood : (nil : NilBucket) → (stood : StoodInSources facts.keys state.blocks state.cells history nil)
        → stood.generation.predecessor ≡ at
        → Stood (shared_mark (row_address (state.cells at bucket)) nil.front stood.generation.exponent nil.bucket generation.exponent bucket)
    source_stood nil stood same =
        let is : stood.source ≡ generation = one_generation at stood.source generation
        (subst (λ (a : ℕ). IsGeneration state.blocks a stood.source) same stood.there) here in
        let row : Stood (shared_mark (row_address (state.cells stood.generation.predecessor bucket)) nil.front stood.generation.exponent
        nil.bucket stood.source.exponent bucket) =
        stood.frozen bucket (subst (λ (g : GenerationBlock). bucket < 2 ^ g.exponent) (sym is) within)
        (subst (λ (a : ℕ). IsFrozen (state.cells a bucket)) (sym same) odd) in
        subst (λ (z : ℕ × GenerationBlock). Stood (shared_mark (row_address (state.cells z.0 bucket)) nil.front stood.generation.exponent
        nil.bucket z.1.exponent bucket)) (λ i. (same i, is i)) row
