-- What stands after a freeze of a bucket: the bucket isn't the head's, its word is odd and names the row that it did.
use Rattle.std.proofs.Common.{◌≡◌, ◌≢◌, inl, inr, ⊎_elim, ℕ, ◌^◌, ◌<◌, List, length, get_or, set, All, sym, ap, ap₂, ◌∙◌, subst, length-set}
use mathlib.Core.List.{IsPrefix}
use mathlib.Core.Option.{some}
use lib.ListN.{get_elem?}
use base.Growing.{prefix_refl}
use Rattle.std.proofs.lemmas.List.Elements.{All-weaker}
use Rattle.std.proofs.Math.Nat.{mod-eq_of_lt}
use Rattle.set_model.specs.declared.entry.Entry.{Entry}
use Rattle.arena.specs.Moves.{with_cell, with_view}
use Rattle.arena.proofs.keeps.Cell.{cell_keeps}
use Rattle.arena.proofs.keeps.View.{view_keeps}
use Rattle.arena.proofs.laws.Hands.{KeepsFronts-refl}
use Rattle.step_core.specs.Content.{bucket_of}
use Rattle.step_core.specs.Fits.{IsAtHome}
use Rattle.step_core.specs.Format.{IsNil, IsMutable, IsFrozen, row_address, frozen_word, sealed_words, open_words}
use Rattle.step_core.specs.States.{RoundState, AreLaidOut, IsGeneration, hands_of}
use Rattle.step_core.specs.declared.published.Published.TheVariants.{Generation}
use Rattle.step_core.specs.declared.published.GenerationBlock.{GenerationBlock}
use Rattle.step_core.specs.declared.published.RowBlock.{RowBlock}
use Rattle.step_core.specs.declared.views.FilledBucket.{FilledBucket}
use Rattle.step_core.specs.declared.views.FixedCell.{FixedCell}
use Rattle.step_core.specs.declared.views.PassView.{PassView}
use Rattle.step_core.specs.declared.views.RoundFacts.{RoundFacts}
use Rattle.step_core.proofs.changes.Frozen.{Freezes, with_frozen, bucket_frozen, frozen_cases, row_same, frozen_stays, still_filled, chain_frozen, announces_frozen, ops_same, members_frozen}
use Rattle.step_core.proofs.changes.Held.{content_same}
use Rattle.step_core.proofs.seen.FrozenWord.{frozen_odd}
use Rattle.cells.specs.Freezing.{MayFreeze, frozen_cell, view_after_freeze}
use Rattle.cells.specs.Hindsight.{bucket_mark, HasStood}
use Rattle.cells.specs.Invariant.{HoldsRound, IsFilled, IsFrozenCell}
use Rattle.cells.specs.Known.{generation_at, bucket_at}
use Rattle.cells.proofs.laws.BucketLoads.{odd_or_even}
use Rattle.cells.proofs.laws.FoundBucket.{published, word_is, row_there, followed_before, finds_followed}
use Rattle.cells.proofs.laws.Hindsight.{KeepsRows, KeepsStanding, stood_stays}
use Rattle.cells.proofs.laws.Known.{generation_at-known}
use Rattle.cells.proofs.laws.Marking.{even_stands}
use Rattle.cells.proofs.laws.Sound.{sound_view}
use Rattle.cells.proofs.parts.PutState.{Stands}

-- a freeze that a pass may make, in a round of which the invariant holds
pub record MadeFreeze (facts : RoundFacts) (words : List ℕ) (state : RoundState) (history : List Entry) : Type 0 where
  pub round : HoldsRound facts words state history
  pub old : PassView
  pub there : get_elem? state.views old.number ≡ some old
  pub place : ℕ
  pub may : MayFreeze old place

module _ {facts : RoundFacts} {words : List ℕ} {state : RoundState} {history : List Entry} (s : MadeFreeze facts words state history) where
  -- its fields
  abbrev round : HoldsRound facts words state history
  round = s.round

  abbrev old : PassView
  old = s.old

  abbrev there : get_elem? state.views old.number ≡ some old
  there = s.there

  abbrev place : ℕ
  place = s.place

  abbrev may : MayFreeze old place
  may = s.may

  -- the word that the bucket had
  abbrev pub found : ℕ
  found = get_or words place 0

  -- where the lookups find the bucket
  pub lookup : (generation_at old.known place ≡ may.at) × (bucket_at old.known place ≡ may.bucket)
  lookup = generation_at-known old place may.at may.bucket may.generation (sound_view round old.number old there) may.is_word

  -- the generation is published,
  pub here : IsGeneration state.blocks may.at may.generation
  here = published round old there place may.at may.bucket may.generation may.is_word

  -- and the cell has the word
  pub shown : found ≡ state.cells may.at may.bucket
  shown = word_is round old there place may.at may.bucket may.generation may.is_word

  -- the bucket isn't one of the head
  pub freezes : Freezes state.head state.blocks may.at may.bucket may.generation
  freezes = record {
    here = here;
    not_head = followed_before round old there place may.at may.bucket may.generation may.is_word may.later may.newer may.known may.follows;
    spot = mod-eq_of_lt may.is_word.within;
  }

  -- so it isn't nil,
  pub some_row : ¬ IsNil found
  some_row = finds_followed round old there place may.at may.bucket may.generation may.is_word may.later may.newer may.known may.follows

  -- and names a row of its own
  pub home : IsAtHome state.blocks (row_address found) may.generation may.bucket
  home = row_there round old there place may.at may.bucket may.generation may.is_word some_row

  abbrev pub row : RowBlock
  row = home.row

  -- the view and the state after the freeze
  abbrev pub new_view : PassView
  new_view = view_after_freeze place found history row old

  abbrev pub new_cells : ℕ → ℕ → ℕ
  new_cells = with_frozen freezes state.cells

  abbrev pub after : RoundState
  after = with_cell (with_view state old.number new_view) may.at may.bucket (frozen_word (state.cells may.at may.bucket))

  abbrev pub new_words : List ℕ
  new_words = set words place (frozen_word found)

  -- the words show the state
  laid : AreLaidOut (length words) facts.seats new_words after
  laid = subst (λ (z : ℕ × ℕ). AreLaidOut (length words) facts.seats (set words z.0 (frozen_word z.1)) after)
      (λ i. (sym may.is_word.here i, sym shown i))
      (cell_keeps sealed_words open_words hands_of
      (view_keeps sealed_words open_words hands_of round.fits.holds.laid old.number new_view
      (record { old = old; is_view = there; fronts = KeepsFronts-refl new_view.hands }))
      may.at may.bucket (frozen_word (state.cells may.at may.bucket)) (Generation may.generation) here may.is_word.within)

  -- what the invariant says without a view
  pub stands : Stands facts new_words after history
  stands = record {
    size = length-set words place (frozen_word found) ∙ round.fits.size;
    holds = record {
      laid = subst (λ (cap : ℕ). AreLaidOut cap facts.seats new_words after) (sym (length-set words place (frozen_word found))) laid;
      chain = chain_frozen freezes state.cells round.fits.holds.chain;
      homes = round.fits.holds.homes;
    };
    announces = announces_frozen freezes state.cells facts.seats state.announced round.fits.announces;
    given = round.given;
    members = members_frozen freezes state.cells facts.keys history round.members;
    legal = round.past.legal;
    who = round.past.who;
    ordered = round.past.ordered;
    no_op = round.no_op;
  }

  -- a bucket that was filled is so
  pub buckets_stay : (filled : List FilledBucket) → All (IsFilled state.cells) filled → All (IsFilled new_cells) filled
  buckets_stay = All-weaker (IsFilled state.cells) (IsFilled new_cells)
      (λ full some_word. still_filled freezes state.cells full.at full.bucket some_word)

  -- a frozen cell has the word that it had
  pub fixed_stay : (fixed : List FixedCell) → All (IsFrozenCell state.blocks state.cells) fixed
      → All (IsFrozenCell state.blocks new_cells) fixed
  fixed_stay = All-weaker (IsFrozenCell state.blocks state.cells) (IsFrozenCell state.blocks new_cells)
      (λ cell was. record {
        generation = was.generation;
        here = was.here;
        within = was.within;
        frozen = was.frozen;
        word = frozen_stays freezes state.cells cell.at cell.place (subst IsFrozen (sym was.word) was.frozen) ∙ was.word;
      })

  -- and the bucket's is frozen, as it stands from now on
  pub cell_frozen : IsFrozenCell state.blocks new_cells (frozen_cell old place found)
  cell_frozen = record {
    generation = may.generation;
    here = subst (λ (a : ℕ). IsGeneration state.blocks a may.generation) (sym lookup.0) here;
    within = subst (λ (b : ℕ). b < 2 ^ may.generation.exponent) (sym lookup.1) may.is_word.within;
    frozen = frozen_odd found;
    word = ap₂ new_cells lookup.0 lookup.1 ∙ bucket_frozen freezes state.cells ∙ ap frozen_word (sym shown);
  }

  -- rows have what they had
  keeps_rows : KeepsRows state.blocks state.cells history state.blocks new_cells history
  keeps_rows = record {
    rows = λ from other is. is;
    contents = λ from other key is. content_same (ops_same freezes state.cells) other key;
    grows = prefix_refl history;
  }

  -- a mutable bucket of a generation that isn't the head names a row that stands still, once it is frozen
  frozen_stands : (from k : ℕ) (other : GenerationBlock) → IsGeneration state.blocks from other → k < 2 ^ other.exponent
      → from ≢ state.head → IsMutable (state.cells from k) → (front : List Entry) → IsPrefix front history
      → HasStood facts.keys state.blocks new_cells history (bucket_mark (row_address (new_cells from k)) front other.exponent k)
  frozen_stands from k other is within apart even front begins =
      let own : bucket_of other.exponent k ≡ k = mod-eq_of_lt within in
      let filled : ¬ IsNil (state.cells from k) =
      subst (λ (b : ℕ). ¬ IsNil (state.cells from b)) own (round.fits.holds.chain.filled from other k is (inl apart)) in
      subst (λ (address : ℕ). HasStood facts.keys state.blocks new_cells history (bucket_mark address front other.exponent k))
      (sym (row_same freezes state.cells from k))
      (stood_stays keeps_rows facts.keys (bucket_mark (row_address (state.cells from k)) front other.exponent k)
      (even_stands round from k other is within filled even front begins))

  -- What stood has stood.
  pub standing : KeepsStanding facts.keys state.blocks state.cells history state.blocks new_cells history
  standing = record {
    rows = keeps_rows.rows;
    generations = λ from other is. is;
    contents = keeps_rows.contents;
    grows = keeps_rows.grows;
    frozen = λ from other k is within odd. ⊎_elim
        (λ (touched : (from ≡ may.at) × (k ≡ may.bucket) × (new_cells from k ≡ frozen_word (state.cells from k))). ⊎_elim
        (λ (was : IsFrozen (state.cells from k)). inl (frozen_stays freezes state.cells from k was))
        (λ (even : IsMutable (state.cells from k)). inr
        (frozen_stands from k other is within (λ head. freezes.not_head (sym touched.0 ∙ head)) even))
        (odd_or_even (state.cells from k)))
        (λ (kept : new_cells from k ≡ state.cells from k). inl kept)
        (frozen_cases freezes state.cells from k);
  }
