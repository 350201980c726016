-- An exchange that finds a bucket filled keeps the invariant: that the bucket isn't nil is known, and nothing else is.
use Rattle.std.proofs.Common.{◌≡◌, ℕ, false, not, nat_eq, List, get_or, set, refl, sym, ap, ap₂, ◌∙◌, subst}
use mathlib.Core.Option.{some}
use lib.ListN.{get_elem?}
use base.Growing.{prefix_refl}
use Rattle.std.proofs.lemmas.List.Elements.{All-cons}
use Rattle.set_model.specs.declared.entry.Entry.{Entry}
use Rattle.step_core.specs.Format.{IsNil}
use Rattle.step_core.specs.States.{RoundState}
use Rattle.step_core.specs.declared.published.GenerationBlock.{GenerationBlock}
use Rattle.step_core.specs.declared.views.PassView.{PassView}
use Rattle.step_core.specs.declared.views.RoundFacts.{RoundFacts}
use Rattle.cells.specs.Filling.{MayFill, LosesFill, view_after_lost_fill}
use Rattle.cells.specs.Invariant.{HoldsRound, IsFilled}
use Rattle.cells.specs.Known.{generation_at, bucket_at, IsBucketWord}
use Rattle.cells.specs.Lone.{head_at, head_generation, is_untouched}
use Rattle.cells.specs.Moves.{Moved}
use Rattle.cells.specs.Paid.{wins_of}
use Rattle.cells.specs.Steps.{filled_bucket}
use Rattle.cells.proofs.laws.FoundBucket.{published, word_is}
use Rattle.cells.proofs.laws.Known.{generation_at-known}
use Rattle.cells.proofs.laws.Lone.{is_untouched-more, same_ledger, table_stays}
use Rattle.cells.proofs.laws.LoneBucket.{is_touched}
use Rattle.cells.proofs.laws.Sound.{sound_view}
use Rattle.cells.proofs.parts.NoWord.{load_moved}
use Rattle.cells.proofs.parts.PutView.{Goes}
use Rattle.cells.proofs.parts.StillPaid.{paid_same}

module _ {facts : RoundFacts} {words : List ℕ} {state : RoundState} {history : List Entry} (round : HoldsRound facts words state history)
    (old : PassView) (there : get_elem? state.views old.number ≡ some old) (place at : ℕ) (may : MayFill old place at)
    (some_row : ¬ IsNil (get_or words place 0)) where
  -- the view after an exchange that found the bucket filled
  abbrev lost_view : PassView
  lost_view = view_after_lost_fill place old

  -- where the lookups find the bucket
  lookup_of : (head bucket : ℕ) (generation : GenerationBlock) → IsBucketWord old place head bucket generation
      → (generation_at old.known place ≡ head) × (bucket_at old.known place ≡ bucket)
  lookup_of head bucket generation is = generation_at-known old place head bucket generation (sound_view round old.number old there) is

  -- the bucket isn't nil
  was_filled : IsFilled state.cells (filled_bucket old place)
  was_filled =
      let found = lookup_of may.head may.bucket may.generation may.is_word in
      subst (λ (w : ℕ). ¬ IsNil w) (word_is round old there place may.head may.bucket may.generation may.is_word
      ∙ ap₂ state.cells (sym found.0) (sym found.1)) some_row

  module _ (alone : facts.seats ≡ 1) where
    -- a bucket that isn't nil wasn't untouched
    was_touched : (head bucket : ℕ) (generation : GenerationBlock) → IsBucketWord old place head bucket generation → head ≡ head_at old
        → is_untouched old bucket ≡ false
    was_touched head bucket generation is same =
        let found = lookup_of head bucket generation is in
        is_touched state.head state.blocks state.cells old (round.alone old.number old there alone) place head bucket
        (get_or words place 0) generation found.0 found.1 (published round old there place head bucket generation is) is.within
        (word_is round old there place head bucket generation is) some_row same

    -- so the same buckets are untouched
    same_untouched : (bucket : ℕ) → is_untouched lost_view bucket ≡ is_untouched old bucket
    same_untouched bucket =
        let found = lookup_of may.head may.bucket may.generation may.is_word in
        is_untouched-more (not (nat_eq (head_generation old).predecessor 0)) (filled_bucket old place) old.filled (head_at old) bucket
        (λ same this. subst (λ (k : ℕ). is_untouched old k ≡ false) (sym found.1 ∙ this)
        (was_touched may.head may.bucket may.generation may.is_word (sym found.0 ∙ same)))

  -- the view owes nothing
  goes : Goes facts state.head state.blocks state.cells history (wins_of state.views) old lost_view
  goes =
      let begun = round.past.begun old.number old there in
      record {
        number = refl;
        same_round = refl;
        known = round.fits.known old.number old there;
        filled = All-cons (IsFilled state.cells) (filled_bucket old place) old.filled was_filled (round.filled old.number old there);
        fixed = round.fixed old.number old there;
        grows = prefix_refl old.front;
        front = begun.front;
        heard = begun.heard;
        horizon = begun.horizon;
        mine = refl;
        flight = refl;
        used = refl;
        won = refl;
        paid = paid_same (wins_of state.views) state.head state.cells old lost_view refl refl refl (round.paid old.number old there);
        alone = λ alone. table_stays old lost_view refl refl (same_untouched alone)
            state.head state.blocks state.cells refl (round.alone old.number old there alone);
        hindsight =
            let was = round.hindsight old.number old there in
            record { marks = was.marks; heads = was.heads; nils = was.nils };
        given = round.past.given old.number old there;
      }

  -- so the exchange moves the round
  pub lost_moved : (told : PassView → Type 0) → (LosesFill place old lost_view → told lost_view)
      → Moved facts (set words place (get_or words place 0)) state history old told
  lost_moved told tells = load_moved round old lost_view there goes refl refl refl place told (tells (record {
    view_is = refl;
    alone = λ alone.
        let seats = ap (λ (facts : RoundFacts). facts.seats) (sym (round.fits.numbered old.number old there).same_round) ∙ alone in
        record {
          same = same_ledger old lost_view refl refl (same_untouched seats) refl refl refl;
          filled = λ bucket is. was_touched seats (head_at old) bucket (head_generation old) is refl;
        };
  }))
