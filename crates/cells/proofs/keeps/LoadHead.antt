-- A load of the head keeps the invariant: the pass has seen the whole history, and has a turn open on the head.
use Rattle.std.proofs.Common.{◌∷◌, ◌≡◌, ℕ, ◌-◌, List, get_or, refl, sym, ap, ◌∙◌, Some}
use mathlib.Core.Option.{some}
use lib.ListN.{get_elem?}
use base.Growing.{prefix_refl}
use Rattle.std.proofs.lemmas.List.Elements.{All-cons}
use Rattle.atomic_table.specs.Table.{Step as TableStep}
use Rattle.set_model.specs.declared.entry.Entry.{Entry}
use Rattle.step_core.specs.States.{RoundState}
use Rattle.step_core.specs.declared.format.TheConstants.{HEAD}
use Rattle.step_core.specs.declared.kinds.Step.TheVariants.{LoadHead}
use Rattle.step_core.specs.declared.published.Published.TheVariants.{Generation}
use Rattle.step_core.specs.declared.published.GenerationBlock.{GenerationBlock}
use Rattle.step_core.specs.declared.views.PassView.{PassView}
use Rattle.step_core.specs.declared.views.RoundFacts.{RoundFacts}
use Rattle.cells.specs.Known.{known_block}
use Rattle.cells.specs.Hindsight.{StoodInHead}
use Rattle.cells.specs.Invariant.{HoldsRound}
use Rattle.cells.specs.Lone.{head_at, first_generation, head_generation, is_untouched, KnowsTable}
use Rattle.cells.specs.Moves.{Moves, load_head_tells}
use Rattle.cells.specs.Paid.{wins_of}
use Rattle.cells.specs.Steps.{LoadsKnownHead, view_after_load_head}
use Rattle.cells.proofs.laws.Given.{given_published}
use Rattle.cells.proofs.laws.Marking.{head_stands}
use Rattle.cells.proofs.laws.Lone.{generation_in-first, is_untouched-same, same_ledger, table_stays}
use Rattle.cells.proofs.laws.LoneRound.{lone_front}
use Rattle.cells.proofs.laws.Paid.{paid_load_head}
use Rattle.step_core.specs.Fits.{IsPublished}
use Rattle.cells.proofs.parts.PutView.{Goes}
use Rattle.cells.proofs.parts.NoWord.{load_moved}

module _ {facts : RoundFacts} {words : List ℕ} {state : RoundState} {history : List Entry} (round : HoldsRound facts words state history)
    (old : PassView) (there : get_elem? state.views old.number ≡ some old) where
  -- the word that is loaded
  abbrev word : ℕ
  word = get_or words HEAD 0

  -- it names the head
  is_head : word ≡ state.head
  is_head = round.fits.holds.laid.fixed_words.head_shown

  -- the head's generation
  abbrev generation : GenerationBlock
  generation = round.fits.holds.chain.head_there.0

  -- it is published there
  here : state.blocks word ≡ Some (Generation generation)
  here = ap state.blocks is_head ∙ round.fits.holds.chain.head_there.1

  -- the view after the load
  abbrev new : PassView
  new = view_after_load_head word history (wins_of state.views - old.won) generation old

  module _ (alone : facts.seats ≡ 1) where
    -- the table, as the only pass knows it
    table : KnowsTable state.head state.blocks state.cells old
    table = round.alone old.number old there alone

    -- the head is the one that the only pass knows,
    same_head : word ≡ head_at old
    same_head = is_head ∙ sym table.head_is

    -- and so is its generation
    known_generation : generation ≡ head_generation old
    known_generation =
        let both : Some (Generation generation) ≡ Some (Generation (head_generation old)) =
        sym here ∙ ap state.blocks is_head ∙ table.generation in
        cc

    -- which it finds still
    same_generation : head_generation new ≡ head_generation old
    same_generation = generation_in-first word generation (first_generation old.facts) old.known ∙ known_generation

    -- the same buckets are untouched
    same_untouched : (bucket : ℕ) → is_untouched new bucket ≡ is_untouched old bucket
    same_untouched = is_untouched-same old new same_head same_generation refl

    -- the ledger stays
    pub head_ledger : LoadsKnownHead old word generation new
    head_ledger = record {
      head = same_head;
      generation_is = known_generation;
      same = same_ledger old new refl same_generation same_untouched (sym (lone_front round old.number old there alone)) refl refl;
    }

  -- the view owes nothing
  pub head_goes : Goes facts state.head state.blocks state.cells history (wins_of state.views) old new
  head_goes =
      let begun = round.past.begun old.number old there in
      record {
        number = refl;
        same_round = refl;
        known = All-cons (IsPublished state.blocks) (known_block word (Generation generation)) old.known
            here (round.fits.known old.number old there);
        filled = round.filled old.number old there;
        fixed = round.fixed old.number old there;
        grows = begun.front;
        front = prefix_refl history;
        heard = begun.heard;
        horizon = prefix_refl history;
        mine = refl;
        flight = refl;
        used = refl;
        won = refl;
        paid = paid_load_head (wins_of state.views) state.head state.cells old (round.paid old.number old there) word history
            (wins_of state.views - old.won) generation is_head refl;
        alone = λ alone. table_stays old new refl (same_generation alone) (same_untouched alone) state.head state.blocks state.cells
            (same_head alone) (table alone);
        hindsight =
            let was = round.hindsight old.number old there in
            record {
              marks = was.marks;
              heads = All-cons (StoodInHead facts.keys state.blocks state.cells history) (record { at = word; front = history }) old.heads
                  (head_stands round word generation is_head here) was.heads;
              nils = was.nils;
            };
        given = given_published facts.keys history state.blocks (known_block word (Generation generation) ∷ old.known) round.given
            (All-cons (IsPublished state.blocks) (known_block word (Generation generation)) old.known
            here (round.fits.known old.number old there));
      }

-- whatever the round is, the pass may load the head
pub load_head_moves : (facts : RoundFacts) (old : PassView) (step : TableStep ℕ) → Moves facts old LoadHead (load_head_tells old step)
load_head_moves facts old step words state history round there small =
    load_moved round old (new round old there) there (head_goes round old there) refl refl refl HEAD
    (load_head_tells old step (get_or words HEAD 0)) (record {
      history = history;
      seen = wins_of state.views - old.won;
      generation = generation round old there;
      grows = (round.past.begun old.number old there).front;
      view = refl;
      alone = λ alone. head_ledger round old there
          (ap (λ (facts : RoundFacts). facts.seats) (sym (round.fits.numbered old.number old there).same_round) ∙ alone);
    })
