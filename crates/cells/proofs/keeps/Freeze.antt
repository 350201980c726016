-- The freeze of a bucket keeps the invariant: the set stays as it was, and each turn that it may lose was overtaken already.
use Rattle.std.proofs.Common.{◌≡◌, ◌≢◌, ℕ, ◌^◌, true, List, [], ◌∷◌, ◌++◌, refl, sym, ap, ◌∙◌, subst, arith, All}
use mathlib.Core.Option.{some}
use lib.ListN.{get_elem?}
use base.Growing.{prefix_refl}
use Rattle.std.proofs.lemmas.List.Elements.{All-nil, All-cons}
use Rattle.std.proofs.lemmas.Nat.{mod_below, pow_pos}
use Rattle.std.proofs.Math.Nat.{mod-eq_of_lt}
use Rattle.atomic_table.specs.Table.{Step as TableStep}
use Rattle.set_model.specs.History.{members_after}
use Rattle.set_model.specs.Keys.{is_in}
use Rattle.set_model.specs.declared.entry.Entry.{Entry}
use Rattle.step_core.specs.Buckets.{key_bucket}
use Rattle.step_core.specs.Content.{spot_of, InClass}
use Rattle.step_core.specs.Fits.{IsPublished, predecessor_of}
use Rattle.step_core.specs.Format.{row_address}
use Rattle.step_core.specs.Members.{bucket_cell, live_cell}
use Rattle.step_core.specs.States.{RoundState, IsGeneration}
use Rattle.step_core.specs.declared.kinds.Step.TheVariants.{Freeze}
use Rattle.step_core.specs.declared.published.Published.TheVariants.{Row}
use Rattle.step_core.specs.declared.published.GenerationBlock.{GenerationBlock}
use Rattle.step_core.specs.declared.views.PassView.{PassView}
use Rattle.step_core.specs.declared.views.RoundFacts.{RoundFacts}
use Rattle.step_core.proofs.changes.Frozen.{head_cells, ops_same}
use Rattle.step_core.proofs.seen.Held.{bucket_cell-there, live_cell-predecessor, row_content-plain, is_held-row}
use Rattle.cells.specs.Freezing.{MayFreeze, FreezesAlone, FreezesBucket, frozen_cell}
use Rattle.cells.specs.Invariant.{HoldsRound, IsFrozenCell}
use Rattle.cells.specs.Known.{known_block, IsBucketWord}
use Rattle.cells.specs.Lone.{head_at, head_generation, first_generation, is_untouched, KnowsTable, SameLedger}
use Rattle.cells.specs.Moves.{Moved, Moves, freeze_tells}
use Rattle.cells.specs.Paid.{wins_of, IsPaid}
use Rattle.cells.proofs.keeps.LoadBucket.{row_home}
use Rattle.cells.proofs.keeps.MarkBucket.{one_bucket}
use Rattle.cells.proofs.laws.Given.{given_published}
use Rattle.cells.proofs.laws.Hindsight.{hindsight_keeps}
use Rattle.cells.proofs.laws.Known.{generation_at-known}
use Rattle.cells.proofs.laws.Lone.{generation_in-stays, is_untouched-same, same_ledger, table_stays}
use Rattle.cells.proofs.laws.LoneRound.{lone_front}
use Rattle.cells.proofs.laws.Sound.{sound_view}
use Rattle.cells.proofs.parts.Flying.{flying_same}
use Rattle.cells.proofs.parts.MadeFreeze.{MadeFreeze, found, lookup, here, shown, freezes, some_row, home, row, new_view, new_cells, after, new_words, stands, buckets_stay, fixed_stay, cell_frozen, standing}
use Rattle.cells.proofs.parts.PutState.{Sees, sum_by-put_same, there_inside, each_sees, put_state}
use Rattle.cells.proofs.parts.PutView.{account_stays, whole_stays}
use Rattle.cells.proofs.parts.StillPaid.{paid_same, paid_unless_head}

module _ {facts : RoundFacts} {words : List ℕ} {state : RoundState} {history : List Entry} (s : MadeFreeze facts words state history) where
  -- no exchange was won
  wins_stay : wins_of (after s).views ≡ wins_of state.views
  wins_stay = sum_by-put_same (λ view. view.won) state.views s.old.number s.old (new_view s) s.there refl

  -- what was paid is so, as the head's cells stay
  paid_stays : (view : PassView) → IsPaid (wins_of state.views) state.head state.cells view
      → IsPaid (wins_of (after s).views) state.head (new_cells s) view
  paid_stays view paid = subst (λ (wins : ℕ). IsPaid wins state.head (new_cells s) view) (sym wins_stay)
      (paid_unless_head (wins_of state.views) state.head state.cells (new_cells s) view (head_cells (freezes s) state.cells) paid)

  -- what the views owe before and after
  abbrev Before : ℕ → PassView → Type 0
  Before = Sees facts state.head state.blocks state.cells history (wins_of state.views)

  abbrev After : ℕ → PassView → Type 0
  After = Sees facts state.head state.blocks (new_cells s) history (wins_of (after s).views)

  -- another pass owes nothing more
  stay : (pass : ℕ) (view : PassView) → pass ≢ s.old.number → get_elem? state.views pass ≡ some view → Before pass view → After pass view
  stay pass view apart is sees = record {
    numbered = sees.numbered;
    known = sees.known;
    filled = buckets_stay s view.filled sees.filled;
    fixed = fixed_stay s view.fixed sees.fixed;
    begun = sees.begun;
    own = sees.own ∙ ap (λ (list : List Entry). view.mine ++ list) (sym (flying_same (ops_same (freezes s) state.cells) view.flight));
    used = sees.used;
    paid = paid_stays view sees.paid;
    alone = λ alone. absurd (omega (
      arith,
      apart,
      there_inside state.views pass view is,
      there_inside state.views s.old.number s.old s.there,
      s.round.fits.passes,
    ));
    hindsight = hindsight_keeps (standing s) pass view sees.hindsight;
    given = sees.given;
  }

  -- the row is known with the others
  known_now : All (IsPublished state.blocks) (new_view s).known
  known_now = All-cons (IsPublished state.blocks) (known_block (row_address (found s)) (Row (row s))) s.old.known
      (home s).here (s.round.fits.known s.old.number s.old s.there)

  module _ (alone : facts.seats ≡ 1) where
    -- the table, as the only pass knew it
    table : KnowsTable state.head state.blocks state.cells s.old
    table = s.round.alone s.old.number s.old s.there alone

    -- its generation is found still,
    same_generation : head_generation (new_view s) ≡ head_generation s.old
    same_generation =
        generation_in-stays state.blocks (known_block (row_address (found s)) (Row (row s)) ∷ []) s.old.known (head_at s.old)
        (first_generation s.old.facts) (head_generation s.old)
        (All-cons (IsPublished state.blocks) (known_block (row_address (found s)) (Row (row s))) [] (home s).here
        (All-nil (IsPublished state.blocks)))
        (subst (λ (a : ℕ). IsGeneration state.blocks a (head_generation s.old)) (sym table.head_is) table.generation) refl

    -- and the same buckets are untouched
    same_untouched : (bucket : ℕ) → is_untouched (new_view s) bucket ≡ is_untouched s.old bucket
    same_untouched = is_untouched-same s.old (new_view s) refl same_generation refl

    -- so it knows the table,
    table_now : KnowsTable state.head state.blocks (new_cells s) (new_view s)
    table_now =
        let still = table_stays s.old (new_view s) refl same_generation same_untouched state.head state.blocks state.cells refl table in
        record {
          head_is = still.head_is;
          generation = still.generation;
          nil = λ bucket within untouched. head_cells (freezes s) state.cells bucket ∙ still.nil bucket within untouched;
        }

    -- and its ledger stays
    ledger_stays : SameLedger s.old (new_view s)
    ledger_stays = same_ledger s.old (new_view s) refl same_generation same_untouched refl refl refl

    module _ (bucket : ℕ) (source : GenerationBlock)
        (is_word : IsBucketWord s.old s.place (head_generation s.old).predecessor bucket source) (key : ℕ)
        (class : InClass source.exponent bucket key)
        (untouched : is_untouched s.old (key_bucket (head_generation s.old).exponent key) ≡ true) where
      -- the bucket that is frozen is that of the generation before the head's,
      behind : (head_generation s.old).predecessor ≡ s.may.at
      behind =
          sym (generation_at-known s.old s.place (head_generation s.old).predecessor bucket source
          (sound_view s.round s.old.number s.old s.there) is_word).0
          ∙ (lookup s).0

      -- the key is of it,
      of_bucket : InClass s.may.generation.exponent s.may.bucket key
      of_bucket =
          let same = one_bucket s.old s.place (head_generation s.old).predecessor bucket s.may.at s.may.bucket source s.may.generation
          (sound_view s.round s.old.number s.old s.there) is_word s.may.is_word in
          subst (λ (z : GenerationBlock × ℕ). InClass z.0.exponent z.1 key) (λ i. (same.0 i, same.1 i)) class

      -- and as its bucket of the head is nil, the bucket's cell is live
      live : live_cell state.head state.blocks state.cells (spot_of key) ≡ found s
      live =
          let first : GenerationBlock = head_generation s.old in
          let spot : ℕ = spot_of key in
          let nil : bucket_cell state.blocks state.cells state.head spot ≡ 0 =
          bucket_cell-there state.head state.blocks state.cells state.head spot first table.generation
          ∙ table.nil (key_bucket first.exponent key) (mod_below spot (2 ^ first.exponent) (pow_pos first.exponent)) untouched in
          live_cell-predecessor state.head state.blocks state.cells spot nil
          ∙ ap (λ (a : ℕ). bucket_cell state.blocks state.cells a spot) (ap predecessor_of table.generation ∙ behind)
          ∙ bucket_cell-there state.head state.blocks state.cells s.may.at spot s.may.generation (here s)
          ∙ ap (state.cells s.may.at) of_bucket
          ∙ sym (shown s)

      -- so without an operation its row has the key where the set has it, all of which the pass has seen
      row_agrees : (row s).op ≡ 0 → is_in (row s).keys key ≡ members_after (is_in s.old.facts.keys) s.old.front key
      row_agrees none =
          let facts_same = (s.round.fits.numbered s.old.number s.old s.there).same_round in
          let front_same = lone_front s.round s.old.number s.old s.there alone in
          sym (row_content-plain state.head state.blocks state.cells (row s) key none)
          ∙ sym (is_held-row state.head state.blocks state.cells key (found s) (row s) live (home s).here)
          ∙ s.round.members key
          ∙ sym (λ i. members_after (is_in (facts_same i).keys) (front_same i) key)

    -- what the freeze tells the only pass
    freezes_alone : FreezesAlone s.place s.old (row s) (new_view s)
    freezes_alone = record {
      same = ledger_stays;
      agrees = λ bucket source is_word none key class untouched. row_agrees bucket source is_word key class untouched none;
    }

  -- the pass's view owes nothing
  sees_new : After s.old.number (new_view s)
  sees_new =
      let was = each_sees s.round s.old.number s.old s.there in
      record {
        numbered = record { same_round = was.numbered.same_round; is_pass = refl };
        known = known_now;
        filled = buckets_stay s s.old.filled was.filled;
        fixed = All-cons (IsFrozenCell state.blocks (new_cells s)) (frozen_cell s.old s.place (found s)) s.old.fixed (cell_frozen s)
            (fixed_stay s s.old.fixed was.fixed);
        begun = record { front = was.begun.front; heard = was.begun.heard; horizon = prefix_refl history };
        own = was.own
            ∙ ap (λ (list : List Entry). s.old.mine ++ list) (sym (flying_same (ops_same (freezes s) state.cells) s.old.flight));
        used = was.used;
        paid = paid_same (wins_of (after s).views) state.head (new_cells s) s.old (new_view s) refl refl refl (paid_stays s.old was.paid);
        alone = table_now;
        hindsight =
            let noted = hindsight_keeps (standing s) s.old.number s.old was.hindsight in
            record { marks = noted.marks; heads = noted.heads; nils = noted.nils };
        given = given_published facts.keys history state.blocks (new_view s).known s.round.given known_now;
      }

  -- so the invariant holds after the freeze
  holds : HoldsRound facts (new_words s) (after s) history
  holds = put_state s.round s.old (new_view s) s.there (new_words s) (after s) history refl stay sees_new (stands s)
      (account_stays state.views s.old.number s.old (new_view s) s.there facts state.next state.ticket refl refl s.round.fits.account)
      (whole_stays state.views s.old.number s.old (new_view s) s.there history (prefix_refl s.old.front)
      (s.round.past.begun s.old.number s.old s.there).front s.round.past.whole)

  -- and it moves the round
  freeze_moved : Moved facts (new_words s) state history s.old (FreezesBucket s.place s.old (found s))
  freeze_moved = record {
    view = new_view s;
    state = after s;
    history = history;
    holds = holds;
    views = refl;
    number = refl;
    same_round = refl;
    grows = prefix_refl history;
    tells = record {
      history = history;
      row = row s;
      grows = (s.round.past.begun s.old.number s.old s.there).front;
      some_row = some_row s;
      home = row_home s.round s.old s.there s.place s.may.at s.may.bucket s.may.generation s.may.is_word (row s) (home s).exponent
          ((home s).bucket ∙ mod-eq_of_lt s.may.is_word.within);
      view = refl;
      alone = λ alone. freezes_alone
          (ap (λ (facts : RoundFacts). facts.seats) (sym (s.round.fits.numbered s.old.number s.old s.there).same_round) ∙ alone);
    };
  }

-- whatever the round is, the pass may freeze a bucket of a generation that it knows another to follow
pub freeze_moves : (facts : RoundFacts) (old : PassView) (step : TableStep ℕ) → MayFreeze old step.word
    → Moves facts old (Freeze step.word) (freeze_tells old step)
freeze_moves facts old step may words state history round there small =
    freeze_moved (record { round = round; old = old; there = there; place = step.word; may = may })
