-- The exchange of the head keeps the invariant, won or lost.
use Rattle.std.proofs.Common.{◌≡◌, ◌≢◌, inl, ⊎_elim, ℕ, ◌+◌, Bool, true, cond, List, ◌∷◌, ◌++◌, get_or, set, Some, All, refl, sym, ap, ◌∙◌, subst, arith, eq-eqb, ne_eqb}
use mathlib.Core.Option.{some}
use lib.ListN.{get_elem?}
use native.Mathlib.Decide.{ℕ_discrete}
use base.Growing.{prefix_refl}
use Rattle.std.proofs.lemmas.List.Elements.{All-cons, All-weaker}
use Rattle.atomic_table.specs.Table.{Step as TableStep}
use Rattle.set_model.specs.declared.entry.Entry.{Entry}
use Rattle.step_core.specs.Fits.{IsPublished}
use Rattle.step_core.specs.Ledger.{resized}
use Rattle.step_core.specs.Rising.{keys_after}
use Rattle.step_core.specs.States.{RoundState}
use Rattle.step_core.specs.declared.format.TheConstants.{HEAD}
use Rattle.step_core.specs.declared.kinds.Step.TheVariants.{SwapHead}
use Rattle.step_core.specs.declared.published.Published.TheVariants.{Generation, Row}
use Rattle.step_core.specs.declared.views.FixedCell.{FixedCell}
use Rattle.step_core.specs.declared.views.Known.{Known}
use Rattle.step_core.specs.declared.views.PassView.{PassView}
use Rattle.step_core.specs.declared.views.RoundFacts.{RoundFacts}
use Rattle.step_core.proofs.changes.Headed.{head_stays, head_there, ops_same}
use Rattle.step_core.proofs.changes.Held.{content_same}
use Rattle.cells.specs.HeadSwaps.{MaySwapHead, SwapsHead}
use Rattle.cells.specs.Hindsight.{StoodInHead}
use Rattle.cells.specs.Invariant.{HoldsRound, IsFrozenCell}
use Rattle.cells.specs.Known.{known_block}
use Rattle.cells.specs.Lone.{first_generation, head_generation, is_among, is_untouched, KnowsTable, ledger_of}
use Rattle.cells.specs.Moves.{HeadTells, Moved, Moves}
use Rattle.cells.specs.Paid.{wins_of, IsPaid}
use Rattle.cells.specs.Past.{IsGivenBlock}
use Rattle.cells.proofs.keeps.LoseHead.{lost_moved}
use Rattle.cells.proofs.laws.FoundBucket.{among_filled, is_untouched-cases}
use Rattle.cells.proofs.laws.Hindsight.{KeepsStanding, hindsight_keeps}
use Rattle.cells.proofs.laws.Lone.{generation_in-first}
use Rattle.cells.proofs.parts.Flying.{flying_same}
use Rattle.cells.proofs.parts.PutState.{Sees, sum_by-put, there_inside, each_sees, put_state}
use Rattle.cells.proofs.parts.PutView.{account_stays, whole_stays}
use Rattle.cells.proofs.parts.StillPaid.{paid_more}
use Rattle.cells.proofs.parts.WonHead.{WonHead, generation, becomes, nil, some_predecessor, new_view, new_words, after, stands}

module _ {facts : RoundFacts} {words : List ℕ} {state : RoundState} {history : List Entry} (s : WonHead facts words state history) where
  -- all exchanges that were won are one more
  wins_more : wins_of (after s).views ≡ wins_of state.views + 1
  wins_more = omega (arith, sum_by-put (λ view. view.won) state.views s.old.number s.old (new_view s) s.there)

  -- what was published is so still,
  known_stays : (known : List Known) → All (IsPublished state.blocks) known → All (IsPublished (after s).blocks) known
  known_stays = All-weaker (IsPublished state.blocks) (IsPublished (after s).blocks)
      (λ block here. head_stays (becomes s) block.at block.block here)

  -- and so is the generation
  head_known : All (IsPublished (after s).blocks) (known_block s.at (Generation (generation s)) ∷ s.old.known)
  head_known = All-cons (IsPublished (after s).blocks) (known_block s.at (Generation (generation s))) s.old.known
      (head_there (becomes s)) (known_stays s.old.known (s.round.fits.known s.old.number s.old s.there))

  -- a frozen cell is so still
  fixed_stay : (fixed : List FixedCell) → All (IsFrozenCell state.blocks state.cells) fixed
      → All (IsFrozenCell (after s).blocks state.cells) fixed
  fixed_stay = All-weaker (IsFrozenCell state.blocks state.cells) (IsFrozenCell (after s).blocks state.cells)
      (λ cell was. record {
        generation = was.generation;
        here = head_stays (becomes s) cell.at (Generation was.generation) was.here;
        within = was.within;
        frozen = was.frozen;
        word = was.word;
      })

  -- what stood has stood
  standing : KeepsStanding facts.keys state.blocks state.cells history (after s).blocks state.cells history
  standing = record {
    rows = λ from row here. head_stays (becomes s) from (Row row) here;
    generations = λ from other here. head_stays (becomes s) from (Generation other) here;
    contents = λ from row key here. content_same (ops_same (becomes s)) row key;
    grows = prefix_refl history;
    frozen = λ from other bucket here within odd. inl refl;
  }

  -- the new head has no frozen bucket yet
  new_stands : StoodInHead facts.keys (after s).blocks state.cells history (record { at = s.at; front = s.old.front })
  new_stands = record {
    generation = generation s;
    here = head_there (becomes s);
    begins = (s.round.past.begun s.old.number s.old s.there).front;
    frozen = λ bucket within odd. let none = nil s bucket in absurd (omega (arith, none));
  }

  -- what the views owe before and after
  abbrev Before : ℕ → PassView → Type 0
  Before = Sees facts state.head state.blocks state.cells history (wins_of state.views)

  abbrev After : ℕ → PassView → Type 0
  After = Sees facts s.at (after s).blocks state.cells history (wins_of (after s).views)

  -- what was paid is so
  paid_stays : (view : PassView) → IsPaid (wins_of state.views) state.head state.cells view
      → IsPaid (wins_of (after s).views) s.at state.cells view
  paid_stays view paid = subst (λ (wins : ℕ). IsPaid wins s.at state.cells view) (sym wins_more)
      (paid_more (wins_of state.views) state.head s.at state.cells state.cells view paid)

  -- another pass owes nothing more
  stay : (pass : ℕ) (view : PassView) → pass ≢ s.old.number → get_elem? state.views pass ≡ some view → Before pass view → After pass view
  stay pass view apart is sees = record {
    numbered = sees.numbered;
    known = known_stays view.known sees.known;
    filled = sees.filled;
    fixed = fixed_stay view.fixed sees.fixed;
    begun = sees.begun;
    own = sees.own ∙ ap (λ (list : List Entry). view.mine ++ list) (sym (flying_same (ops_same (becomes s)) view.flight));
    used = sees.used;
    paid = paid_stays view sees.paid;
    alone = λ alone. absurd (omega (
      arith,
      apart,
      there_inside state.views pass view is,
      there_inside state.views s.old.number s.old s.there,
      s.round.fits.passes,
    ));
    hindsight = hindsight_keeps standing pass view sees.hindsight;
    given = sees.given;
  }

  -- the pass finds the new head's generation,
  same_generation : head_generation (new_view s) ≡ generation s
  same_generation = generation_in-first s.at (generation s) (first_generation s.old.facts) s.old.known

  -- and all its buckets untouched: each is nil, so none is known to be filled
  all_untouched : (bucket : ℕ) → is_untouched (new_view s) bucket ≡ true
  all_untouched bucket = is_untouched-cases (new_view s) bucket (λ touched. ⊎_elim
      (λ (known : is_among s.old.filled s.at bucket ≡ true).
      among_filled state.cells s.old.filled s.at bucket (s.round.filled s.old.number s.old s.there) known (nil s bucket))
      (λ (first : (head_generation (new_view s)).predecessor ≡ 0).
      some_predecessor s (ap (λ g. g.predecessor) (sym same_generation) ∙ first))
      touched)

  -- where it is the only one, it knows the table
  table : KnowsTable s.at (after s).blocks state.cells (new_view s)
  table = record {
    head_is = refl;
    generation = head_there (becomes s) ∙ ap (λ g. Some (Generation g)) (sym same_generation);
    nil = λ bucket within untouched. nil s bucket;
  }

  -- its ledger has the new exponent, and all buckets untouched
  ledger_is : ledger_of (new_view s) ≡ resized (generation s).exponent (ledger_of s.old)
  unfolding ledger_of
  ledger_is = λ i. record {
    keys = keys_after s.old.facts.keys s.old.front;
    exponent = (same_generation i).exponent;
    untouched = λ bucket. all_untouched bucket i;
    next = s.old.facts.opened + s.old.drawn;
    cap = s.old.facts.cap;
    spent = s.old.spent;
  }

  -- the pass's view owes nothing
  sees_new : After s.old.number (new_view s)
  sees_new =
      let was = each_sees s.round s.old.number s.old s.there in
      record {
        numbered = record { same_round = was.numbered.same_round; is_pass = refl };
        known = head_known;
        filled = was.filled;
        fixed = fixed_stay s.old.fixed was.fixed;
        begun = record { front = was.begun.front; heard = was.begun.heard; horizon = was.begun.horizon };
        own = was.own ∙ ap (λ (list : List Entry). s.old.mine ++ list) (sym (flying_same (ops_same (becomes s)) s.old.flight));
        used = was.used;
        paid = record { lost = omega (arith, wins_more, was.paid.lost); turn = λ turn is. absurd (cc) };
        alone = λ alone. table;
        hindsight =
            let noted = hindsight_keeps standing s.old.number s.old was.hindsight in
            record {
              marks = noted.marks;
              heads = All-cons (StoodInHead facts.keys (after s).blocks state.cells history) (record { at = s.at; front = s.old.front })
                  s.old.heads new_stands noted.heads;
              nils = noted.nils;
            };
        given = All-cons (IsGivenBlock facts.keys s.old.horizon) (known_block s.at (Generation (generation s))) s.old.known
            (λ row is. absurd (cc)) was.given;
      }

  -- so the invariant holds after the exchange
  holds : HoldsRound facts (new_words s) (after s) history
  holds =
      let front = (s.round.past.begun s.old.number s.old s.there).front in
      put_state s.round s.old (new_view s) s.there (new_words s) (after s) history refl stay sees_new (stands s)
      (account_stays state.views s.old.number s.old (new_view s) s.there facts state.next state.ticket refl refl s.round.fits.account)
      (whole_stays state.views s.old.number s.old (new_view s) s.there history (prefix_refl s.old.front) front s.round.past.whole)

  -- and it moves the round
  won_moved : (told : PassView → Type 0) → (SwapsHead s.head s.at s.old (new_view s) → told (new_view s))
      → Moved facts (new_words s) state history s.old told
  won_moved told tells = record {
    view = new_view s;
    state = after s;
    history = history;
    holds = holds;
    views = refl;
    number = refl;
    same_round = refl;
    grows = prefix_refl history;
    tells = tells (record { view_is = refl; alone = λ alone. ledger_is });
  }

-- whatever the round is, the pass may exchange the head that it knows to have no nil bucket for the generation in hand
pub swap_head_moves : (facts : RoundFacts) (old : PassView) (step : TableStep ℕ) → MaySwapHead old step.first step.second
    → Moves facts old (SwapHead step.first step.second) (HeadTells old step)
swap_head_moves facts old step may words state history round there small =
    let found : ℕ = get_or words HEAD 0 in
    let Found : ℕ → Type 0 = λ (w : ℕ). Moved facts (set words HEAD w) state history old (HeadTells old step found) in
    elim (ℕ_discrete found step.first) [
      | yes same ↦
          let s : WonHead facts words state history = record {
            round = round;
            old = old;
            there = there;
            head = step.first;
            at = step.second;
            may = may;
            found = same;
          } in
          subst Found (sym (ap (λ (b : Bool). cond b step.second found) (eq-eqb found step.first same)))
          (won_moved s (HeadTells old step found) (λ won. record { won = λ _. won; lost = λ apart. absurd (apart same) }))
      | no differs ↦
          subst Found (sym (ap (λ (b : Bool). cond b step.second found) (ne_eqb found step.first differs)))
          (lost_moved round old there step.first differs (HeadTells old step found)
          (λ lost. record { won = λ same. absurd (differs same); lost = λ _. lost }))
    ]
