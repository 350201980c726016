-- The exchange that fills a nil bucket keeps the invariant, won or lost.
use Rattle.std.proofs.Common.{◌≡◌, ◌≢◌, ⊎_elim, ℕ, Bool, cond, List, [], ◌∷◌, ◌++◌, get_or, set, refl, sym, ap, ap₂, ◌∙◌, subst, arith, eq-eqb, ne_eqb}
use mathlib.Core.Option.{some}
use lib.ListN.{get_elem?}
use native.Mathlib.Decide.{ℕ_discrete}
use base.Growing.{prefix_refl}
use Rattle.std.proofs.lemmas.List.Elements.{All-nil, All-cons}
use Rattle.atomic_table.specs.Table.{Step as TableStep}
use Rattle.set_model.specs.declared.entry.Entry.{Entry}
use Rattle.step_core.specs.Fits.{IsPublished}
use Rattle.step_core.specs.Format.{IsNil, mutable_word, row_address}
use Rattle.step_core.specs.Ledger.{touched}
use Rattle.step_core.specs.States.{RoundState, IsGeneration}
use Rattle.step_core.specs.declared.kinds.Step.TheVariants.{InitBucket}
use Rattle.step_core.specs.declared.published.Published.TheVariants.{Generation, Row}
use Rattle.step_core.specs.declared.views.PassView.{PassView}
use Rattle.step_core.specs.declared.views.RoundFacts.{RoundFacts}
use Rattle.step_core.proofs.changes.Named.{stays, named, some_name, cell_cases}
use Rattle.cells.specs.Filling.{MayFill, FillsBucket}
use Rattle.cells.specs.Invariant.{HoldsRound, IsFilled}
use Rattle.cells.specs.Known.{known_block, generation_at, bucket_at}
use Rattle.cells.specs.Lone.{head_at, head_generation, first_generation, KnowsTable, ledger_of}
use Rattle.cells.specs.Moves.{Moved, Moves, FillTells}
use Rattle.cells.specs.Paid.{wins_of, IsPaid}
use Rattle.cells.specs.Past.{IsGivenBlock, HasGivenKeys}
use Rattle.cells.specs.Steps.{filled_bucket}
use Rattle.cells.proofs.keeps.LoseFill.{lost_moved}
use Rattle.cells.proofs.laws.Fills.{fill_given}
use Rattle.cells.proofs.laws.Hindsight.{KeepsStanding, hindsight_keeps}
use Rattle.cells.proofs.laws.Known.{generation_at-known}
use Rattle.cells.proofs.laws.Lone.{generation_in-stays}
use Rattle.cells.proofs.laws.LoneFill.{ledger_after_fill, table_after_fill}
use Rattle.cells.proofs.laws.Sound.{sound_view}
use Rattle.cells.proofs.parts.NamedRow.{known_stays, row_known, buckets_stay, fixed_stay, flying_stays, named_stands}
use Rattle.cells.proofs.parts.PutState.{Sees, sum_by-put_same, there_inside, each_sees, put_state}
use Rattle.cells.proofs.parts.PutView.{account_stays, whole_stays}
use Rattle.cells.proofs.parts.StillPaid.{paid_same, paid_unless_nil}
use Rattle.cells.proofs.parts.WonFill.{WonFill, is_head, fills, names, row, new_view, new_words, after, stands}

module _ {facts : RoundFacts} {words : List ℕ} {state : RoundState} {history : List Entry} (s : WonFill facts words state history) where
  -- no exchange more was won of those that are counted
  wins_stay : wins_of (after s).views ≡ wins_of state.views
  wins_stay = sum_by-put_same (λ view. view.won) state.views s.old.number s.old (new_view s) s.there refl

  -- where the lookups find the bucket
  lookup : (generation_at s.old.known s.place ≡ state.head) × (bucket_at s.old.known s.place ≡ s.may.bucket)
  lookup =
      let found = generation_at-known s.old s.place s.may.head s.may.bucket s.may.generation
      (sound_view s.round s.old.number s.old s.there) s.may.is_word in
      (found.0 ∙ is_head s, found.1)

  -- what stood has stood
  standing : KeepsStanding facts.keys state.blocks state.cells history (after s).blocks (after s).cells history
  standing = named_stands (names s) facts.keys history history (prefix_refl history)

  -- what was paid is so: the bucket was nil, so it had no row that a load found there
  paid_stays : (view : PassView) → IsPaid (wins_of state.views) state.head state.cells view
      → IsPaid (wins_of (after s).views) state.head (after s).cells view
  paid_stays view paid = subst (λ (wins : ℕ). IsPaid wins state.head (after s).cells view) (sym wins_stay)
      (paid_unless_nil (wins_of state.views) state.head state.cells (after s).cells view
      (λ from k some_row. ⊎_elim
      (λ (touched : (from ≡ state.head) × (k ≡ s.may.bucket) × ((after s).cells from k ≡ mutable_word s.at)).
      absurd (some_row (ap₂ state.cells touched.0 touched.1 ∙ (fills s).nil)))
      (λ (kept : (after s).cells from k ≡ state.cells from k). kept)
      (cell_cases (names s) from k)) paid)

  -- what the views owe before and after
  abbrev Before : ℕ → PassView → Type 0
  Before = Sees facts state.head state.blocks state.cells history (wins_of state.views)

  abbrev After : ℕ → PassView → Type 0
  After = Sees facts (after s).head (after s).blocks (after s).cells history (wins_of (after s).views)

  -- another pass owes nothing more
  stay : (pass : ℕ) (view : PassView) → pass ≢ s.old.number → get_elem? state.views pass ≡ some view → Before pass view → After pass view
  stay pass view apart is sees = record {
    numbered = sees.numbered;
    known = known_stays (names s) view.known sees.known;
    filled = buckets_stay (names s) view.filled sees.filled;
    fixed = fixed_stay (names s) view.fixed sees.fixed;
    begun = sees.begun;
    own = sees.own ∙ ap (λ (list : List Entry). view.mine ++ list) (sym (flying_stays (names s) view.flight));
    used = sees.used;
    paid = paid_stays view sees.paid;
    alone = λ alone. absurd (omega (
      arith,
      apart,
      there_inside state.views pass view is,
      there_inside state.views s.old.number s.old s.there,
      s.round.fits.passes,
    ));
    hindsight = hindsight_keeps standing pass view sees.hindsight;
    given = sees.given;
  }

  -- the bucket isn't nil any more
  bucket_filled : IsFilled (after s).cells (filled_bucket s.old s.place)
  bucket_filled = subst (λ (w : ℕ). ¬ IsNil w)
      (sym (ap₂ (after s).cells lookup.0 lookup.1 ∙ named (names s))) (some_name (names s))

  module _ (alone : facts.seats ≡ 1) where
    -- the table, as the only pass knew it
    table : KnowsTable state.head state.blocks state.cells s.old
    table = s.round.alone s.old.number s.old s.there alone

    -- its generation is published still,
    generation_here : IsGeneration (after s).blocks state.head (head_generation s.old)
    generation_here = stays (names s) state.head (Generation (head_generation s.old)) table.generation

    -- and found
    same_generation : head_generation (new_view s) ≡ head_generation s.old
    same_generation =
        generation_in-stays (after s).blocks (known_block s.at (Row (row s)) ∷ []) s.old.known (head_at s.old)
        (first_generation s.old.facts) (head_generation s.old) (row_known (names s) [] (All-nil (IsPublished state.blocks)))
        (subst (λ (from : ℕ). IsGeneration (after s).blocks from (head_generation s.old)) (sym table.head_is) generation_here) refl

    -- the bucket is one of the head that it loaded last
    in_head : generation_at s.old.known s.place ≡ head_at s.old
    in_head = lookup.0 ∙ sym table.head_is

    -- it knows the table,
    table_filled : KnowsTable state.head (after s).blocks (after s).cells (new_view s)
    table_filled = table_after_fill s.place s.at s.old in_head same_generation state.head state.blocks (after s).blocks
        state.cells (after s).cells generation_here
        (λ other apart. ⊎_elim
        (λ (touched : (state.head ≡ state.head) × (other ≡ s.may.bucket) × ((after s).cells state.head other ≡ mutable_word s.at)).
        absurd (apart (touched.1 ∙ sym lookup.1)))
        (λ (kept : (after s).cells state.head other ≡ state.cells state.head other). kept)
        (cell_cases (names s) state.head other)) table

    -- and its ledger has the bucket touched
    ledger_filled : ledger_of (new_view s) ≡ touched (bucket_at s.old.known s.place) (ledger_of s.old)
    ledger_filled = ledger_after_fill s.place s.at s.old in_head same_generation

  -- the pass's view owes nothing
  sees_new : After s.old.number (new_view s)
  sees_new =
      let was = each_sees s.round s.old.number s.old s.there in
      record {
        numbered = record { same_round = was.numbered.same_round; is_pass = refl };
        known = row_known (names s) s.old.known was.known;
        filled = All-cons (IsFilled (after s).cells) (filled_bucket s.old s.place) s.old.filled bucket_filled
            (buckets_stay (names s) s.old.filled was.filled);
        fixed = fixed_stay (names s) s.old.fixed was.fixed;
        begun = record { front = was.begun.front; heard = was.begun.heard; horizon = was.begun.horizon };
        own = was.own ∙ ap (λ (list : List Entry). s.old.mine ++ list) (sym (flying_stays (names s) s.old.flight));
        used = was.used;
        paid = paid_same (wins_of (after s).views) state.head (after s).cells s.old (new_view s) refl refl refl (paid_stays s.old was.paid);
        alone = table_filled;
        hindsight =
            let noted = hindsight_keeps standing s.old.number s.old was.hindsight in
            record { marks = noted.marks; heads = noted.heads; nils = noted.nils };
        given = All-cons (IsGivenBlock facts.keys s.old.horizon) (known_block s.at (Row (row s))) s.old.known
            (λ other is. let same : row s ≡ other = cc in
            subst (HasGivenKeys facts.keys s.old.horizon) same (fill_given s.round s.old s.there s.place s.at s.may)) was.given;
      }

  -- so the invariant holds after the exchange
  holds : HoldsRound facts (new_words s) (after s) history
  holds = put_state s.round s.old (new_view s) s.there (new_words s) (after s) history refl stay sees_new (stands s)
      (account_stays state.views s.old.number s.old (new_view s) s.there facts state.next state.ticket refl refl s.round.fits.account)
      (whole_stays state.views s.old.number s.old (new_view s) s.there history (prefix_refl s.old.front)
      (s.round.past.begun s.old.number s.old s.there).front s.round.past.whole)

  -- and it moves the round
  won_moved : (told : PassView → Type 0) → (FillsBucket s.place s.at s.old (new_view s) → told (new_view s))
      → Moved facts (new_words s) state history s.old told
  won_moved told tells = record {
    view = new_view s;
    state = after s;
    history = history;
    holds = holds;
    views = refl;
    number = refl;
    same_round = refl;
    grows = prefix_refl history;
    tells = tells (record {
      view_is = refl;
      alone = λ alone. ledger_filled
          (ap (λ (facts : RoundFacts). facts.seats) (sym (s.round.fits.numbered s.old.number s.old s.there).same_round) ∙ alone);
    });
  }

-- whatever the round is, the pass may exchange a nil bucket's word for that of its row
pub init_bucket_moves : (facts : RoundFacts) (old : PassView) (step : TableStep ℕ) (at : ℕ) → step.second ≡ mutable_word at
    → MayFill old step.word at → Moves facts old (InitBucket step.word step.second) (FillTells old step)
init_bucket_moves facts old step at is_word may words state history round there small =
    let place : ℕ = step.word in
    let found : ℕ = get_or words place 0 in
    let Found : ℕ → Type 0 = λ (w : ℕ). Moved facts (set words place w) state history old (FillTells old step found) in
    elim (ℕ_discrete found 0) [
      | yes nil ↦
          let s : WonFill facts words state history =
          record { round = round; old = old; there = there; place = place; at = at; may = may; found = nil } in
          let address : row_address step.second ≡ at = omega (arith, is_word) in
          subst Found
          (sym is_word ∙ sym (ap (λ (b : Bool). cond b step.second found) (eq-eqb found 0 nil)))
          (won_moved s (FillTells old step found) (λ won. record {
            won = λ _. subst (λ (a : ℕ). FillsBucket step.word a old (new_view s)) (sym address) won;
            lost = λ some_row. absurd (some_row nil);
          }))
      | no some_row ↦
          subst Found (sym (ap (λ (b : Bool). cond b step.second found) (ne_eqb found 0 some_row)))
          (lost_moved round old there place at may some_row (FillTells old step found) (λ lost. record {
            won = λ nil. absurd (some_row nil);
            lost = λ _. lost;
          }))
    ]
