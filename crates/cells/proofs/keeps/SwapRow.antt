-- The exchange of a row keeps the invariant, won or lost.
use Rattle.std.proofs.Common.{◌≡◌, ◌≢◌, ⊎_elim, ℕ, ◌+◌, ◌<◌, ◌≤◌, Bool, true, cond, List, [], ◌∷◌, ◌++◌, get_or, set, Option, Some, All, refl, sym, ap, ◌∙◌, subst, arith, append-nil, eq-eqb, ne_eqb}
use mathlib.Core.Option.{some}
use lib.ListN.{get_elem?}
use native.Mathlib.Decide.{ℕ_discrete}
use base.Growing.{prefix_refl, prefix_trans}
use Rattle.std.proofs.lemmas.List.Elements.{All-nil, All-cons, All-append, All-weaker}
use Rattle.atomic_table.proofs.Lists.{set_here}
use Rattle.atomic_table.specs.Table.{Step as TableStep}
use Rattle.arena.proofs.laws.States.{updated-same}
use Rattle.set_model.specs.declared.entry.Entry.{Entry}
use Rattle.step_core.specs.Fits.{IsPublished}
use Rattle.step_core.specs.Format.{mutable_word, row_address}
use Rattle.step_core.specs.Ledger.{changed}
use Rattle.step_core.specs.Rising.{Change, keys_after, keys_after_call}
use Rattle.step_core.specs.States.{RoundState, IsGeneration}
use Rattle.step_core.specs.declared.kinds.Step.TheVariants.{SwapRow}
use Rattle.step_core.specs.declared.published.Published.TheVariants.{Generation, Row}
use Rattle.step_core.specs.declared.views.PassView.{PassView}
use Rattle.step_core.specs.declared.views.RoundFacts.{RoundFacts}
use Rattle.step_core.proofs.changes.Named.{stays, cell_cases}
use Rattle.step_core.proofs.lists.Histories.{keys_after-push}
use Rattle.cells.specs.Exchanges.{swap_change, entry_by, MaySwapRow, SwapsRow}
use Rattle.cells.specs.Invariant.{HoldsRound}
use Rattle.cells.specs.Known.{known_block}
use Rattle.cells.specs.Lone.{head_at, head_generation, is_untouched, first_generation, KnowsTable, ledger_of}
use Rattle.cells.specs.Moves.{Moved, Moves, SwapTells, serial_of}
use Rattle.cells.specs.Paid.{wins_of, IsPaid}
use Rattle.cells.specs.Past.{entries_by, flying_entry}
use Rattle.cells.proofs.keeps.LoseSwap.{lost_moved}
use Rattle.cells.proofs.laws.Entries.{entries_by-own, entries_by-other}
use Rattle.cells.proofs.laws.Given.{given_published}
use Rattle.cells.proofs.laws.Hindsight.{KeepsStanding, hindsight_keeps}
use Rattle.cells.proofs.laws.Lone.{generation_in-stays, is_untouched-same, table_stays}
use Rattle.cells.proofs.laws.LoneRound.{lone_front}
use Rattle.cells.proofs.parts.NamedRow.{known_stays, row_known, buckets_stay, fixed_stay, flying_stays, named_stands}
use Rattle.cells.proofs.parts.PutState.{Sees, sum_by-put, there_inside, each_sees, put_state}
use Rattle.cells.proofs.parts.PutView.{account_stays}
use Rattle.cells.proofs.parts.StillPaid.{paid_more}
use Rattle.cells.proofs.parts.WonSwap.{WonSwap, replaces, names, row, entry, new_history, new_view, new_words, after, own, serial_is, below, stands}

module _ {facts : RoundFacts} {words : List ℕ} {state : RoundState} {history : List Entry} (s : WonSwap facts words state history) where
  -- all exchanges that were won are one more
  wins_more : wins_of (after s).views ≡ wins_of state.views + 1
  wins_more = omega (arith, sum_by-put (λ view. view.won) state.views s.old.number s.old (new_view s) s.there)

  -- the row is known with what was
  row_here : All (IsPublished (after s).blocks) (known_block s.at (Row (row s)) ∷ s.old.known)
  row_here = row_known (names s) s.old.known (s.round.fits.known s.old.number s.old s.there)

  -- an operation in flight has the entry that it had
  flying : (flight : Option ℕ) → flying_entry (after s).blocks (after s).cells flight ≡ flying_entry state.blocks state.cells flight
  flying = flying_stays (names s)

  -- what stood has stood
  standing : KeepsStanding facts.keys state.blocks state.cells history (after s).blocks (after s).cells (new_history s)
  standing = named_stands (names s) facts.keys history (new_history s) (entry s ∷ [], refl)

  -- what the views owe before and after
  abbrev Before : ℕ → PassView → Type 0
  Before = Sees facts state.head state.blocks state.cells history (wins_of state.views)

  abbrev After : ℕ → PassView → Type 0
  After = Sees facts (after s).head (after s).blocks (after s).cells (new_history s) (wins_of (after s).views)

  -- what was paid is so
  paid_stays : (view : PassView) → IsPaid (wins_of state.views) state.head state.cells view
      → IsPaid (wins_of (after s).views) state.head (after s).cells view
  paid_stays view paid = subst (λ (wins : ℕ). IsPaid wins state.head (after s).cells view) (sym wins_more)
      (paid_more (wins_of state.views) state.head state.head state.cells (after s).cells view paid)

  -- another pass owes nothing more
  stay : (pass : ℕ) (view : PassView) → pass ≢ s.old.number → get_elem? state.views pass ≡ some view → Before pass view → After pass view
  stay pass view apart is sees =
      let entries : entries_by pass (new_history s) ≡ entries_by pass history =
      entries_by-other pass history (entry s) (λ same. apart (sym same ∙ own s)) in
      record {
        numbered = sees.numbered;
        known = known_stays (names s) view.known sees.known;
        filled = buckets_stay (names s) view.filled sees.filled;
        fixed = fixed_stay (names s) view.fixed sees.fixed;
        begun = record {
          front = prefix_trans view.front history (new_history s) sees.begun.front (entry s ∷ [], refl);
          heard = prefix_trans view.heard history (new_history s) sees.begun.heard (entry s ∷ [], refl);
          horizon = prefix_trans view.horizon history (new_history s) sees.begun.horizon (entry s ∷ [], refl);
        };
        own = entries ∙ sees.own ∙ ap (λ (list : List Entry). view.mine ++ list) (sym (flying view.flight));
        used = subst (λ (list : List Entry). All (λ (e : Entry). e.serial < view.used) list) (sym entries) sees.used;
        paid = paid_stays view sees.paid;
        alone = λ alone. absurd (omega (
          arith,
          apart,
          there_inside state.views pass view is,
          there_inside state.views s.old.number s.old s.there,
          s.round.fits.passes,
        ));
        hindsight = hindsight_keeps standing pass view sees.hindsight;
        given = sees.given;
      }

  module _ (alone : facts.seats ≡ 1) where
    -- what the only pass knew of the table is so still
    table : KnowsTable state.head (after s).blocks (after s).cells s.old
    table =
        let was = s.round.alone s.old.number s.old s.there alone in
        record {
          head_is = was.head_is;
          generation = stays (names s) state.head (Generation (head_generation s.old)) was.generation;
          nil = λ bucket within test. ⊎_elim
              (λ (touched : (state.head ≡ s.may.turn.head) × (bucket ≡ s.may.bucket)
              × ((after s).cells state.head bucket ≡ mutable_word s.at)).
              absurd ((replaces s).filled (sym (λ i. state.cells (touched.0 i) (touched.1 i)) ∙ was.nil bucket within test)))
              (λ (kept : (after s).cells state.head bucket ≡ state.cells state.head bucket). kept ∙ was.nil bucket within test)
              (cell_cases (names s) state.head bucket);
        }

    -- it finds the head's generation,
    same_generation : head_generation (new_view s) ≡ head_generation s.old
    same_generation =
        generation_in-stays (after s).blocks (known_block s.at (Row (row s)) ∷ []) s.old.known (head_at s.old)
        (first_generation s.old.facts) (head_generation s.old)
        (All-cons (IsPublished (after s).blocks) (known_block s.at (Row (row s))) []
        (updated-same state.blocks s.at (Some (Row (row s)))) (All-nil (IsPublished (after s).blocks)))
        (subst (λ (from : ℕ). IsGeneration (after s).blocks from (head_generation s.old)) (sym table.head_is) table.generation) refl

    -- and the same buckets untouched
    same_untouched : (bucket : ℕ) → is_untouched (new_view s) bucket ≡ is_untouched s.old bucket
    same_untouched = is_untouched-same s.old (new_view s) refl same_generation refl

    -- its ledger has the keys after the call
    ledger_changes : (change : Change) → swap_change s.old s.word s.at ≡ Some change
        → ledger_of (new_view s) ≡ changed change.call change.key (ledger_of s.old)
    unfolding ledger_of
    ledger_changes change is =
        let e : entry s ≡ record { who = s.old.number; serial = s.serial; call = change.call; key = change.key; answer = true } =
        ap (entry_by s.old.number s.serial) is in
        let front : keys_after s.old.facts.keys history ≡ keys_after s.old.facts.keys s.old.front =
        ap (keys_after s.old.facts.keys) (sym (lone_front s.round s.old.number s.old s.there alone)) in
        let keys : keys_after s.old.facts.keys (new_history s)
        ≡ keys_after_call change.call change.key (keys_after s.old.facts.keys s.old.front) =
        keys_after-push s.old.facts.keys history (entry s) ∙ (λ i. keys_after_call (e i).call (e i).key (front i)) in
        λ i. record {
          keys = keys i;
          exponent = (same_generation i).exponent;
          untouched = λ bucket. same_untouched bucket i;
          next = s.old.facts.opened + s.old.drawn;
          cap = s.old.facts.cap;
          spent = s.old.spent;
        }

  -- the pass's view owes nothing
  sees_new : After s.old.number (new_view s)
  sees_new =
      let was = each_sees s.round s.old.number s.old s.there in
      let entries = entries_by-own s.old.number history (entry s) (own s) in
      let mine : entries_by s.old.number history ≡ s.old.mine =
      was.own ∙ ap (λ (flight : Option ℕ). s.old.mine ++ flying_entry state.blocks state.cells flight) s.may.no_flight ∙ append-nil s.old.mine in
      let flight : flying_entry (after s).blocks (after s).cells s.old.flight ≡ [] =
      ap (flying_entry (after s).blocks (after s).cells) s.may.no_flight in
      record {
        numbered = record { same_round = was.numbered.same_round; is_pass = refl };
        known = row_here;
        filled = buckets_stay (names s) s.old.filled was.filled;
        fixed = fixed_stay (names s) s.old.fixed was.fixed;
        begun = record {
          front = prefix_refl (new_history s);
          heard = prefix_trans s.old.heard history (new_history s) was.begun.heard (entry s ∷ [], refl);
          horizon = prefix_refl (new_history s);
        };
        own = entries
            ∙ ap (λ (list : List Entry). list ++ entry s ∷ []) mine
            ∙ sym (append-nil (s.old.mine ++ entry s ∷ []))
            ∙ ap (λ (list : List Entry). (s.old.mine ++ entry s ∷ []) ++ list) (sym flight);
        used = subst (λ (list : List Entry). All (λ (e : Entry). e.serial < s.serial + 1) list) (sym entries)
            (All-append (λ (e : Entry). e.serial < s.serial + 1) (entries_by s.old.number history) (entry s ∷ [])
            (All-weaker (λ (e : Entry). e.serial < (entry s).serial) (λ (e : Entry). e.serial < s.serial + 1)
            (λ e lt. omega (arith, lt, serial_is s)) (entries_by s.old.number history) (below s))
            (All-cons (λ (e : Entry). e.serial < s.serial + 1) (entry s) [] (omega (arith, serial_is s))
            (All-nil (λ (e : Entry). e.serial < s.serial + 1))));
        paid = record { lost = omega (arith, wins_more, was.paid.lost); turn = λ turn is. absurd (cc) };
        alone = λ alone. table_stays s.old (new_view s) refl (same_generation alone) (same_untouched alone)
            state.head (after s).blocks (after s).cells refl (table alone);
        hindsight =
            let noted = hindsight_keeps standing s.old.number s.old was.hindsight in
            record { marks = noted.marks; heads = noted.heads; nils = noted.nils };
        given = given_published facts.keys (new_history s) (after s).blocks (known_block s.at (Row (row s)) ∷ s.old.known)
            (stands s).given row_here;
      }

  -- so the invariant holds after the exchange
  holds : HoldsRound facts (new_words s) (after s) (new_history s)
  holds = put_state s.round s.old (new_view s) s.there (new_words s) (after s) (new_history s) refl stay sees_new (stands s)
      (account_stays state.views s.old.number s.old (new_view s) s.there facts state.next state.ticket refl refl s.round.fits.account)
      (record {
        pass = s.old.number;
        view = new_view s;
        is_view = set_here state.views s.old.number (new_view s) (there_inside state.views s.old.number s.old s.there);
        all = refl;
      })

  -- and it moves the round
  won_moved : (told : PassView → Type 0) → (SwapsRow s.serial s.word s.at s.old (new_view s) → told (new_view s))
      → Moved facts (new_words s) state history s.old told
  won_moved told tells = record {
    view = new_view s;
    state = after s;
    history = new_history s;
    holds = holds;
    views = refl;
    number = refl;
    same_round = refl;
    grows = (entry s ∷ [], refl);
    tells = tells (record {
      history = history;
      grows = (s.round.past.begun s.old.number s.old s.there).front;
      view_is = refl;
      alone = λ alone.
          let seats = ap (λ (facts : RoundFacts). facts.seats) (sym (s.round.fits.numbered s.old.number s.old s.there).same_round) ∙ alone in
          record {
            front = sym (lone_front s.round s.old.number s.old s.there seats);
            ledger = ledger_changes seats;
          };
    });
  }

-- whatever the round is, the pass may exchange the word that it loaded for that of its row
pub swap_row_moves : (facts : RoundFacts) (old : PassView) (step : TableStep ℕ) (at : ℕ) → step.second ≡ mutable_word at
    → MaySwapRow old step.word step.first at → old.used ≤ serial_of step.said
    → Moves facts old (SwapRow step.word step.first step.second) (SwapTells old step)
swap_row_moves facts old step at is_word may unused words state history round there small =
    let place : ℕ = step.word in
    let found : ℕ = get_or words place 0 in
    let Found : ℕ → Type 0 = λ (w : ℕ). Moved facts (set words place w) state history old (SwapTells old step found) in
    elim (ℕ_discrete found step.first) [
      | yes same ↦
          let s : WonSwap facts words state history = record {
            round = round;
            old = old;
            there = there;
            place = place;
            word = step.first;
            at = at;
            may = may;
            found = same;
            serial = serial_of step.said;
            unused = unused;
          } in
          let address : row_address step.second ≡ at = omega (arith, is_word) in
          subst Found
          (sym is_word ∙ sym (ap (λ (b : Bool). cond b step.second found) (eq-eqb found step.first same)))
          (won_moved s (SwapTells old step found) (λ won. record {
            won = λ _. subst (λ (a : ℕ). SwapsRow (serial_of step.said) step.first a old (new_view s)) (sym address) won;
            lost = λ apart. absurd (apart same);
          }))
      | no differs ↦
          subst Found (sym (ap (λ (b : Bool). cond b step.second found) (ne_eqb found step.first differs)))
          (lost_moved round old there place step.first at may differs (SwapTells old step found) (λ lost. record {
            won = λ same. absurd (differs same);
            lost = λ _. lost;
          }))
    ]
