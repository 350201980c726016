-- One pass gets another view, and the words may change with it: the invariant holds where the view owes nothing.
use Rattle.std.proofs.Common.{◌≡◌, ℕ, ◌+◌, ◌*◌, ◌≤◌, List, ◌++◌, length, set, refl, sym, ap, ◌∙◌, subst, Option}
use mathlib.Core.List.{IsPrefix}
use mathlib.Core.Option.{some, some-injective}
use lib.ListN.{get_elem?}
use native.Mathlib.Decide.{ℕ_discrete}
use base.Growing.{prefix_anti, prefix_refl}
use Rattle.atomic_table.proofs.Lists.{set_here, set_else}
use Rattle.set_model.specs.declared.entry.Entry.{Entry}
use Rattle.arena.specs.Owners.{Owner}
use Rattle.step_core.specs.Fits.{IsAccount, PassedItsEnd, KnowsPublished, spent_count}
use Rattle.step_core.specs.Limits.{max_draw}
use Rattle.step_core.specs.States.{RoundState, AreLaidOut}
use Rattle.step_core.specs.declared.published.Published.{Published}
use Rattle.step_core.specs.declared.views.PassView.{PassView}
use Rattle.step_core.specs.declared.views.RoundFacts.{RoundFacts}
use Rattle.cells.specs.Invariant.{HoldsRound, KnowsFilled, KnowsFixed}
use Rattle.cells.specs.Lone.{KnowsAlone}
use Rattle.cells.specs.Moves.{Moved}
use Rattle.cells.specs.Paid.{IsPaid, wins_of}
use Rattle.cells.specs.Past.{IsSeenWhole, KnowsGiven, UsesSerials, flying_entry}
use Rattle.cells.specs.Hindsight.{HasHindsight}
use Rattle.cells.proofs.parts.PutState.{Sees, Stands, there_inside, each_put, sum_by-put_same, each_sees, put_state}

-- a front that reaches no less far than one that is the whole history is the whole history
pub stays_whole : (front further history : List Entry) → front ≡ history → IsPrefix front further → IsPrefix further history
    → further ≡ history
stays_whole front further history whole grows within =
    prefix_anti further history within (subst (λ (list : List Entry). IsPrefix list further) whole grows)

-- what a new view owes where the published blocks, their cells, the head and the history stay
pub record Goes (facts : RoundFacts) (head : ℕ) (blocks : ℕ → Option Published) (cells : ℕ → ℕ → ℕ) (history : List Entry)
    (wins : ℕ) (old new : PassView) : Type 0 where
  pub number : new.number ≡ old.number
  pub same_round : new.facts ≡ old.facts
  pub known : KnowsPublished blocks old.number new
  pub filled : KnowsFilled cells old.number new
  pub fixed : KnowsFixed blocks cells old.number new
  pub grows : IsPrefix old.front new.front
  pub front : IsPrefix new.front history
  pub heard : IsPrefix new.heard history
  pub horizon : IsPrefix new.horizon history
  pub mine : new.mine ≡ old.mine
  pub flight : new.flight ≡ old.flight
  pub used : new.used ≡ old.used
  pub won : new.won ≡ old.won
  pub paid : IsPaid wins head cells new
  pub alone : KnowsAlone facts head blocks cells old.number new
  pub hindsight : HasHindsight facts.keys blocks cells history old.number new
  pub given : KnowsGiven facts.keys old.number new

-- what the invariant says without a view
pub stands : {facts : RoundFacts} {words : List ℕ} {state : RoundState} {history : List Entry} → HoldsRound facts words state history
    → Stands facts words state history
stands round = record {
  size = round.fits.size;
  holds = round.fits.holds;
  announces = round.fits.announces;
  given = round.given;
  members = round.members;
  legal = round.past.legal;
  who = round.past.who;
  ordered = round.past.ordered;
  no_op = round.no_op;
}

module _ (views : List PassView) (number : ℕ) (old new : PassView) (there : get_elem? views number ≡ some old) where
  -- the draws still add up where the pass has drawn no more
  pub account_stays : (facts : RoundFacts) (next ticket : ℕ) → new.drawn ≡ old.drawn → new.spent ≡ old.spent
      → IsAccount facts next ticket views → IsAccount facts next ticket (set views number new)
  account_stays facts next ticket drawn spent account = record {
    sum = account.sum ∙ ap (λ (n : ℕ). facts.opened + n) (sym (sum_by-put_same (λ view. view.drawn) views number old new there drawn));
    bound = subst (λ (n : ℕ). next ≤ facts.cap + max_draw * n)
        (sym (sum_by-put_same spent_count views number old new there
        (ap (λ (s : Option ℕ). spent_count (record new { spent = s })) spent))) account.bound;
    spent = each_put (PassedItsEnd facts.cap next) views number new account.spent
        (λ place is. account.spent number old there place (sym spent ∙ is));
    tickets = account.tickets;
  }

  -- some pass has seen it all
  pub whole_stays : (history : List Entry) → IsPrefix old.front new.front → IsPrefix new.front history
      → IsSeenWhole history views → IsSeenWhole history (set views number new)
  whole_stays history grows within whole = elim (ℕ_discrete whole.pass number) [
    | yes same ↦ record {
      pass = number;
      view = new;
      is_view = set_here views number new (there_inside views number old there);
      all = stays_whole old.front new.front history
          (ap (λ (view : PassView). view.front)
          (some-injective old whole.view (sym there ∙ subst (λ (n : ℕ). get_elem? views n ≡ some whole.view) same whole.is_view))
          ∙ whole.all) grows within;
    }
    | no apart ↦ record {
      pass = whole.pass;
      view = whole.view;
      is_view = set_else views number whole.pass new apart ∙ whole.is_view;
      all = whole.all;
    }
  ]

module _ {facts : RoundFacts} {words : List ℕ} {state : RoundState} {history : List Entry} (round : HoldsRound facts words state history)
    (old new : PassView) (there : get_elem? state.views old.number ≡ some old)
    (goes : Goes facts state.head state.blocks state.cells history (wins_of state.views) old new) where
  -- the state with the view, and with other owners and another next place
  abbrev pub put : (ℕ → Owner) → ℕ → RoundState
  put owners next = record state { owners = owners; next = next; views = set state.views old.number new }

  -- all exchanges that the passes won
  wins_stay : wins_of (set state.views old.number new) ≡ wins_of state.views
  wins_stay = sum_by-put_same (λ view. view.won) state.views old.number old new there goes.won

  -- the new view sees what it owes
  new_sees : Sees facts state.head state.blocks state.cells history (wins_of state.views) old.number new
  new_sees =
      let was = each_sees round old.number old there in
      record {
        numbered = record { same_round = goes.same_round ∙ was.numbered.same_round; is_pass = goes.number };
        known = goes.known;
        filled = goes.filled;
        fixed = goes.fixed;
        begun = record { front = goes.front; heard = goes.heard; horizon = goes.horizon };
        own = was.own ∙ (λ k. sym goes.mine k ++ flying_entry state.blocks state.cells (sym goes.flight k));
        used = subst (λ (used : ℕ). UsesSerials history old.number (record old { used = used })) (sym goes.used) was.used;
        paid = goes.paid;
        alone = goes.alone;
        hindsight = goes.hindsight;
        given = goes.given;
      }

  -- the invariant holds with the view, where the words still show the state and the draws still add up
  pub put_view : (new_words : List ℕ) (owners : ℕ → Owner) (next : ℕ) → length new_words ≡ length words
      → AreLaidOut (length words) facts.seats new_words (put owners next)
      → IsAccount facts next state.ticket (set state.views old.number new)
      → HoldsRound facts new_words (put owners next) history
  put_view new_words owners next long laid account =
      let Facts : ℕ → ℕ → PassView → Type 0 = λ wins. Sees facts state.head state.blocks state.cells history wins in
      put_state round old new there new_words (put owners next) history refl
      (λ pass view apart is sees. subst (λ (wins : ℕ). Facts wins pass view) (sym wins_stay) sees)
      (subst (λ (wins : ℕ). Facts wins old.number new) (sym wins_stay) new_sees)
      (record {
        size = long ∙ round.fits.size;
        holds = record {
          laid = subst (λ (cap : ℕ). AreLaidOut cap facts.seats new_words (put owners next)) (sym long) laid;
          chain = round.fits.holds.chain;
          homes = round.fits.holds.homes;
        };
        announces = round.fits.announces;
        given = round.given;
        members = round.members;
        legal = round.past.legal;
        who = round.past.who;
        ordered = round.past.ordered;
        no_op = round.no_op;
      })
      account
      (whole_stays state.views old.number old new there history goes.grows goes.front round.past.whole)

  -- so the pass may have that view after a step, if it tells what the step does
  pub put_moved : (new_words : List ℕ) (owners : ℕ → Owner) (next : ℕ) → HoldsRound facts new_words (put owners next) history
      → (told : PassView → Type 0) → told new → Moved facts new_words state history old told
  put_moved new_words owners next holds told tells = record {
    view = new;
    state = put owners next;
    history = history;
    holds = holds;
    views = refl;
    number = goes.number;
    same_round = goes.same_round;
    grows = prefix_refl history;
    tells = tells;
  }
