-- The frame of all steps: a state whose words, published blocks, cells or history change under views that stay as they
-- are, and then one view that changes. The invariant holds where each of the views still sees what it owes.
use Rattle.std.proofs.Common.{◌≡◌, ◌≢◌, ℕ, zero, suc, ◌+◌, ◌<◌, ⊎_elim, List, [], ◌∷◌, length, set, sym, ap, ◌∙◌, subst, arith, Option, sum_by, All, length-set}
use mathlib.Core.Option.{some, some-injective, some-ne-none}
use lib.ListN.{get_elem?}
use Rattle.atomic_table.proofs.Lists.{at_set}
use Rattle.std.proofs.lemmas.List.Sums.{sum_by-cons}
use Rattle.set_model.specs.History.{IsLegal}
use Rattle.set_model.specs.Keys.{is_in}
use Rattle.set_model.specs.declared.entry.Entry.{Entry}
use Rattle.step_core.specs.Fits.{AnnouncesOps, HoldsBlocks, IsAccount, IsOfRound, KnowsPublished}
use Rattle.step_core.specs.Members.{HoldsMembers}
use Rattle.step_core.specs.States.{RoundState, Each, IsRow}
use Rattle.step_core.specs.declared.published.RowBlock.{RowBlock}
use Rattle.step_core.specs.declared.published.Published.{Published}
use Rattle.step_core.specs.declared.views.PassView.{PassView}
use Rattle.step_core.specs.declared.views.RoundFacts.{RoundFacts}
use Rattle.cells.specs.Invariant.{HoldsRound, KnowsFilled, KnowsFixed}
use Rattle.cells.specs.Lone.{KnowsAlone}
use Rattle.cells.specs.Paid.{IsPaid, wins_of}
use Rattle.cells.specs.Past.{BeginsHistory, IsSeenWhole, OwnsEntries, IsOfPasses, IsInOrder, KnowsGiven, UsesSerials, HasGivenKeys}
use Rattle.cells.specs.Hindsight.{HasHindsight}
use Rattle.cells.specs.SoFar.{HasNoOp}

-- what stands at a place of a list stands inside it
pub there_inside : {A : Type 0} (list : List A) (place : ℕ) (item : A) → get_elem? list place ≡ some item → place < length list
there_inside [] place item is = absurd (some-ne-none item (sym is))
there_inside (first ∷ others) zero item is = omega arith
there_inside (first ∷ others) (suc place) item is = omega (arith, there_inside others place item is)

-- what holds of each view becomes another fact of each where it does of those that stay and of the one put in
pub each_changed : (Before After : ℕ → PassView → Type 0) (views : List PassView) (number : ℕ) (new : PassView) → Each Before views
    → ((pass : ℕ) (view : PassView) → pass ≢ number → get_elem? views pass ≡ some view → Before pass view → After pass view)
    → After number new → Each After (set views number new)
each_changed Before After views number new each stays here place view there = ⊎_elim
    (λ (same : (place ≡ number) × (new ≡ view)). subst (λ (p : ℕ × PassView). After p.0 p.1) (λ k. (sym same.0 k, same.1 k)) here)
    (λ (other : (place ≢ number) × (get_elem? views place ≡ some view)).
    stays place view other.0 other.1 (each place view other.1))
    (at_set views number place new view there)

-- what holds of each view holds still where it holds of the one put in
pub each_put : (Fact : ℕ → PassView → Type 0) (views : List PassView) (number : ℕ) (new : PassView)
    → Each Fact views → Fact number new → Each Fact (set views number new)
each_put Fact views number new each here =
    each_changed Fact Fact views number new each (λ pass view apart there holds. holds) here

-- a sum over the views changes by what the one put in has more
pub sum_by-put : (count : PassView → ℕ) (views : List PassView) (number : ℕ) (old new : PassView) → get_elem? views number ≡ some old
    → sum_by count (set views number new) + count old ≡ sum_by count views + count new
sum_by-put count [] number old new there = absurd (some-ne-none old (sym there))
sum_by-put count (first ∷ views) zero old new there =
    let same : count first ≡ count old = ap count (some-injective first old there) in
    omega (arith, same, sum_by-cons count first views, sum_by-cons count new views)
sum_by-put count (first ∷ views) (suc number) old new there =
    omega (
      arith,
      sum_by-put count views number old new there,
      sum_by-cons count first views,
      sum_by-cons count first (set views number new),
    )

-- it stays where that has as much
pub sum_by-put_same : (count : PassView → ℕ) (views : List PassView) (number : ℕ) (old new : PassView) → get_elem? views number ≡ some old
    → count new ≡ count old → sum_by count (set views number new) ≡ sum_by count views
sum_by-put_same count views number old new there same = omega (arith, sum_by-put count views number old new there, same)

-- what each view owes the invariant, the account of draws apart
pub record Sees (facts : RoundFacts) (head : ℕ) (blocks : ℕ → Option Published) (cells : ℕ → ℕ → ℕ) (history : List Entry) (wins pass : ℕ)
    (view : PassView) : Type 0 where
  pub numbered : IsOfRound facts pass view
  pub known : KnowsPublished blocks pass view
  pub filled : KnowsFilled cells pass view
  pub fixed : KnowsFixed blocks cells pass view
  pub begun : BeginsHistory history pass view
  pub own : OwnsEntries blocks cells history pass view
  pub used : UsesSerials history pass view
  pub paid : IsPaid wins head cells view
  pub alone : KnowsAlone facts head blocks cells pass view
  pub hindsight : HasHindsight facts.keys blocks cells history pass view
  pub given : KnowsGiven facts.keys pass view

-- what the invariant says of the words, the published blocks, their cells and the history, without any view
pub record Stands (facts : RoundFacts) (words : List ℕ) (state : RoundState) (history : List Entry) : Type 0 where
  pub size : length words ≡ facts.cap
  pub holds : HoldsBlocks facts.seats words state
  pub announces : AnnouncesOps facts.seats state.announced state.blocks state.cells
  pub given : (at : ℕ) (row : RowBlock) → IsRow state.blocks at row → HasGivenKeys facts.keys history row
  pub members : HoldsMembers facts.keys state.head state.blocks state.cells history
  pub legal : IsLegal (is_in facts.keys) history
  pub who : All (IsOfPasses facts.seats) history
  pub ordered : (pass : ℕ) → IsInOrder history pass
  pub no_op : HasNoOp state.blocks

-- where the invariant holds, each view sees what it owes
pub each_sees : {facts : RoundFacts} {words : List ℕ} {state : RoundState} {history : List Entry} → HoldsRound facts words state history
    → Each (Sees facts state.head state.blocks state.cells history (wins_of state.views)) state.views
each_sees round pass view there = record {
  numbered = round.fits.numbered pass view there;
  known = round.fits.known pass view there;
  filled = round.filled pass view there;
  fixed = round.fixed pass view there;
  begun = round.past.begun pass view there;
  own = round.past.own pass view there;
  used = round.past.used pass view there;
  paid = round.paid pass view there;
  alone = round.alone pass view there;
  hindsight = round.hindsight pass view there;
  given = round.past.given pass view there;
}

module _ {facts : RoundFacts} {words : List ℕ} {state : RoundState} {history : List Entry} (round : HoldsRound facts words state history)
    (old new : PassView) (there : get_elem? state.views old.number ≡ some old)
    (new_words : List ℕ) (after : RoundState) (new_history : List Entry)
    (views : after.views ≡ set state.views old.number new) where
  -- the facts that the views owe before and after
  abbrev Before : ℕ → PassView → Type 0
  Before = Sees facts state.head state.blocks state.cells history (wins_of state.views)

  abbrev After : ℕ → PassView → Type 0
  After = Sees facts after.head after.blocks after.cells new_history (wins_of after.views)

  module _ (stay : (pass : ℕ) (view : PassView) → pass ≢ old.number → get_elem? state.views pass ≡ some view
      → Before pass view → After pass view) (sees : After old.number new) where
    -- after the step each view sees what it owes
    each_sees_after : Each After after.views
    each_sees_after = subst (Each After) (sym views)
        (each_changed Before After state.views old.number new (each_sees round) stay sees)

    -- and the invariant holds, where it does of all that no view tells, the draws add up, and some pass has seen it all
    pub put_state : Stands facts new_words after new_history → IsAccount facts after.next after.ticket after.views
        → IsSeenWhole new_history after.views → HoldsRound facts new_words after new_history
    put_state stands account whole = record {
      small = round.small;
      fits = record {
        size = stands.size;
        holds = stands.holds;
        announces = stands.announces;
        account = account;
        passes = ap length views ∙ length-set state.views old.number new ∙ round.fits.passes;
        numbered = λ pass view is. (each_sees_after pass view is).numbered;
        known = λ pass view is. (each_sees_after pass view is).known;
      };
      past = record {
        legal = stands.legal;
        begun = λ pass view is. (each_sees_after pass view is).begun;
        whole = whole;
        own = λ pass view is. (each_sees_after pass view is).own;
        who = stands.who;
        ordered = stands.ordered;
        used = λ pass view is. (each_sees_after pass view is).used;
        given = λ pass view is. (each_sees_after pass view is).given;
      };
      given = stands.given;
      members = stands.members;
      paid = λ pass view is. (each_sees_after pass view is).paid;
      filled = λ pass view is. (each_sees_after pass view is).filled;
      fixed = λ pass view is. (each_sees_after pass view is).fixed;
      hindsight = λ pass view is. (each_sees_after pass view is).hindsight;
      alone = λ pass view is. (each_sees_after pass view is).alone;
      no_op = stands.no_op;
    }
