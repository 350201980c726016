-- What draws and writes leave as it was: all that the pass knows and has seen.
use Rattle.std.proofs.Common.{◌≡◌, ◌≢◌, ℕ, ◌+◌, ◌≤◌, List, [], ◌∷◌, length, Option, Some, None, refl, sym, ap, ◌∙◌, subst, arith}
use Rattle.arena.specs.declared.held.Held.{Held}
use Rattle.arena.specs.Hands.{drawn_block}
use Rattle.step_core.specs.declared.published.Published.{Published}
use Rattle.step_core.specs.declared.views.PassView.{PassView}
use Rattle.step_core.specs.declared.views.StepCounts.{StepCounts}
use Rattle.cells.specs.Frames.{OnlyDraws}
use Rattle.cells.specs.Known.{KnowsBlock}
use Rattle.cells.specs.Steps.{Writes, Draws, Overdraws, RefusesDraw}
use Rattle.cells.proofs.laws.Known.{knows_more}

-- A view in which only these fields may be others keeps the rest.
pub keeps_past : (hands : List Held) (drawn : ℕ) (spent : Option ℕ) (made : StepCounts) (old new : PassView)
    → new ≡ record old { hands = hands; drawn = drawn; spent = spent; made = made } → OnlyDraws old new
keeps_past hands drawn spent made old new view = subst (OnlyDraws old) (sym view) refl

-- What was known is known.
pub past_knows : (old new : PassView) → OnlyDraws old new → (at : ℕ) (block : Published) → KnowsBlock old at block
    → KnowsBlock new at block
past_knows old new keeps = knows_more [] old new (ap (λ (view : PassView). view.known) keeps)

-- Writing keeps it, and what was drawn.
pub writes_keep : (at offset : ℕ) (values : List ℕ) (old new : PassView) → Writes at offset values old new
    → OnlyDraws old new × (new.drawn ≡ old.drawn) × (new.spent ≡ old.spent)
writes_keep at offset values old new writes = (
  keeps_past new.hands old.drawn old.spent (record old.made { writes = old.made.writes + length values }) old new writes.only,
  ap (λ (view : PassView). view.drawn) writes.only,
  ap (λ (view : PassView). view.spent) writes.only,
)

-- A draw keeps it, and counts what was drawn.
pub draws_keep : (old : PassView) (at len : ℕ) (new : PassView) → Draws old at len new
    → OnlyDraws old new × (new.drawn ≡ old.drawn + len) × (new.spent ≡ old.spent)
draws_keep old at len new draws = (
  keeps_past (drawn_block at len ∷ old.hands) (old.drawn + len) old.spent (record old.made { draws = old.made.draws + 1 }) old new draws.view,
  ap (λ (view : PassView). view.drawn) draws.view,
  ap (λ (view : PassView). view.spent) draws.view,
)

-- A draw past the end keeps it and the blocks in hand, counts what was drawn, and spends the pass.
pub overdraws_keep : (old : PassView) (at len : ℕ) (new : PassView) → Overdraws old at len new
    → OnlyDraws old new × (new.hands ≡ old.hands) × (new.drawn ≡ old.drawn + len) × (new.spent ≡ Some at)
overdraws_keep old at len new past = (
  keeps_past old.hands (old.drawn + len) (Some at) (record old.made { draws = old.made.draws + 1 }) old new past.view,
  ap (λ (view : PassView). view.hands) past.view,
  ap (λ (view : PassView). view.drawn) past.view,
  ap (λ (view : PassView). view.spent) past.view,
)

-- a refused draw: it keeps what the pass knows and its blocks in hand, counts at most what was asked, and the pass is spent
pub record Refused (old : PassView) (len : ℕ) (new : PassView) : Type 0 where
  pub keeps : OnlyDraws old new
  pub hands : new.hands ≡ old.hands
  pub fewer : old.drawn ≤ new.drawn
  pub bound : new.drawn ≤ old.drawn + len
  pub spent : new.spent ≢ None

-- A refused draw of a pass by whether it was spent.
refused : (spent : Option ℕ) (old : PassView) (len : ℕ) (new : PassView) → old.spent ≡ spent → RefusesDraw old len new
    → Refused old len new
refused None old len new was full =
    let over = full.overdrew was in
    let keep = overdraws_keep old over.0 len new over.1 in
    record {
      keeps = keep.0;
      hands = keep.1;
      fewer = omega (arith, keep.2);
      bound = omega (arith, keep.2);
      spent = λ (none : new.spent ≡ None). let clash : Some over.0 ≡ None = sym keep.3 ∙ none in cc;
    }
refused (Some place) old len new was full =
    let some : old.spent ≢ None = λ (none : old.spent ≡ None). (let clash : Some place ≡ None = sym was ∙ none in cc) in
    let same = full.spent some in
    record {
      keeps = keeps_past old.hands old.drawn old.spent old.made old new same;
      hands = ap (λ (view : PassView). view.hands) same;
      fewer = omega (arith, ap (λ (view : PassView). view.drawn) same);
      bound = omega (arith, ap (λ (view : PassView). view.drawn) same);
      spent = λ (none : new.spent ≡ None). some (sym (ap (λ (view : PassView). view.spent) same) ∙ none);
    }

-- A refused draw leaves the pass spent, and all that it knows.
pub full_keeps : (old : PassView) (len : ℕ) (new : PassView) → RefusesDraw old len new → Refused old len new
full_keeps old len new full = refused old.spent old len new refl full
