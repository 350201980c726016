-- What one pass may do in a round, its table seat may do at the round's table.
use Rattle.std.proofs.Common.{◌≡◌, ◌≢◌, ℕ, ◌^◌, ◌<◌, ⊎_elim, List, [], slice_index, slice_set, refl, sym, ap, ◌∙◌, subst, arith}
use Rattle.std.proofs.lemmas.List.Elements.{All-cons, All-head, All-nil, All-weaker}
use mathlib.Core.List.{IsPrefix}
use mathlib.Core.Option.{none, some}
use lib.ListN.{get_elem?}
use base.Growing.{prefix_trans}
use Rattle.set_model.specs.declared.entry.Entry.{Entry}
use Rattle.atomic_table.specs.Table.{State, Me, Allows, keeps, step}
use Rattle.atomic_table.specs.Table.{Step as TableStep}
use Rattle.atomic_table.proofs.Lists.{at_set, set_here, set_else}
use Rattle.step_core.specs.States.{RoundState}
use Rattle.step_core.specs.Steps.{place_of, becomes, after_step}
use Rattle.step_core.specs.declared.kinds.Step.{Step}
use Rattle.step_core.specs.declared.views.PassView.{PassView}
use Rattle.step_core.specs.declared.views.RoundFacts.{RoundFacts}
use Rattle.cells.specs.declared.rule.SeatView.{SeatView}
use Rattle.cells.specs.Invariant.{HoldsRound}
use Rattle.cells.specs.Sound.{IsSound}
use Rattle.cells.specs.Moves.{Moved, Moves, Tells}
use Rattle.cells.specs.declared.round.Round.TheInside as round
use Rattle.cells.specs.Modeled.{IsRound}
use Rattle.cells.specs.Seats.{facts_of, pass_of, pass_seat, SpeaksFor, IsSeat, AreSeated, IsRuled}
use Rattle.cells.proofs.laws.Sound.{sound_view}
use Rattle.cells.proofs.parts.PutState.{there_inside}

-- the only pass of a table seat is the one that the table seat speaks for
pub speaks_for : {views : List PassView} {history : List Entry} {seats : List SeatView} (seated : AreSeated views history seats)
    (id : ℕ) (view : PassView) → get_elem? seats id ≡ some (pass_seat view) → SpeaksFor views seated.owner id view
speaks_for {views} seated id view is_seat =
    All-head (SpeaksFor views seated.owner id) view [] (seated.each id (pass_seat view) is_seat).rights

module _ {views : List PassView} {past : List Entry} {seats : List SeatView} (seated : AreSeated views past seats)
    (history : List Entry) (id : ℕ) (old new : PassView) (grows : IsPrefix past history) (number : new.number ≡ old.number)
    (is_seat : get_elem? seats id ≡ some (pass_seat old)) where
  -- the stepping pass's table seat speaks for its new view
  own_seat : IsSeat (slice_set views old.number new) history seated.owner id (pass_seat new)
  own_seat =
      let speaks = speaks_for seated id old is_seat in
      let here : get_elem? (slice_set views old.number new) old.number ≡ some new =
      set_here views old.number new (there_inside views old.number old speaks.is_view) in
      let after = SpeaksFor (slice_set views old.number new) seated.owner id in
      record {
        front = (history, refl);
        rights = All-cons after new [] (record {
          is_view = ap (λ (k : ℕ). get_elem? (slice_set views old.number new) k) number ∙ here;
          only = ap seated.owner number ∙ speaks.only;
        }) (All-nil after);
      }

  -- another table seat's pass is another pass
  still_speaks : (other : ℕ) → other ≢ id → (view : PassView) → SpeaksFor views seated.owner other view
      → SpeaksFor (slice_set views old.number new) seated.owner other view
  still_speaks other differs view speaks =
      let own : seated.owner old.number ≡ id = (speaks_for seated id old is_seat).only in
      let apart : view.number ≢ old.number = λ same. differs (sym speaks.only ∙ (ap seated.owner same ∙ own)) in
      record {
        is_view = set_else views old.number view.number new apart ∙ speaks.is_view;
        only = speaks.only;
      }

  -- so every other table seat is one still
  other_seat : (other : ℕ) (seat : SeatView) → other ≢ id → get_elem? seats other ≡ some seat
      → IsSeat (slice_set views old.number new) history seated.owner other seat
  other_seat other seat differs is_other =
      let before = seated.each other seat is_other in
      record {
        front = prefix_trans seat.front past history before.front grows;
        rights = All-weaker (SpeaksFor views seated.owner other) (SpeaksFor (slice_set views old.number new) seated.owner other)
            (still_speaks other differs) seat.rights before.rights;
      }

  -- where a pass has a new view and the history may have grown, its table seat with that view and the others are seated again
  pub reseated : AreSeated (slice_set views old.number new) history (slice_set seats id (pass_seat new))
  reseated = record {
    owner = seated.owner;
    each = λ other seat is_other. ⊎_elim
        (λ same. subst (λ (both : ℕ × SeatView). IsSeat (slice_set views old.number new) history seated.owner both.0 both.1)
        (λ i. (sym same.0 i, same.1 i)) own_seat)
        (λ differs. other_seat other seat differs.0 differs.1)
        (at_set seats id other (pass_seat new) seat is_other);
  }

-- the words after the step at the table are those after the step of its kind
same_words : (kind : Step) (words : List ℕ) (place : ℕ) (word : ℕ) → place ≡ place_of kind → word ≡ becomes kind (slice_index words place)
    → after_step kind words ≡ slice_set words place word
same_words kind words place word is_place is_word =
    ap (λ (p : ℕ). slice_set words p (becomes kind (slice_index words p))) (sym is_place) ∙ ap (slice_set words place) (sym is_word)

module _ (facts : RoundFacts) (id : ℕ) (table : State ℕ SeatView) (ruled : IsRuled facts table) (old : PassView)
    (is_seat : get_elem? table.views id ≡ some (pass_seat old)) (told : PassView → Type 0) where
  -- the pass's view is the one that its table seat has
  is_view : get_elem? ruled.state.views old.number ≡ some old
  is_view = (speaks_for ruled.seated id old is_seat).is_view

  -- after the move the rule holds, with the table seat's new view
  rule_stays : (words : List ℕ) (moved : Moved facts words ruled.state ruled.history old told)
      → IsRuled facts (record { words = words; homes = table.homes; views = slice_set table.views id (pass_seat moved.view) })
  rule_stays words moved = record {
    state = moved.state;
    history = moved.history;
    holds = moved.holds;
    seated = subst (λ (views : List PassView). AreSeated views moved.history (slice_set table.views id (pass_seat moved.view)))
        (sym moved.views) (reseated ruled.seated moved.history id old moved.view moved.grows moved.number is_seat);
  }

  -- and the new view is sound
  stays_sound : (words : List ℕ) (moved : Moved facts words ruled.state ruled.history old told) → IsSound moved.view
  stays_sound words moved = sound_view moved.holds old.number moved.view
      (ap (λ (views : List PassView). get_elem? views old.number) moved.views
      ∙ set_here ruled.state.views old.number moved.view (there_inside ruled.state.views old.number old is_view))

-- what the pass may do in the round, and is told of it, its table seat may do at the table, and is told
pub pass_allows : (facts : RoundFacts) (slots id : ℕ) (me : Me ℕ SeatView) (place : ℕ) (change : ℕ → ℕ) (kind : Step)
    (told : PassView → TableStep ℕ → ℕ → PassView → Type 0) (step : TableStep ℕ)
    → me ≡ (pass_seat (pass_of me.0), [])
    → place ≡ place_of kind
    → ((words : List ℕ) (state : RoundState) (history : List Entry) → HoldsRound facts words state history
    → change (slice_index words place) ≡ becomes kind (slice_index words place))
    → Moves facts (pass_of me.0) kind (λ word view. told (pass_of me.0) step word view)
    → Allows (IsRuled facts) slots id me place change (Tells told step me)
pass_allows facts slots id me place change kind told step one is_place is_change moves table ruled homes is_me small =
    let old : PassView = pass_of me.0 in
    let is_seat : get_elem? table.views id ≡ some (pass_seat old) = is_me ∙ ap (λ (me : Me ℕ SeatView). some me.0) one in
    let found : ℕ = slice_index table.words place in
    let same : after_step kind table.words ≡ slice_set table.words place (change found) =
    same_words kind table.words place (change found) is_place (is_change table.words ruled.state ruled.history ruled.holds) in
    let told_here : PassView → Type 0 = λ (view : PassView). told old step found view in
    let moved : Moved facts (slice_set table.words place (change found)) ruled.state ruled.history old told_here =
    subst (λ (words : List ℕ). Moved facts words ruled.state ruled.history old told_here) same
    (subst (λ (p : ℕ). slice_index table.words p < 2 ^ 64 → Moved facts (after_step kind table.words) ruled.state ruled.history old
    (λ (view : PassView). told old step (slice_index table.words p) view)) (sym is_place)
    (moves table.words ruled.state ruled.history ruled.holds (is_view facts id table ruled old is_seat told_here)) small) in (
      pass_seat moved.view,
      keeps,
      tt,
      rule_stays facts id table ruled old is_seat told_here (slice_set table.words place (change found)) moved,
      record {
        view = moved.view;
        seat = ap (λ (me : Me ℕ SeatView). (pass_seat moved.view, me.1)) one;
        number = moved.number;
        same_round = moved.same_round;
        sound = stays_sound facts id table ruled old is_seat told_here (slice_set table.words place (change found)) moved;
        tells = moved.tells;
      },
    )

-- what the pass may load in the round, its table seat may load at the table of the round's fields
pub load_allows : (inside : round.Inside) → IsRound inside → (id : ℕ) (me : Me ℕ SeatView) (place : ℕ) (kind : Step)
    (told : PassView → TableStep ℕ → ℕ → PassView → Type 0)
    → me ≡ (pass_seat (pass_of me.0), []) → (pass_of me.0).facts ≡ facts_of inside.table.shared.key → place < (pass_of me.0).facts.cap
    → place ≡ place_of kind → ((word : ℕ) → word ≡ becomes kind word)
    → Moves (facts_of inside.table.shared.key) (pass_of me.0) kind
    (λ word view. told (pass_of me.0) (step inside.table.shared.table_id.slots place 0 0 none) word view)
    → (place < inside.table.shared.table_id.words)
    × Allows (IsRuled (facts_of inside.table.shared.key)) inside.table.shared.table_id.slots id me place (λ word. word)
    (Tells told (step inside.table.shared.table_id.slots place 0 0 none) me)
load_allows inside is id me place kind told one same within is_place stays moves =
    let table = inside.table.shared in
    let made : TableStep ℕ = step table.table_id.slots place 0 0 none in
    let end = ap (λ (facts : RoundFacts). facts.cap) same ∙ is.cap in
    let words = is.words in (
      omega arith,
      pass_allows (facts_of table.key) table.table_id.slots id me place (λ word. word) kind told made one is_place
          (λ words state history round. stays (slice_index words place)) moves,
    )
