-- A draw keeps the invariant: within the arena the words drawn are the pass's own, and past the end it is spent.
use Rattle.std.proofs.Common.{◌≡◌, ℕ, ◌+◌, ◌*◌, ◌<◌, ◌≤◌, ◌^◌, ◌%◌, List, [], ◌∷◌, length, get_or, set, refl, sym, ap, ◌∙◌, subst, arith, Option, Some, None, sum_by, is_some, true, false, if◌then◌else◌, length-set, lt_of_not-le}
use mathlib.Core.Option.{some}
use lib.ListN.{get_elem?}
use native.Mathlib.Decide.{dec_le}
use Rattle.std.proofs.Math.Nat.{mod-eq_of_lt}
use Rattle.std.proofs.lemmas.List.Sums.{sum_by-cons}
use Rattle.atomic_table.specs.Table.{Step as TableStep}
use Rattle.set_model.specs.declared.entry.Entry.{Entry}
use Rattle.arena.specs.Owners.{Owner, free, hand, claimed}
use Rattle.arena.specs.Hands.{words_at, drawn_block}
use Rattle.arena.proofs.laws.Hands.{KeepsFronts-refl}
use Rattle.arena.proofs.keeps.Draw.{draw_keeps}
use Rattle.arena.proofs.keeps.Fixed.{overdraw_keeps}
use Rattle.arena.proofs.keeps.View.{view_keeps}
use Rattle.step_core.specs.Fits.{IsAccount, PassedItsEnd, spent_count}
use Rattle.step_core.specs.Format.{sealed_words, open_words}
use Rattle.step_core.specs.States.{RoundState, Each, hands_of}
use Rattle.step_core.specs.Limits.{max_draw}
use Rattle.step_core.specs.declared.format.TheConstants.{NEXT}
use Rattle.step_core.specs.declared.kinds.Step.TheVariants.{Draw}
use Rattle.step_core.specs.declared.views.PassView.{PassView}
use Rattle.step_core.specs.declared.views.RoundFacts.{RoundFacts}
use Rattle.cells.specs.Invariant.{HoldsRound}
use Rattle.cells.specs.Moves.{Moved, Moves, DrawTells}
use Rattle.cells.specs.Paid.{wins_of}
use Rattle.cells.specs.Steps.{FindsNext, view_after_draw, view_after_overdraw}
use Rattle.cells.proofs.laws.LoneRound.{finds_next}
use Rattle.cells.proofs.parts.SameTurns.{draws_go}
use Rattle.cells.proofs.parts.PutView.{Goes, put, put_view, put_moved}
use Rattle.cells.proofs.parts.PutState.{each_put, sum_by-put}

-- at most all passes are spent
spent_few : (views : List PassView) → sum_by spent_count views ≤ length views
spent_few [] = omega arith
spent_few (view ∷ views) =
    let one : spent_count view ≤ 1 = elim (is_some view.spent) as (λ b. (if b then 1 else 0) ≤ 1) [
      | true ↦ omega arith
      | false ↦ omega arith
    ] in
    omega (arith, one, spent_few views, sum_by-cons spent_count view views)

-- the next place is far from wrapping
pub next_small : {facts : RoundFacts} {words : List ℕ} {state : RoundState} {history : List Entry} → HoldsRound facts words state history
    → get_or words NEXT 0 ≤ (facts.seats + 1) * max_draw
next_small {facts} {words} {state} round =
    let shown = round.fits.holds.laid.fixed_words.next_shown in
    let bound = round.fits.account.bound in
    let few = spent_few state.views in
    let passes = round.fits.passes in
    let words_few = round.small.few_words in
    omega arith

-- so the sum that a draw leaves there is the sum
pub draw_fits : {facts : RoundFacts} {words : List ℕ} {state : RoundState} {history : List Entry} → HoldsRound facts words state history
    → (len : ℕ) → len ≤ max_draw → (get_or words NEXT 0 + len) % 2 ^ 64 ≡ get_or words NEXT 0 + len
draw_fits {facts} {words} round len short =
    let small = next_small round in
    let few = round.small.few_passes in
    let below : get_or words NEXT 0 + len < 2 ^ 64 = omega arith in
    mod-eq_of_lt below

-- a list with no first word is empty
no_words : (list : List ℕ) → (0 < length list → ⊥) → list ≡ []
no_words [] none = refl
no_words (word ∷ list) none = absurd (none (omega arith))

module _ {facts : RoundFacts} {words : List ℕ} {state : RoundState} {history : List Entry} (round : HoldsRound facts words state history)
    (old : PassView) (there : get_elem? state.views old.number ≡ some old) (unspent : old.spent ≡ None) (len : ℕ) where
  -- no block in hand begins at the next place, which nobody has drawn
  nothing_there : words_at old.hands state.next ≡ []
  nothing_there = no_words (words_at old.hands state.next) (λ some_word.
      let owned = (round.fits.holds.laid.hands old.number old there state.next).owned 0 some_word in
      let is_free = round.fits.holds.laid.bounds.from_next (state.next + 0) (omega arith) in
      let clash : free ≡ hand old.number state.next = sym is_free ∙ owned in cc)

  -- the pass counts as none that is spent
  none_spent : spent_count old ≡ 0
  none_spent = ap (λ (spent : Option ℕ). spent_count (record old { spent = spent })) unspent

  -- who passed the end passed it still
  still_spent : Each (PassedItsEnd facts.cap (state.next + len)) state.views
  still_spent number view is place spent =
      let passed = round.fits.account.spent number view is place spent in
      record { len = passed.len; small = passed.small; past = passed.past; counted = let counted = passed.counted in omega arith }

  -- the view with the block in hand
  abbrev drawn_view : PassView
  drawn_view = view_after_draw state.next len old

  -- the view that is spent
  abbrev overdrawn_view : PassView
  overdrawn_view = view_after_overdraw state.next len old

  -- the view with the block owes nothing,
  drawn_goes : Goes facts state.head state.blocks state.cells history (wins_of state.views) old drawn_view
  drawn_goes = draws_go round old there drawn_view.hands drawn_view.drawn old.spent drawn_view.made

  -- and neither does the view that is spent
  overdrawn_goes : Goes facts state.head state.blocks state.cells history (wins_of state.views) old overdrawn_view
  overdrawn_goes = draws_go round old there old.hands overdrawn_view.drawn overdrawn_view.spent overdrawn_view.made

  -- with the block in hand the draws still add up,
  drawn_account : state.next + len ≤ facts.cap → IsAccount facts (state.next + len) state.ticket (set state.views old.number drawn_view)
  drawn_account within =
      let sum = round.fits.account.sum in
      let more = sum_by-put (λ view. view.drawn) state.views old.number old drawn_view there in
      let tickets = round.fits.account.tickets in
      record {
        sum = omega arith;
        bound = omega arith;
        spent = each_put (PassedItsEnd facts.cap (state.next + len)) state.views old.number drawn_view still_spent (λ place is. let clash : None ≡ Some place = sym unspent ∙ is in cc);
        tickets = omega arith;
      }

  -- and so they do past the end
  overdrawn_account : len ≤ max_draw → facts.cap < state.next + len
      → IsAccount facts (state.next + len) state.ticket (set state.views old.number overdrawn_view)
  overdrawn_account short past =
      let sum = round.fits.account.sum in
      let bound = round.fits.account.bound in
      let more = sum_by-put (λ view. view.drawn) state.views old.number old overdrawn_view there in
      let spent = sum_by-put spent_count state.views old.number old overdrawn_view there in
      let none = none_spent in
      let tickets = round.fits.account.tickets in
      record {
        sum = omega arith;
        bound = omega arith;
        spent = each_put (PassedItsEnd facts.cap (state.next + len)) state.views old.number overdrawn_view still_spent
            (λ place is. let same : state.next ≡ place = cc in
            record { len = len; small = short; past = omega arith; counted = omega arith });
        tickets = omega arith;
      }

  -- the words drawn are the pass's
  abbrev owners : ℕ → Owner
  owners = claimed state.owners state.next len (λ _. hand old.number state.next)

  -- so the invariant holds with the block in hand,
  drawn_holds : (within : state.next + len ≤ facts.cap)
      → HoldsRound facts (set words NEXT (state.next + len)) (put round old drawn_view there drawn_goes owners (state.next + len)) history
  drawn_holds within =
      let size = round.fits.size in
      put_view round old drawn_view there drawn_goes (set words NEXT (state.next + len)) owners (state.next + len)
      (length-set words NEXT (state.next + len))
      (draw_keeps sealed_words open_words hands_of round.fits.holds.laid old.number drawn_view len (omega arith)
      (record { old = old; is_view = there; fronts = KeepsFronts-refl (drawn_block state.next len ∷ old.hands) }))
      (drawn_account within)

  -- and past the end
  overdrawn_holds : len ≤ max_draw → facts.cap < state.next + len
      → HoldsRound facts (set words NEXT (state.next + len))
      (put round old overdrawn_view there overdrawn_goes state.owners (state.next + len)) history
  overdrawn_holds short past =
      put_view round old overdrawn_view there overdrawn_goes (set words NEXT (state.next + len)) state.owners (state.next + len)
      (length-set words NEXT (state.next + len))
      (view_keeps sealed_words open_words hands_of
      (overdraw_keeps sealed_words open_words hands_of round.fits.holds.laid (state.next + len) (omega arith)) old.number overdrawn_view
      (record { old = old; is_view = there; fronts = KeepsFronts-refl old.hands }))
      (overdrawn_account short past)

  -- so a draw of so many words moves the round, within the arena
  moved_within : (word : ℕ) → word ≡ state.next → (step : TableStep ℕ) → step.first ≡ len → state.next + len ≤ facts.cap
      → Moved facts (set words NEXT (word + len)) state history old (DrawTells old step word)
  moved_within word is step first within =
      let numbered = (round.fits.numbered old.number old there).same_round in
      let caps = ap (λ (f : RoundFacts). f.cap) numbered in
      let seats = ap (λ (f : RoundFacts). f.seats) numbered in
      let small = next_small round in
      let shown = round.fits.holds.laid.fixed_words.next_shown in
      put_moved round old drawn_view there drawn_goes (set words NEXT (word + len)) owners (state.next + len)
      (subst (λ (n : ℕ). HoldsRound facts (set words NEXT (n + len))
      (put round old drawn_view there drawn_goes owners (state.next + len)) history) (sym is) (drawn_holds within))
      (DrawTells old step word) (record {
        found = subst (FindsNext old) (sym is) (finds_next round old.number old there numbered);
        small = subst (λ (n : ℕ). word ≤ (n + 1) * max_draw) (sym seats) (omega (arith, small, shown, is));
        fresh = ap (words_at old.hands) is ∙ nothing_there;
        within = λ le. λ i. view_after_draw (sym is i) (sym first i) old;
        past = λ gt. absurd (omega arith);
      })

  -- and past its end
  moved_past : (word : ℕ) → word ≡ state.next → (step : TableStep ℕ) → step.first ≡ len → len ≤ max_draw → facts.cap < state.next + len
      → Moved facts (set words NEXT (word + len)) state history old (DrawTells old step word)
  moved_past word is step first short past =
      let numbered = (round.fits.numbered old.number old there).same_round in
      let caps = ap (λ (f : RoundFacts). f.cap) numbered in
      let seats = ap (λ (f : RoundFacts). f.seats) numbered in
      let small = next_small round in
      let shown = round.fits.holds.laid.fixed_words.next_shown in
      put_moved round old overdrawn_view there overdrawn_goes (set words NEXT (word + len)) state.owners (state.next + len)
      (subst (λ (n : ℕ). HoldsRound facts (set words NEXT (n + len))
      (put round old overdrawn_view there overdrawn_goes state.owners (state.next + len)) history) (sym is) (overdrawn_holds short past))
      (DrawTells old step word) (record {
        found = subst (FindsNext old) (sym is) (finds_next round old.number old there numbered);
        small = subst (λ (n : ℕ). word ≤ (n + 1) * max_draw) (sym seats) (omega (arith, small, shown, is));
        fresh = ap (words_at old.hands) is ∙ nothing_there;
        within = λ le. absurd (omega arith);
        past = λ gt. λ i. view_after_overdraw (sym is i) (sym first i) old;
      })

-- whatever the round is, a pass that isn't spent may draw
pub draw_moves : (facts : RoundFacts) (old : PassView) (step : TableStep ℕ) → old.spent ≡ None → step.first ≤ max_draw
    → Moves facts old (Draw step.first) (λ word view. DrawTells old step word view)
draw_moves facts old step unspent short words state history round there small =
    let shown : get_or words NEXT 0 ≡ state.next = round.fits.holds.laid.fixed_words.next_shown in
    elim (dec_le (state.next + step.first) facts.cap) [
      | yes within ↦ moved_within round old there unspent step.first (get_or words NEXT 0) shown step refl within
      | no past ↦ moved_past round old there unspent step.first (get_or words NEXT 0) shown step refl short (lt_of_not-le past)
    ]
