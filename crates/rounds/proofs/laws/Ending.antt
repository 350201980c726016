-- What a halted round ends with is what its closing says.
use Rattle.std.proofs.Common.{◌≡◌, ℕ, ◌+◌, List, [], ◌∷◌, ◌++◌, All, Option, None, append-nil, map, slice_index, slice_index_or, sum, sum_by, refl, ap, sym, ◌∙◌, subst, arith}
use Rattle.std.specs.Cmp.{nat_cmp_total}
use Rattle.std.specs.FinSet as set
use Rattle.std.specs.List.Sorted.{IsStrictlyIncreasing}
use Rattle.std.proofs.lemmas.List.{length-map}
use Rattle.std.proofs.lemmas.List.Elements.{All-map}
use Rattle.std.proofs.lemmas.List.Sums.{sum-map}
use Rattle.std.proofs.lemmas.List.Sorted.{sum_by-IsPermutation}
use Rattle.set_model.specs.History.{members_after, set_after}
use Rattle.set_model.specs.Keys.{is_in, keys_set}
use Rattle.set_model.specs.declared.entry.Entry.{Entry}
use Rattle.step_core.specs.Content.{HasMembers, exponent_of}
use Rattle.step_core.specs.Format.{next_of}
use Rattle.step_core.specs.declared.views.PassView.{PassView}
use Rattle.step_core.specs.declared.views.RoundFacts.{RoundFacts}
use Rattle.step_core.proofs.lists.Histories.{same_members_are_one}
use Rattle.step_core.proofs.seen.Members.{is_member-held}
use Rattle.step_core.proofs.seen.Predecessor.{exponent_shown, head_same}
use Rattle.cells.specs.Ends.{EndsRound, HasView}
use Rattle.cells.specs.Lone.{KnowsTable, head_generation, ledger_of}
use Rattle.cells.specs.Past.{flying_entry}
use Rattle.cells.specs.Tokens.{HasBegunCalls, IsPassOf, PassValue}
use Rattle.cells.proofs.laws.Lone.{ledger_of-exponent, ledger_of-next}
use Rattle.cells.proofs.laws.LoneRound.{finds_next, lone_front}
use Rattle.cells.proofs.laws.Outcomes.{ledger_has, ledger_rises}
use Rattle.rounds.specs.Closings.{AccountValue, Closes, ClosesLedger, ClosingValue, HasPartOf, IsPaidFor, IsWholeHistory, account_of, all_drawn, all_won}
use Rattle.rounds.specs.Halts.{AreAtRest, AreNumbered, HaltedValue}
use Rattle.rounds.proofs.laws.Halting.{numbered_count}

-- two maps, one behind the other
map-twice : {A B C : Type 0} (g : B → C) (f : A → B) (list : List A) → map g (map f list) ≡ map (λ (item : A). g (f item)) list
map-twice {A} {B} {C} g f [] = refl
map-twice {A} {B} {C} g f (item ∷ list) = ap (λ (rest : List C). g (f item) ∷ rest) (map-twice g f list)

-- a sum over a list that a map gives
sum_by-map : {A B : Type 0} (count : B → ℕ) (f : A → B) (list : List A) → sum_by count (map f list) ≡ sum_by (λ (item : A). count (f item)) list
sum_by-map {A} {B} count f list =
    sym (sum-map count (map f list)) ∙ ap sum (map-twice count f list) ∙ sum-map (λ (item : A). count (f item)) list

module _ (facts : RoundFacts) (passes : List PassValue) (words : List ℕ) (history : List Entry)
    (ends : EndsRound facts passes words history) (idle : AreAtRest passes) where
  abbrev accounts : List AccountValue
  accounts = map account_of passes

  -- a pass's part of the history
  part_of : (pass : PassValue) → HasView ends.state pass → pass.view.flight ≡ None → HasBegunCalls pass → HasPartOf history pass
  part_of pass there rests begun =
      let past = ends.holds.past in
      record {
        own = past.own pass.view.number pass.view there
            ∙ ap (λ (flight : Option ℕ). pass.view.mine ++ flying_entry ends.state.blocks ends.state.cells flight) rests
            ∙ append-nil pass.view.mine;
        order = past.ordered pass.view.number;
        begun = begun;
        seen = (past.begun pass.view.number pass.view there).front;
      }

  -- it is whole
  pub whole_history : IsWholeHistory facts passes history
  whole_history = record {
    legal = ends.holds.past.legal;
    who = ends.holds.past.who;
    parts = λ k d within. part_of (slice_index_or passes k d) (ends.views k d within) (idle k d within) (ends.serials k d within);
  }

  -- the keys that the words hold are the set after it
  pub closing_keys : (keys : List ℕ) → HasMembers words (keys_set keys) → keys_set keys ≡ set_after (keys_set facts.keys) history
  closing_keys keys holds =
      set.same_set nat_cmp_total set.nat_cmp-IsAntisymmetric (keys_set keys) (set_after (keys_set facts.keys) history)
      (λ key. holds key ∙ sym (ends.members key))

  -- a sum over the views is one over the accounts
  sum_of : (count : PassView → ℕ) → sum_by count ends.state.views ≡ sum_by (λ (pass : PassValue). count pass.view) passes
  sum_of count =
      let view_of : PassValue → PassView = λ pass. pass.view in
      sum_by-IsPermutation count (map view_of passes) ends.state.views ends.all ∙ sum_by-map count view_of passes

  -- NEXT is the opening words and all that was drawn
  pub closing_next : next_of words ≡ facts.opened + all_drawn accounts
  closing_next =
      ends.holds.fits.holds.laid.fixed_words.next_shown
      ∙ ends.holds.fits.account.sum
      ∙ ap (λ (count : ℕ). facts.opened + count)
      (sum_of (λ (view : PassView). view.drawn) ∙ sym (sum_by-map (λ (account : AccountValue). account.drawn) account_of passes))

  -- each lost turn was an exchange that another pass won
  pub closing_paid : All (IsPaidFor accounts) accounts
  closing_paid =
      let won : sum_by (λ (view : PassView). view.won) ends.state.views ≡ all_won accounts =
      sum_of (λ (view : PassView). view.won) ∙ sym (sum_by-map (λ (account : AccountValue). account.won) account_of passes) in
      All-map (IsPaidFor accounts) account_of passes (λ k d within.
      let pass = slice_index_or passes k d in
      omega (arith, won, (ends.holds.paid pass.view.number pass.view (ends.views k d within)).lost))

  module _ (alone : facts.seats ≡ 1) (pass : PassValue) (there : HasView ends.state pass) where
    -- the facts that the round's only pass knows
    same_facts : pass.view.facts ≡ facts
    same_facts = (ends.holds.fits.numbered pass.view.number pass.view there).same_round

    -- the table that it knows
    table : KnowsTable ends.state.head ends.state.blocks ends.state.cells pass.view
    table = ends.holds.alone pass.view.number pass.view there alone

    -- the keys that the words hold are those of its ledger, since it has seen the whole history,
    ledger_keys : (keys : List ℕ) → HasMembers words (keys_set keys) → IsStrictlyIncreasing keys → keys ≡ (ledger_of pass.view).keys
    ledger_keys keys members rises =
        let rising = subst (λ (f : RoundFacts). IsStrictlyIncreasing f.keys) (sym same_facts) ends.holds.small.rising in
        let front = lone_front ends.holds pass.view.number pass.view there alone in
        same_members_are_one keys (ledger_of pass.view).keys rises (ledger_rises pass.view rising) (λ key.
        sym (set.contains-from_list_nat keys key)
        ∙ members key
        ∙ is_member-held ends.holds.fits.holds key
        ∙ ends.holds.members key
        ∙ sym (ledger_has pass.view rising key ∙ (λ i. members_after (is_in (same_facts i).keys) (front i) key)))

    -- the head's exponent is the ledger's,
    ledger_exponent : exponent_of words ≡ (ledger_of pass.view).exponent
    ledger_exponent =
        ap (slice_index words) (head_same ends.holds.fits.holds)
        ∙ exponent_shown ends.holds.fits.holds ends.state.head (head_generation pass.view) table.generation
        ∙ sym (ledger_of-exponent pass.view)

    -- and so is NEXT
    ledger_next : next_of words ≡ (ledger_of pass.view).next
    ledger_next =
        let found = finds_next ends.holds pass.view.number pass.view there same_facts in
        ends.holds.fits.holds.laid.fixed_words.next_shown
        ∙ found.alone (ap (λ (f : RoundFacts). f.seats) same_facts ∙ alone)
        ∙ sym (ledger_of-next pass.view)

  -- So the ledger of the only pass tells how the round ends.
  pub closing_ledger : (closing : ClosingValue) → HasMembers words (keys_set closing.keys) → IsStrictlyIncreasing closing.keys
      → closing.exponent ≡ exponent_of words → closing.next ≡ next_of words → facts.seats ≡ 1 → All (ClosesLedger closing) passes
  closing_ledger closing members rises is_exponent is_next alone k d within =
      let pass = slice_index_or passes k d in
      let there = ends.views k d within in
      record {
        keys = ledger_keys alone pass there closing.keys members rises;
        exponent = is_exponent ∙ ledger_exponent alone pass there;
        next = is_next ∙ ledger_next alone pass there;
      }

-- With the keys that the words hold, and their exponent and NEXT, it is how the halted round ends.
pub closes : (halted : HaltedValue) (keys : List ℕ) (exponent next : ℕ)
    → EndsRound halted.round.facts halted.passes halted.words halted.front
    → All (IsPassOf halted.round) halted.passes → AreNumbered halted.round halted.passes
    → AreAtRest halted.passes
    → HasMembers halted.words (keys_set keys) → IsStrictlyIncreasing keys
    → exponent ≡ exponent_of halted.words → next ≡ next_of halted.words
    → Closes halted (record {
      keys = keys;
      exponent = exponent;
      next = next;
      front = halted.front;
      accounts = map account_of halted.passes;
    })
closes halted keys exponent next ends ours numbered idle members rising is_exponent is_next =
    let facts = halted.round.facts in
    let closing : ClosingValue = record {
      keys = keys;
      exponent = exponent;
      next = next;
      front = halted.front;
      accounts = map account_of halted.passes;
    } in
    record {
      front = refl;
      history = whole_history facts halted.passes halted.words halted.front ends idle;
      rising = rising;
      keys = closing_keys facts halted.passes halted.words halted.front ends idle keys members;
      exponent = is_exponent;
      accounts = refl;
      ours = ours;
      numbered = numbered;
      count = length-map halted.passes account_of ∙ numbered_count halted.round halted.passes numbered;
      next = is_next ∙ closing_next facts halted.passes halted.words halted.front ends idle;
      paid = closing_paid facts halted.passes halted.words halted.front ends idle;
      alone = closing_ledger facts halted.passes halted.words halted.front ends idle closing members rising is_exponent is_next;
    }
