-- At the end of a round the answered calls of all its passes make one legal history.
use Rattle.std.proofs.Common.{◌≡◌, ℕ, ◌≤◌, Bool, true, false, cond, List, [], ◌∷◌, ◌++◌, map, All, Option, slice_index_or, refl, sym, ap, ◌∙◌, subst, append_assoc, append-nil, arith}
use Rattle.std.specs.List.{filter, range_with_len}
use mathlib.Core.List.{IsPrefix}
use base.Growing.{prefix_trans}
use Rattle.std.proofs.lemmas.List.Elements.{All-cons, All-map, All-nil, All-weaker}
use Rattle.std.proofs.lemmas.List.FromFn.{get_or-range_with_len, length-range_with_len}
use Rattle.std.proofs.lemmas.List.Sorted.{All-permutation}
use Rattle.set_model.specs.Call.{answer_where}
use Rattle.set_model.specs.History.{members_after}
use Rattle.set_model.specs.Keys.{is_in}
use Rattle.set_model.specs.declared.entry.Entry.{Entry}
use Rattle.step_core.specs.declared.views.RoundFacts.{RoundFacts}
use Rattle.cells.specs.Ends.{AreAllPasses, EndsRound, HasView}
use Rattle.cells.specs.Past.{flying_entry}
use Rattle.cells.specs.Tokens.{PassValue, RoundValue, fresh_pass}
use Rattle.fset.specs.Standing.{HasPast}
use Rattle.hash_set.specs.Lives.{GoesOn, HasAnswered, HasLived, MakesCall}
use Rattle.hash_set.specs.OneHistory.{AnsweredCall, ArePassCalls, FollowEachOther, Follows, IsAnswered, IsOneHistory}
use Rattle.hash_set.proofs.laws.OneHistory.{one_history}

-- the entries of calls that were entered
abbrev entered_entries : List AnsweredCall → List Entry
entered_entries calls = map (λ (call : AnsweredCall). call.entry) (filter (λ (call : AnsweredCall). call.entered) calls)

-- a call came behind a moment
record IsSince (old : PassValue) (call : AnsweredCall) : Type 0 where
  front : IsPrefix old.view.front call.before
  serial : old.calls ≤ call.entry.serial

-- what a pass's answered calls tell, from one moment to another
record Tells (keys : List ℕ) (history : List Entry) (old : PassValue) (calls : List AnsweredCall) (new : PassValue) : Type 0 where
  each : All (IsAnswered keys history old.view.number) calls
  since : All (IsSince old) calls
  order : FollowEachOther calls
  mine : new.view.mine ≡ old.view.mine ++ entered_entries calls

-- one call more in front, by whether it was entered
entered_more : (entered : Bool) (call : AnsweredCall) (calls : List AnsweredCall) (mine own : List Entry) → call.entered ≡ entered
    → (entered ≡ true → own ≡ mine ++ call.entry ∷ []) → (entered ≡ false → own ≡ mine)
    → own ++ entered_entries calls ≡ mine ++ entered_entries (call ∷ calls)
entered_more true call calls mine own is entry reading =
    ap (λ (list : List Entry). list ++ entered_entries calls) (entry refl)
    ∙ append_assoc mine (call.entry ∷ []) (entered_entries calls)
    ∙ ap (λ (b : Bool). mine ++ map (λ (call : AnsweredCall). call.entry) (cond b (call ∷ filter (λ (call : AnsweredCall). call.entered) calls)
    (filter (λ (call : AnsweredCall). call.entered) calls))) (sym is)
entered_more false call calls mine own is entry reading =
    ap (λ (list : List Entry). list ++ entered_entries calls) (reading refl)
    ∙ ap (λ (b : Bool). mine ++ map (λ (call : AnsweredCall). call.entry) (cond b (call ∷ filter (λ (call : AnsweredCall). call.entered) calls)
    (filter (λ (call : AnsweredCall). call.entered) calls))) (sym is)

module _ (keys : List ℕ) (history : List Entry) (call : AnsweredCall) (calls : List AnsweredCall) (old start next : PassValue)
    (goes : GoesOn old start) (makes : MakesCall call start next) (is_keys : old.view.facts.keys ≡ keys)
    (begins : IsPrefix next.view.front history) where
  -- the call is answered
  answered : IsAnswered keys history old.view.number call
  answered = record {
    who = makes.who ∙ goes.number;
    grows = subst (λ (z : List Entry × List Entry). IsPrefix z.0 z.1) (λ i. (sym makes.before i, sym makes.after i)) makes.grows;
    begins = subst (λ (front : List Entry). IsPrefix front history) (sym makes.after) begins;
    entry = λ is. subst (λ (z : List Entry × List Entry). HasPast z.0 z.1 call.entry) (λ i. (sym makes.before i, sym makes.after i))
        (makes.entry is).past;
    reading = λ is. (
      (makes.reading is).0,
      (makes.reading is).1.answer_is
          ∙ (λ i. answer_where call.entry.call (members_after
          (is_in ((ap (λ (facts : RoundFacts). facts.keys) (makes.facts ∙ goes.facts) ∙ is_keys) i)) (sym makes.after i) call.entry.key)),
    );
  }

  -- it came behind the first moment, and those behind it came behind it
  first_since : IsSince old call
  first_since = record {
    front = subst (IsPrefix old.view.front) (sym makes.before) goes.front;
    serial = omega (arith, makes.serial, goes.calls);
  }

  later_since : (other : AnsweredCall) → IsSince next other → IsSince old other
  later_since other since = record {
    front = prefix_trans old.view.front start.view.front other.before goes.front
        (prefix_trans start.view.front next.view.front other.before makes.grows since.front);
    serial = omega (arith, since.serial, makes.calls, goes.calls);
  }

  follows : (other : AnsweredCall) → IsSince next other → Follows call other
  follows other since = record {
    front = subst (λ (front : List Entry). IsPrefix front other.before) (sym makes.after) since.front;
    serial = omega (arith, since.serial, makes.calls, makes.serial);
  }

  -- so the calls with this one in front tell what they should
  one_more : (new : PassValue) → Tells keys history next calls new → Tells keys history old (call ∷ calls) new
  one_more new tells = record {
    each = All-cons (IsAnswered keys history old.view.number) call calls answered
        (subst (λ (number : ℕ). All (IsAnswered keys history number) calls) (makes.number ∙ goes.number) tells.each);
    since = All-cons (IsSince old) call calls first_since (All-weaker (IsSince next) (IsSince old) later_since calls tells.since);
    order = (All-weaker (IsSince next) (Follows call) follows calls tells.since, tells.order);
    mine = tells.mine ∙ entered_more call.entered call calls old.view.mine next.view.mine refl
        (λ is. (makes.entry is).mine ∙ ap (λ (list : List Entry). list ++ call.entry ∷ []) goes.mine)
        (λ is. (makes.reading is).1.own.mine ∙ goes.mine);
  }

-- how far a pass has seen, once it had these calls answered
later_front : (old : PassValue) (calls : List AnsweredCall) (new : PassValue) → HasAnswered old calls new → IsPrefix old.view.front new.view.front
later_front old [] new goes = goes.front
later_front old (call ∷ calls) new (start, next, goes, makes, rest) =
    prefix_trans old.view.front start.view.front new.view.front goes.front
    (prefix_trans start.view.front next.view.front new.view.front makes.grows (later_front next calls new rest))

-- A pass's answered calls tell what the law on one history asks.
tells_of : (keys : List ℕ) (history : List Entry) (old : PassValue) (calls : List AnsweredCall) (new : PassValue) → HasAnswered old calls new
    → old.view.facts.keys ≡ keys → IsPrefix new.view.front history → Tells keys history old calls new
tells_of keys history old [] new goes is_keys begins = record {
  each = All-nil (IsAnswered keys history old.view.number);
  since = All-nil (IsSince old);
  order = tt;
  mine = goes.mine ∙ sym (append-nil old.view.mine);
}
tells_of keys history old (call ∷ calls) new (start, next, goes, makes, rest) is_keys begins =
    one_more keys history call calls old start next goes makes is_keys
    (prefix_trans next.view.front new.view.front history (later_front next calls new rest) begins) new
    (tells_of keys history next calls new rest (ap (λ (facts : RoundFacts). facts.keys) (makes.facts ∙ goes.facts) ∙ is_keys) begins)

module _ (round : RoundValue) (passes : List PassValue) (words : List ℕ) (history : List Entry) (calls : ℕ → List AnsweredCall)
    (all : AreAllPasses round passes) (ends : EndsRound round.facts passes words history) (lived : All (HasLived round calls) passes) where
  abbrev IsTold : ℕ → Type 0
  IsTold number = ArePassCalls round.facts.keys history number (calls number)

  -- the calls of a pass that is among them
  told : (pass : PassValue) → HasView ends.state pass → HasLived round calls pass → IsTold pass.view.number
  told pass there lived =
      let number = pass.view.number in
      let past = ends.holds.past in
      let tells = tells_of round.facts.keys history (fresh_pass round number) (calls number) pass lived.answered refl
      (past.begun number pass.view there).front in
      record {
        each = tells.each;
        order = tells.order;
        own = past.own number pass.view there
            ∙ ap (λ (flight : Option ℕ). pass.view.mine ++ flying_entry ends.state.blocks ends.state.cells flight) lived.idle
            ∙ append-nil pass.view.mine ∙ tells.mine;
      }

  -- and so those of each number
  told_all : All IsTold (range_with_len 0 round.facts.seats)
  told_all = All-permutation IsTold (map (λ (pass : PassValue). pass.view.number) passes) (range_with_len 0 round.facts.seats) all.once
      (All-map IsTold (λ (pass : PassValue). pass.view.number) passes
      (λ k d within. told (slice_index_or passes k d) (ends.views k d within) (lived k d within)))

  -- Where each pass has lived so in the round that ended, all answered calls make one legal history.
  pub answered_calls_are_one_history : (whole : List Entry) × IsOneHistory round.facts.keys history round.facts.seats calls whole
  answered_calls_are_one_history = one_history round.facts.keys history round.facts.seats calls ends.holds.past.legal ends.holds.past.who
      (λ number less. subst IsTold (get_or-range_with_len 0 round.facts.seats number 0 less ∙ omega arith)
      (told_all number 0 (omega (arith, less, length-range_with_len 0 round.facts.seats))))
