-- All answered calls of a round's passes make one legal history.
use Rattle.std.proofs.Common.{◌≡◌, ℕ, ◌<◌, false, List, [], length, All, refl, sym, ◌∙◌, subst, arith}
use Rattle.std.proofs.lemmas.List.Elements.{All-weaker}
use mathlib.Core.List.{IsPrefix}
use Rattle.set_model.specs.History.{IsLegal, members_after}
use Rattle.set_model.specs.Keys.{is_in}
use Rattle.set_model.specs.declared.entry.Entry.{Entry}
use Rattle.cells.specs.Past.{IsOfPasses}
use Rattle.cells.proofs.laws.Fronts.{shorter_begins, full_front}
use Rattle.hash_set.specs.OneHistory.{AnsweredCall, IsAnswered, ArePassCalls, IsOneHistory, readings_at, gathered, woven}
use Rattle.hash_set.proofs.laws.Gathered.{IsBy, AreOwn, gathered-own, all_gathered}
use Rattle.hash_set.proofs.laws.OwnCalls.{IsCallOf, all_entries, part_with, own_part-calls}
use Rattle.hash_set.proofs.laws.OwnPart.{entries_by-woven}
use Rattle.hash_set.proofs.laws.Places.{calls_have_places}
use Rattle.hash_set.proofs.laws.Readings.{all_readings}
use Rattle.hash_set.proofs.laws.Woven.{ReadsFrom, woven_is_legal, all_woven}

-- two fronts of one length of one history are one
same_front : (front other history : List Entry) → IsPrefix front history → IsPrefix other history → length front ≡ length other
    → front ≡ other
same_front front other history one two same =
    full_front front other (shorter_begins front other history one two (omega arith)) (omega arith)

module _ (keys : List ℕ) (history : List Entry) (pass : ℕ) (calls : List AnsweredCall) (are : ArePassCalls keys history pass calls) where
  -- each call is the pass's
  all_own : All (IsCallOf pass) calls
  all_own = All-weaker (IsAnswered keys history pass) (IsCallOf pass) (λ call answered. answered.who) calls are.each

  -- so are the entries of its readings
  readings_are_own : (place : ℕ) → All (IsBy pass) (readings_at place calls)
  readings_are_own place =
      all_readings (IsBy pass) place calls
      (All-weaker (IsCallOf pass) (λ (call : AnsweredCall). call.entered ≡ false → length call.after ≡ place → IsBy pass call.entry)
      (λ call own read same. own) calls all_own)

  -- the readings that had seen a front read the set that it leaves
  readings_read : (front : List Entry) (place : ℕ) → IsPrefix front history → place ≡ length front
      → All (ReadsFrom (members_after (is_in keys) front)) (readings_at place calls)
  readings_read front place begins is =
      let Reads = ReadsFrom (members_after (is_in keys) front) in
      let Holds = λ (call : AnsweredCall). (call.entered ≡ false → length call.after ≡ place → Reads call.entry) in
      all_readings Reads place calls
      (All-weaker (IsAnswered keys history pass) Holds
      (λ call answered read same.
      subst (λ (seen : List Entry). ReadsFrom (members_after (is_in keys) seen) call.entry)
      (same_front call.after front history answered.begins begins (same ∙ is)) (answered.reading read))
      calls are.each)

  -- its entries of the history, with its readings woven in, are its calls
  own_part_is_calls : part_with pass calls 0 history ≡ all_entries calls
  own_part_is_calls =
      own_part-calls pass 0 history calls all_own
      (calls_have_places keys history pass [] history calls refl (record {
        each = are.each;
        order = are.order;
        begins = All-weaker (IsAnswered keys history pass) (λ (call : AnsweredCall). IsPrefix [] call.before)
            (λ call answered. (call.before, refl)) calls are.each;
      }))
      are.own

-- Where the round's history is legal, and has for each pass the entries of its answered calls, there is one legal history of all of them.
pub one_history : (keys : List ℕ) (history : List Entry) (seats : ℕ) (calls : ℕ → List AnsweredCall) → IsLegal (is_in keys) history
    → All (IsOfPasses seats) history → ((pass : ℕ) → pass < seats → ArePassCalls keys history pass (calls pass))
    → (whole : List Entry) × IsOneHistory keys history seats calls whole
one_history keys history seats calls legal who passes =
    let readings = λ (place pass : ℕ). readings_at place (calls pass) in
    let at = λ (place : ℕ). gathered seats (readings place) in
    let own : (place : ℕ) → AreOwn (readings place) seats =
    λ place pass less. readings_are_own keys history pass (calls pass) (passes pass less) place in (
      woven at 0 history,
      record {
        legal = woven_is_legal at 0 (is_in keys) history (λ front place begins is.
            all_gathered (ReadsFrom (members_after (is_in keys) front)) (readings place) seats (λ pass less.
            readings_read keys history pass (calls pass) (passes pass less) front place begins (omega arith))) legal;
        placed = refl;
        each = λ pass less.
            entries_by-woven pass at (λ place. readings place pass) 0 history
            (λ place. gathered-own (readings place) pass seats less (own place))
            ∙ own_part_is_calls keys history pass (calls pass) (passes pass less);
        who = all_woven (IsOfPasses seats) at 0 history (λ place.
            all_gathered (IsOfPasses seats) (readings place) seats (λ pass less.
            All-weaker (IsBy pass) (IsOfPasses seats) (λ entry is. subst (λ (who : ℕ). who < seats) (sym is) less)
            (readings place pass) (own place pass less))) who;
      },
    )
