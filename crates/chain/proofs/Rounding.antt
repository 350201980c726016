-- A round that ended, with what its workers did and the calls that were settled, is a round of the chain.
use Rattle.std.proofs.Common.{◌≡◌, ℕ, ◌-◌, ◌<◌, ◌≤◌, ◌⊎◌, Bool, true, nat_eq, List, [], ◌++◌, length, map, slice_index, slice_index_or, inl, inr, refl, sym, ap, ◌∙◌, subst, arith}
use Rattle.std.specs.FinSet as set
use Rattle.std.specs.List.{All, Any}
use Rattle.std.proofs.lemmas.Bool.{cases_lt, eqb-true}
use Rattle.std.proofs.lemmas.List.{get_or-map, length-map, same_lists}
use Rattle.std.proofs.lemmas.List.Elements.{All-append, All-filter, filter_passes}
use Rattle.set_model.specs.History.{members_after}
use Rattle.set_model.specs.Keys.{is_in, keys_set}
use Rattle.set_model.specs.declared.entry.Entry.{Entry}
use Rattle.set_model.proofs.LawHistory.{IsLegal-append, sets_and_tests_agree}
use Rattle.cells.specs.Past.{IsInOrder, IsOfPasses, entries_by}
use Rattle.rounds.specs.Closings.{AccountValue, Closes, ClosingValue, no_account}
use Rattle.rounds.specs.Halts.{HaltedValue}
use Rattle.chain.specs.Chain.{AnswersEachCall, Asked, IsEntryOf, IsOfRecord, IsRunRound, RoundEnd, SettlesLast, ShowCauses, ShowsCause, WasReading, asked_at, number_of_entry}
use Rattle.chain.specs.Workers.{HaveWorked, AreSettled, HandedIn, RefusedCall, call_answered}
use Rattle.chain.proofs.Filtering.{Any-append_left, Any-append_right, Any-weaker, answered_or_last}
use Rattle.chain.proofs.Working.{IsAtWork, all_made, answered_in, at_work, in_order, its_own, no_entry_of, workers}
use Rattle.chain.proofs.Refusing.{AnswersLast, hand_at, last_call, no_entry, settled_answer, settled_has, settled_rise}

module _ (asked : List Asked) (turns : ℕ) (halted : HaltedValue) (closing : ClosingValue) (hands : List HandedIn)
    (changed : List (List ℕ)) (closes : Closes halted closing) (worked : HaveWorked asked turns halted hands changed) where
  abbrev made : List (List ℕ)
  made = all_made hands

  seated : length hands ≡ halted.round.facts.seats
  seated = workers asked turns halted closing hands changed closes worked

  at : (who : ℕ) → who < length hands → IsAtWork asked turns halted closing hands changed who
  at who within = at_work asked turns halted closing hands changed closes worked who within

  -- an entry of a call that its worker began is that of a record
  of_record : (entry : Entry) → entry.who < length hands → entry.serial < length (hand_at hands entry.who).made
      → entry.call ≡ (asked_at asked (slice_index (hand_at hands entry.who).made entry.serial)).call
      → entry.key ≡ (asked_at asked (slice_index (hand_at hands entry.who).made entry.serial)).key
      → IsOfRecord asked made entry
  of_record entry worker begun call key =
      let is = (at entry.who worker).made in
      let number : slice_index (hand_at hands entry.who).made entry.serial ≡ number_of_entry made entry =
      ap (λ numbers. slice_index numbers entry.serial) (sym is) in
      record {
        begun = record {
          worker = omega (arith, worker, length-map hands (λ (hand : HandedIn). hand.made));
          begun = omega (arith, begun, ap length is);
        };
        call = call ∙ ap (λ n. (asked_at asked n).call) number;
        key = key ∙ ap (λ n. (asked_at asked n).key) number;
      }

  -- so is each of the history
  recorded_front : All (IsOfRecord asked made) closing.front
  recorded_front k d within =
      let entry = slice_index_or closing.front k d in
      let worker : entry.who < length hands = omega (arith, closes.history.who k d within, seated) in
      let its = its_own (at entry.who worker) k d within refl in
      of_record entry worker its.begun its.call its.key

  -- the entries of a number that is no worker's are none
  no_order : (who : ℕ) → length hands ≤ who → IsInOrder closing.front who
  no_order who past k less =
      let test : Entry → Bool = λ entry. nat_eq entry.who who in
      let inside : k < length (entries_by who closing.front) =
      omega (arith, less, length-map (entries_by who closing.front) (λ (entry : Entry). entry.serial)) in
      let below = All-filter test (IsOfPasses halted.round.facts.seats) closing.front closes.history.who k no_entry inside in
      let same = eqb-true _ _ (filter_passes test closing.front k no_entry inside) in
      absurd (omega (arith, below, same, past, seated))

  -- each worker's entries are in the order of its calls
  has_order : (who : ℕ) → IsInOrder closing.front who
  has_order who = elim (cases_lt who (length hands)) [
    | inl within ↦ in_order (at who within)
    | inr past ↦ no_order who past
  ]

  -- the closing counts the calls
  counted : map (λ (account : AccountValue). account.calls) closing.accounts ≡ map length made
  counted =
      let calls_of : AccountValue → ℕ = λ account. account.calls in
      let count : List ℕ → ℕ = λ numbers. length numbers in
      let one = length-map closing.accounts calls_of in
      let other = length-map made count in
      let given = length-map hands (λ (hand : HandedIn). hand.made) in
      same_lists (map calls_of closing.accounts) (map count made) (omega (arith, one, other, given, closes.count, seated))
      (λ k d within.
      let worker : k < length hands = omega (arith, within, one, closes.count, seated) in
      get_or-map calls_of closing.accounts k no_account d (omega (arith, within, one))
      ∙ ap calls_of (at k worker).account
      ∙ (at k worker).did.calls
      ∙ ap count (sym (at k worker).made)
      ∙ sym (get_or-map count made k [] d (omega (arith, worker, given))))

  -- its keys are the members after the history
  keys_after : (key : ℕ) → is_in closing.keys key ≡ members_after (is_in halted.round.facts.keys) closing.front key
  keys_after key =
      let opening = halted.round.facts.keys in
      let agree = sets_and_tests_agree (is_in opening) (keys_set opening) closing.front (set.contains-from_list_nat opening) in
      sym (set.contains-from_list_nat closing.keys key) ∙ ap (λ keys. set.contains keys key) closes.keys ∙ agree.0 key

  module _ (settled : List Entry)
      (are : AreSettled asked hands (members_after (is_in halted.round.facts.keys) closing.front) settled) where
    abbrev round : RoundEnd
    round = record { closing = closing; settled = settled; made = made }

    abbrev after : ℕ → Bool
    after = members_after (is_in halted.round.facts.keys) closing.front

    -- a settled entry is of the last call of its worker
    settled_at : All (AnswersLast asked hands) settled
    settled_at = settled_answer asked hands after settled are

    recorded_settled : All (IsOfRecord asked made) settled
    recorded_settled k d within =
        let entry = slice_index_or settled k d in
        let its = settled_at k d within in
        let numbers = (hand_at hands entry.who).made in
        let serial : entry.serial ≡ length numbers - 1 = ap (λ (c : RefusedCall). c.serial) its.same in
        let begun : entry.serial < length numbers = omega (arith, serial, ((at entry.who its.worker).did.refusal its.refused).some) in
        of_record entry its.worker begun
        (ap (λ (c : RefusedCall). c.asked.call) its.same ∙ ap (λ n. (asked_at asked (slice_index numbers n)).call) (sym serial))
        (ap (λ (c : RefusedCall). c.asked.key) its.same ∙ ap (λ n. (asked_at asked (slice_index numbers n)).key) (sym serial))

    settles_last : SettlesLast round
    settles_last = record {
      once = settled_rise asked hands after settled are;
      each = λ k d within.
          let entry = slice_index_or settled k d in
          let its = settled_at k d within in
          let numbers = (hand_at hands entry.who).made in
          let serial : entry.serial ≡ length numbers - 1 = ap (λ (c : RefusedCall). c.serial) its.same in
          let some = ((at entry.who its.worker).did.refusal its.refused).some in
          record {
            last = omega (arith, serial, some, ap length (at entry.who its.worker).made);
            refused = no_entry_of (at entry.who its.worker) entry.serial its.refused serial;
          };
    }

    shown : ShowCauses turns round
    shown k d within =
        let entry = slice_index_or settled k d in
        let its = settled_at k d within in
        subst (ShowsCause turns) (sym (at entry.who its.worker).account) ((at entry.who its.worker).did.refusal its.refused).cause

    -- the settled entry of a refused last call
    settled_of : (who serial : ℕ) → who < length hands → (hand_at hands who).refused ≡ true
        → serial ≡ length (hand_at hands who).made - 1 → Any (IsEntryOf who serial) settled
    settled_of who serial worker refused last =
        let call = last_call asked who (hand_at hands who) in
        Any-weaker (λ (entry : Entry). call_answered entry ≡ call) (IsEntryOf who serial) (λ entry same. record {
          worker = ap (λ (c : RefusedCall). c.who) same;
          call = ap (λ (c : RefusedCall). c.serial) same ∙ sym last;
        }) settled (settled_has asked hands after settled are who worker refused)

    -- the call of the worker with the serial has an entry, or was a reading
    abbrev IsAnswered : ℕ → ℕ → List ℕ → Type 0
    IsAnswered who serial numbers =
        Any (IsEntryOf who serial) (closing.front ++ settled)
        ⊎ WasReading (is_in halted.round.facts.keys) closing.front (asked_at asked (slice_index numbers serial))

    in_front : (who serial : ℕ) (numbers : List ℕ) → Any (IsEntryOf who serial) closing.front
        ⊎ WasReading (is_in halted.round.facts.keys) closing.front (asked_at asked (slice_index numbers serial))
        → IsAnswered who serial numbers
    in_front who serial numbers (inl any) = inl (Any-append_left (IsEntryOf who serial) closing.front settled any)
    in_front who serial numbers (inr was) = inr was

    -- so it is with each call that a worker began
    answered : AnswersEachCall asked (is_in halted.round.facts.keys) round
    answered who serial begun =
        let hand = hand_at hands who in
        let worker : who < length hands = omega (arith, begun.worker, length-map hands (λ (hand : HandedIn). hand.made)) in
        let is = (at who worker).made in
        subst (IsAnswered who serial) (sym is)
        (elim (answered_or_last (length hand.made) serial hand.refused (omega (arith, begun.begun, ap length is)))
        as (λ _. IsAnswered who serial hand.made) [
          | inl below ↦ in_front who serial hand.made (answered_in (at who worker) serial ((at who worker).did.answered serial below))
          | inr last ↦
              inl (Any-append_right (IsEntryOf who serial) closing.front settled (settled_of who serial worker last.0 last.1))
        ])

-- A round that ended, whose workers did so, is with their refused calls settled one of the chain.
pub round_is : (asked : List Asked) (turns : ℕ) (halted : HaltedValue) (closing : ClosingValue) (hands : List HandedIn)
    (changed : List (List ℕ)) (settled : List Entry) → Closes halted closing → HaveWorked asked turns halted hands changed
    → AreSettled asked hands (members_after (is_in halted.round.facts.keys) closing.front) settled
    → IsRunRound asked turns (is_in halted.round.facts.keys)
    (record { closing = closing; settled = settled; made = map (λ hand. hand.made) hands })
round_is asked turns halted closing hands changed settled closes worked are =
    let members = is_in halted.round.facts.keys in
    record {
      legal = (IsLegal-append members closing.front settled).1 (closes.history.legal, are.legal);
      recorded = All-append (IsOfRecord asked (all_made hands)) closing.front settled
          (recorded_front asked turns halted closing hands changed closes worked)
          (recorded_settled asked turns halted closing hands changed closes worked settled are);
      order = has_order asked turns halted closing hands changed closes worked;
      counted = counted asked turns halted closing hands changed closes worked;
      keys = keys_after asked turns halted closing hands changed closes worked;
      last = settles_last asked turns halted closing hands changed closes worked settled are;
      shown = shown asked turns halted closing hands changed closes worked settled are;
      answered = answered asked turns halted closing hands changed closes worked settled are;
    }
