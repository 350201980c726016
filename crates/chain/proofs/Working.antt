-- A worker of a round that ended: its pass stands at its number, and what it did is in the round's history.
use Rattle.std.proofs.Common.{◌≡◌, ℕ, ◌+◌, ◌-◌, ◌<◌, ◌⊎◌, true, nat_eq, List, [], length, map, slice_index, slice_index_or, inl, inr, sym, ap, ◌∙◌, subst, arith}
use Rattle.std.specs.List.{All, Any}
use Rattle.std.proofs.lemmas.Bool.{eq-eqb}
use Rattle.std.proofs.lemmas.List.{get_or-map, length-map}
use Rattle.std.proofs.lemmas.List.Elements.{All-same}
use Rattle.std.proofs.lemmas.List.FromFn.{get_or-range_with_len}
use Rattle.set_model.specs.Keys.{is_in}
use Rattle.set_model.specs.declared.entry.Entry.{Entry}
use Rattle.step_core.specs.declared.views.RoundFacts.{RoundFacts}
use Rattle.cells.specs.Past.{IsInOrder, entries_by}
use Rattle.cells.specs.Tokens.{PassValue, fresh_pass}
use Rattle.rounds.specs.Closings.{Closes, ClosingValue, HasPartOf, account_at, account_of, no_account}
use Rattle.rounds.specs.Halts.{HaltedValue, number_of}
use Rattle.chain.specs.Chain.{Asked, IsEntryOf, WasReading, asked_at, numbers_by}
use Rattle.chain.specs.Workers.{HandedIn, HaveWorked, HasMade, IsMine, WasAnswered}
use Rattle.chain.proofs.Filtering.{All-unfilter, Any-unfilter, reading_begins}
use Rattle.chain.proofs.Refusing.{hand_at, no_hand}

-- the pass with the number
abbrev pub pass_at : HaltedValue → ℕ → PassValue
pass_at halted who = slice_index_or halted.passes who (fresh_pass halted.round 0)

-- the numbers that each worker began
abbrev pub all_made : List HandedIn → List (List ℕ)
all_made hands = map (λ (hand : HandedIn). hand.made) hands

-- the worker with the number: its pass, and what it handed in
pub record IsAtWork (asked : List Asked) (turns : ℕ) (halted : HaltedValue) (closing : ClosingValue) (hands : List HandedIn)
    (changed : List (List ℕ)) (who : ℕ) : Type 0 where
  pub did : HasMade asked turns (hand_at hands who).made (slice_index_or changed who []) (hand_at hands who).refused
      (pass_at halted who)
  pub made : numbers_by (all_made hands) who ≡ (hand_at hands who).made
  pub number : number_of (pass_at halted who) ≡ who
  pub facts : (pass_at halted who).view.facts ≡ halted.round.facts
  pub account : account_at closing.accounts who ≡ account_of (pass_at halted who)
  pub part : HasPartOf closing.front (pass_at halted who)

module _ (asked : List Asked) (turns : ℕ) (halted : HaltedValue) (closing : ClosingValue) (hands : List HandedIn)
    (changed : List (List ℕ)) (closes : Closes halted closing) (worked : HaveWorked asked turns halted hands changed) where
  -- there is one worker for each seat
  pub workers : length hands ≡ halted.round.facts.seats
  workers = worked.count ∙ sym (length-map halted.passes account_of) ∙ sym (ap length closes.accounts) ∙ closes.count

  -- and its pass stands at its number
  pub at_work : (who : ℕ) → who < length hands → IsAtWork asked turns halted closing hands changed who
  at_work who within =
      let none = fresh_pass halted.round 0 in
      let inside : who < length halted.passes = omega (arith, within, worked.count) in
      let shown = get_or-map number_of halted.passes who none 0 inside in
      let range = get_or-range_with_len 0 halted.round.facts.seats who 0 (omega (arith, within, workers)) in
      record {
        did = worked.each who no_hand [] none within;
        made = get_or-map (λ (hand : HandedIn). hand.made) hands who no_hand [] within;
        number = omega (arith, shown, ap (λ numbers. slice_index numbers who) closes.numbered, range);
        facts = (closes.ours who none inside).facts;
        account = ap (λ accounts. account_at accounts who) closes.accounts
            ∙ get_or-map account_of halted.passes who none no_account inside;
        part = closes.history.parts who none inside;
      }

module _ {asked : List Asked} {turns : ℕ} {halted : HaltedValue} {closing : ClosingValue} {hands : List HandedIn}
    {changed : List (List ℕ)} {who : ℕ} (at : IsAtWork asked turns halted closing hands changed who) where
  -- its entries in the history are its pass's own
  pub own : entries_by who closing.front ≡ (pass_at halted who).view.mine
  own = ap (λ number. entries_by number closing.front) (sym at.number) ∙ at.part.own

  -- what holds with each of these
  each_own : (P : Entry → Type 0) → All P (pass_at halted who).view.mine
      → All (λ entry. nat_eq entry.who who ≡ true → P entry) closing.front
  each_own P all =
      All-unfilter (λ (entry : Entry). nat_eq entry.who who) P closing.front
      (All-same P (entries_by who closing.front) (pass_at halted who).view.mine own all)

  -- they stand in the order of its calls
  pub in_order : IsInOrder closing.front who
  in_order = subst (IsInOrder closing.front) at.number at.part.order

  -- each is the call of the record that the worker began
  pub its_own : (place : ℕ) (entry : Entry) → place < length closing.front
      → (slice_index_or closing.front place entry).who ≡ who
      → IsMine asked (hand_at hands who).made (pass_at halted who) (slice_index_or closing.front place entry)
  its_own place entry within is =
      each_own (IsMine asked (hand_at hands who).made (pass_at halted who)) at.did.mine place entry within (eq-eqb _ _ is)

  -- its last call, where it was refused, has no entry in the history
  pub no_entry_of : (serial : ℕ) → (hand_at hands who).refused ≡ true → serial ≡ length (hand_at hands who).made - 1
      → Any (IsEntryOf who serial) closing.front → ⊥
  no_entry_of serial refused last any =
      let IsBelow : Entry → Type 0 = λ entry. entry.serial + 1 < length (hand_at hands who).made in
      let below = each_own IsBelow (at.did.refusal refused).absent any.0 any.1 any.2 in
      let its = subst (λ (entry : Entry). nat_eq entry.who who ≡ true → IsBelow entry) any.3 below (eq-eqb _ _ any.4.worker) in
      omega (arith, its, last, any.4.call)

  -- each of its answered calls has an entry in the history, or was a reading of it
  pub answered_in : (serial : ℕ) → WasAnswered asked (hand_at hands who).made (pass_at halted who) serial
      → Any (IsEntryOf who serial) closing.front
      ⊎ WasReading (is_in halted.round.facts.keys) closing.front (asked_at asked (slice_index (hand_at hands who).made serial))
  answered_in serial (inl any) =
      let its = subst (IsMine asked (hand_at hands who).made (pass_at halted who)) any.3 (at.did.mine any.0 any.1 any.2) in
      let same : IsEntryOf who serial any.1 = record { worker = its.who ∙ at.number; call = any.4 } in
      let Is = IsEntryOf who serial in
      inl (Any-unfilter (λ (entry : Entry). nat_eq entry.who who) Is closing.front
      (subst (Any Is) (sym own) (any.0, any.1, any.2, any.3, same)))
  answered_in serial (inr was) =
      let call = asked_at asked (slice_index (hand_at hands who).made serial) in
      let front = (pass_at halted who).view.front in
      inr (reading_begins (is_in halted.round.facts.keys) front closing.front call at.part.seen
      (subst (λ (facts : RoundFacts). WasReading (is_in facts.keys) front call) at.facts was))
