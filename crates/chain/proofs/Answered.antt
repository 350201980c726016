-- Where all records ask for inserts, the key of each whose call was begun is a member at the end of the chain.
use Rattle.std.proofs.Common.{◌≡◌, ℕ, Bool, true, List, [], ◌∷◌, take, slice_index, inl, inr, sym, ap, ap₂, ◌∙◌, subst}
use Rattle.std.specs.List.{All, Any}
use Rattle.std.proofs.lemmas.List.{take-append-le}
use Rattle.std.proofs.lemmas.List.Elements.{All-head, All-tail}
use Rattle.set_model.specs.History.{members_after}
use Rattle.set_model.specs.Keys.{is_in}
use Rattle.set_model.proofs.LawHistory.{members_after-append}
use Rattle.chain.specs.Chain.{AllFrom, AnswersEachCall, Asked, IsEntryOf, IsOfRecord, RoundEnd, WasReading, asked_at, begun_in, chain_of, changes_nothing, entries_of, number_of_entry, numbers_by, numbers_in}
use Rattle.chain.proofs.Begun.{WasBegun-is_in, is_in-append_cases}
use Rattle.chain.proofs.Inserting.{inserts_add, inserts_keep, inserts_keep_from}
use Rattle.chain.proofs.Recorded.{AskInserts, IsRecorded, asks_insert, chain_inserts, entries_insert, entry_keys-place}

module _ (asked : List Asked) (inserts : AskInserts asked) (members : ℕ → Bool) (round : RoundEnd)
    (recorded : IsRecorded asked round) where
  -- an entry of the call puts its key in
  by_entry : (who serial : ℕ) → Any (IsEntryOf who serial) (entries_of round)
      → members_after members (entries_of round) (asked_at asked (slice_index (numbers_by round.made who) serial)).key ≡ true
  by_entry who serial any =
      let entry = any.1 in
      let is = subst (IsOfRecord asked round.made) any.3 (recorded any.0 entry any.2) in
      let same : number_of_entry round.made entry ≡ slice_index (numbers_by round.made who) serial =
      ap₂ (λ w s. slice_index (numbers_by round.made w) s) any.4.worker any.4.call in
      let key = is.key ∙ ap (λ n. (asked_at asked n).key) same in
      subst (λ k. members_after members (entries_of round) k ≡ true) key
      (inserts_add members (entries_of round) entry.key (entries_insert asked round.made (entries_of round) inserts recorded)
      (entry_keys-place (entries_of round) any.0 entry any.2 any.3))

  -- an insert that changed nothing found its key in the set
  by_reading : (number : ℕ) → WasReading members round.closing.front (asked_at asked number)
      → members_after members (entries_of round) (asked_at asked number).key ≡ true
  by_reading number was =
      let front = round.closing.front in
      let key = (asked_at asked number).key in
      let there : members_after members (take was.place front) key ≡ true =
      subst (λ call. changes_nothing call (members_after members (take was.place front) key) ≡ true)
      (asks_insert asked number inserts) was.reading in
      let cut = take-append-le was.place front round.settled was.within in
      inserts_keep_from members (entries_of round) was.place key
      (entries_insert asked round.made (entries_of round) inserts recorded)
      (subst (λ es. members_after members es key ≡ true) (sym cut) there)

  -- a record whose call was begun in the round
  round_adds : (number : ℕ) → AnswersEachCall asked members round → is_in (numbers_in round.made) number ≡ true
      → members_after members (entries_of round) (asked_at asked number).key ≡ true
  round_adds number answered here =
      let call = WasBegun-is_in round.made number here in
      let its = slice_index (numbers_by round.made call.who) call.serial in
      subst (λ n. members_after members (entries_of round) (asked_at asked n).key ≡ true) call.same
      (elim (answered call.who call.serial call.begun)
      as (λ _. members_after members (entries_of round) (asked_at asked its).key ≡ true) [
        | inl any ↦ by_entry call.who call.serial any
        | inr was ↦ by_reading its was
      ])

module _ (asked : List Asked) (inserts : AskInserts asked) where
  -- a record whose call was begun in any round
  pub chain_adds : (members : ℕ → Bool) (rounds : List RoundEnd) (number : ℕ) → All (IsRecorded asked) rounds
      → AllFrom (AnswersEachCall asked) members rounds → is_in (begun_in rounds) number ≡ true
      → members_after members (chain_of rounds) (asked_at asked number).key ≡ true
  chain_adds members [] number recorded answered here = absurd cc
  chain_adds members (round ∷ rounds) number recorded answered here =
      let key = (asked_at asked number).key in
      let after = members_after members (entries_of round) in
      let first = All-head (IsRecorded asked) round rounds recorded in
      let others = All-tail (IsRecorded asked) round rounds recorded in
      ap (λ m. m key) (members_after-append members (entries_of round) (chain_of rounds))
      ∙ elim (is_in-append_cases (numbers_in round.made) (begun_in rounds) number here)
      as (λ _. members_after after (chain_of rounds) key ≡ true) [
        | inl in_round ↦
            inserts_keep after (chain_of rounds) key (chain_inserts asked rounds inserts others)
            (round_adds asked inserts members round first number answered.0 in_round)
        | inr behind ↦ chain_adds after rounds number others answered.1 behind
      ]
