-- The chain of no round, the chain with one round more, and the rounds that a chain is made of.
use Rattle.std.proofs.Common.{◌≡◌, ℕ, Bool, List, [], ◌∷◌, ◌++◌, length, append_assoc, sym, ap, subst, ◌∙◌}
use Rattle.std.specs.List.{All, flat_map, range_with_len}
use Rattle.std.specs.List.Sorted.{IsPermutation}
use Rattle.std.proofs.lemmas.List.{append-nil}
use Rattle.std.proofs.lemmas.List.Concat.{flat_map-append}
use Rattle.std.proofs.lemmas.List.Elements.{All-nil, All-head, All-tail, All-push}
use Rattle.std.proofs.lemmas.List.Sorted.{IsPermutation-refl, IsPermutation-sym, IsPermutation-trans, IsPermutation-append_right}
use Rattle.set_model.specs.History.{IsLegal, members_after}
use Rattle.set_model.proofs.LawHistory.{members_after-append, IsLegal-append}
use Rattle.chain.specs.Changing.{changing_in, changing_of}
use Rattle.chain.specs.Chain.{Asked, RoundEnd, AllFrom, AnswersEachCall, CountsCalls, HasKeysAfter, HasOrder, IsRunChain, IsOfRecord, IsRunRound, SettlesLast, ShowCauses, begun_in, chain_of, entries_of, no_key, numbers_in}

-- what one element more adds to a list of lists put together
flat_map-push : {X A : Type 0} (parts : X → List A) (items : List X) (item : X)
    → flat_map parts (items ++ item ∷ []) ≡ flat_map parts items ++ parts item
flat_map-push parts items item =
    flat_map-append parts items (item ∷ []) ∙ ap (λ more. flat_map parts items ++ more) (append-nil (parts item))

-- a round more adds its entries to the chain
pub chain_of-push : (rounds : List RoundEnd) (round : RoundEnd)
    → chain_of (rounds ++ round ∷ []) ≡ chain_of rounds ++ entries_of round
chain_of-push rounds round = flat_map-push entries_of rounds round

-- and its numbers to those that were begun
pub begun_in-push : (rounds : List RoundEnd) (round : RoundEnd)
    → begun_in (rounds ++ round ∷ []) ≡ begun_in rounds ++ numbers_in round.made
begun_in-push rounds round = flat_map-push (λ round. numbers_in round.made) rounds round

-- and to the records whose insert changed the set those of its own
pub changing_of-push : (rounds : List RoundEnd) (round : RoundEnd)
    → changing_of (rounds ++ round ∷ []) ≡ changing_of rounds ++ changing_in round
changing_of-push rounds round = flat_map-push changing_in rounds round

-- what holds with each round, and with one more from the members that the others leave, holds with all
pub AllFrom-push : (Fact : (ℕ → Bool) → RoundEnd → Type 0) (members : ℕ → Bool) (rounds : List RoundEnd) (round : RoundEnd)
    → AllFrom Fact members rounds → Fact (members_after members (chain_of rounds)) round → AllFrom Fact members (rounds ++ round ∷ [])
AllFrom-push Fact members [] round all fact = (fact, tt)
AllFrom-push Fact members (first ∷ rounds) round all fact = (
  all.0,
  AllFrom-push Fact (members_after members (entries_of first)) rounds round all.1
      (subst (λ left. Fact left round) (members_after-append members (entries_of first) (chain_of rounds)) fact),
)

-- a chain with one round more is legal where both are
legal-push : (members : ℕ → Bool) (rounds : List RoundEnd) (round : RoundEnd) → IsLegal members (chain_of rounds)
    → IsLegal (members_after members (chain_of rounds)) (entries_of round) → IsLegal members (chain_of (rounds ++ round ∷ []))
legal-push members rounds round before behind =
    subst (IsLegal members) (sym (chain_of-push rounds round))
    ((IsLegal-append members (chain_of rounds) (entries_of round)).1 (before, behind))

-- a round's numbers, taken from those still to come, go to those that were begun
once-push : (all left rest : List ℕ) (rounds : List RoundEnd) (round : RoundEnd) → IsPermutation (begun_in rounds ++ left) all
    → IsPermutation left (numbers_in round.made ++ rest) → IsPermutation (begun_in (rounds ++ round ∷ []) ++ rest) all
once-push all left rest rounds round once taken =
    let begun = begun_in rounds in
    let made = numbers_in round.made in
    let back = IsPermutation-append_right begun (made ++ rest) left (IsPermutation-sym left (made ++ rest) taken) in
    subst (λ numbers. IsPermutation numbers all)
    (sym (ap (λ numbers. numbers ++ rest) (begun_in-push rounds round) ∙ append_assoc begun made rest))
    (IsPermutation-trans (begun ++ (made ++ rest)) (begun ++ left) all back once)

-- before the first round all records are still to come
pub chain_none : (asked : List Asked) (turns : ℕ) → IsRunChain asked turns [] (range_with_len 0 (length asked))
chain_none asked turns = record {
  legal = tt;
  recorded = All-nil (λ round. All (IsOfRecord asked round.made) (entries_of round));
  order = All-nil HasOrder;
  once = IsPermutation-refl (range_with_len 0 (length asked));
  counted = All-nil CountsCalls;
  keys = tt;
  last = All-nil SettlesLast;
  shown = All-nil (ShowCauses turns);
  answered = tt;
}

-- a round from the members that the chain leaves, of records that were still to come, makes it longer
pub chain_push : (asked : List Asked) (turns : ℕ) (rounds : List RoundEnd) (left rest : List ℕ) (round : RoundEnd)
    → IsRunChain asked turns rounds left → IsRunRound asked turns (members_after no_key (chain_of rounds)) round
    → IsPermutation left (numbers_in round.made ++ rest) → IsRunChain asked turns (rounds ++ round ∷ []) rest
chain_push asked turns rounds left rest round chain is taken = record {
  legal = legal-push no_key rounds round chain.legal is.legal;
  recorded = All-push (λ round. All (IsOfRecord asked round.made) (entries_of round)) rounds round chain.recorded is.recorded;
  order = All-push HasOrder rounds round chain.order is.order;
  once = once-push (range_with_len 0 (length asked)) left rest rounds round chain.once taken;
  counted = All-push CountsCalls rounds round chain.counted is.counted;
  keys = AllFrom-push HasKeysAfter no_key rounds round chain.keys is.keys;
  last = All-push SettlesLast rounds round chain.last is.last;
  shown = All-push (ShowCauses turns) rounds round chain.shown is.shown;
  answered = AllFrom-push (AnswersEachCall asked) no_key rounds round chain.answered is.answered;
}

-- the parts of a chain, from any members on, are those of its rounds
rounds_from : (asked : List Asked) (turns : ℕ) (members : ℕ → Bool) (rounds : List RoundEnd) → IsLegal members (chain_of rounds)
    → All (λ round. All (IsOfRecord asked round.made) (entries_of round)) rounds → All HasOrder rounds → All CountsCalls rounds
    → AllFrom HasKeysAfter members rounds → All SettlesLast rounds → All (ShowCauses turns) rounds
    → AllFrom (AnswersEachCall asked) members rounds → AllFrom (IsRunRound asked turns) members rounds
rounds_from asked turns members [] legal recorded order counted keys last shown answered = tt
rounds_from asked turns members (round ∷ rounds) legal recorded order counted keys last shown answered =
    let Recorded : RoundEnd → Type 0 = λ round. All (IsOfRecord asked round.made) (entries_of round) in
    let both = (IsLegal-append members (entries_of round) (chain_of rounds)).0 legal in
    let rest =
    rounds_from asked turns (members_after members (entries_of round)) rounds both.1 (All-tail Recorded round rounds recorded)
    (All-tail HasOrder round rounds order) (All-tail CountsCalls round rounds counted) keys.1 (All-tail SettlesLast round rounds last)
    (All-tail (ShowCauses turns) round rounds shown) answered.1 in (
      record {
        legal = both.0;
        recorded = All-head Recorded round rounds recorded;
        order = All-head HasOrder round rounds order;
        counted = All-head CountsCalls round rounds counted;
        keys = keys.0;
        last = All-head SettlesLast round rounds last;
        shown = All-head (ShowCauses turns) round rounds shown;
        answered = answered.0;
      },
      rest,
    )

-- each round of a chain is one from the members that those before it leave
pub chain_rounds : (asked : List Asked) (turns : ℕ) (rounds : List RoundEnd) (left : List ℕ) → IsRunChain asked turns rounds left
    → AllFrom (IsRunRound asked turns) no_key rounds
chain_rounds asked turns rounds left chain =
    rounds_from asked turns no_key rounds chain.legal chain.recorded chain.order chain.counted chain.keys chain.last chain.shown chain.answered
