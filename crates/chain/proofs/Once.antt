-- Where all records ask for inserts and none is still to come, the members at the end of the chain are the keys that are asked
-- for, and the records whose insert changed the set have each of them once.
use Rattle.std.proofs.Common.{◌≡◌, ℕ, ◌<◌, Bool, true, false, nat_eq, List, [], length, refl, sym, ap, ◌∙◌, subst, arith}
use Rattle.std.specs.Cmp.{nat_cmp_total}
use Rattle.std.specs.FinSet as set
use Rattle.std.specs.List.{All, IsDistinct}
use Rattle.std.proofs.lemmas.Bool.{eq-eqb}
use Rattle.std.proofs.lemmas.List.{get_or-map, length-map}
use Rattle.std.proofs.lemmas.List.Folds.{list_any_at}
use Rattle.set_model.specs.History.{members_after}
use Rattle.set_model.specs.Keys.{is_in, keys_set}
use Rattle.set_model.specs.declared.call.Call.TheVariants.{Insert}
use Rattle.chain.specs.Chain.{Asked, IsRunChain, RoundEnd, asked_at, chain_of, no_call, no_key}
use Rattle.chain.specs.Changing.{HaveEachKeyOnce, changing_of, keys_asked, keys_of_numbers}
use Rattle.chain.proofs.Answered.{chain_adds}
use Rattle.chain.proofs.Begun.{below-begun_in, is_in-begun_in, place_of-is_in}
use Rattle.chain.proofs.Inserting.{changing_keys-differ, members_after-changing, members_after-inserts}
use Rattle.chain.proofs.Recorded.{chain_asks, chain_inserts, keys_of_numbers-changing_of}

same_answer : (one other : Bool) → (one ≡ true → other ≡ true) → (other ≡ true → one ≡ true) → one ≡ other
same_answer true other there back = sym (there refl)
same_answer false true there back = back refl
same_answer false false there back = refl

keys_asked-at : (asked : List Asked) (number : ℕ) → number < length asked
    → is_in (keys_asked asked) (asked_at asked number).key ≡ true
keys_asked-at asked number within =
    let key = (asked_at asked number).key in
    list_any_at (λ y. nat_eq y key) (keys_asked asked) number key
    (omega (arith, within, length-map asked (λ call. call.key)))
    (eq-eqb _ _ (get_or-map (λ call. call.key) asked number no_call key within))

-- the members at the end of the chain are asked for
pub members_are_asked : (asked : List Asked) (turns : ℕ) (rounds : List RoundEnd) (left : List ℕ) → IsRunChain asked turns rounds left
    → All (λ call. call.call ≡ Insert) asked
    → (key : ℕ) → members_after no_key (chain_of rounds) key ≡ true → is_in (keys_asked asked) key ≡ true
members_are_asked asked turns rounds left chain inserts key here =
    let all = chain_inserts asked rounds inserts chain.recorded in
    let found = chain_asks asked rounds key chain.recorded
    (sym (members_after-inserts no_key (chain_of rounds) key all) ∙ here) in
    subst (λ k. is_in (keys_asked asked) k ≡ true) found.asks
    (keys_asked-at asked found.number (below-begun_in (length asked) rounds left chain.once found.number found.within))

-- and where no record is still to come, all keys that are asked for are members
asked_are_members : (asked : List Asked) (turns : ℕ) (rounds : List RoundEnd) → IsRunChain asked turns rounds []
    → All (λ call. call.call ≡ Insert) asked
    → (key : ℕ) → is_in (keys_asked asked) key ≡ true → members_after no_key (chain_of rounds) key ≡ true
asked_are_members asked turns rounds chain inserts key here =
    let place = place_of-is_in (keys_asked asked) key here in
    let within : place.0 < length asked = omega (arith, place.1, length-map asked (λ call. call.key)) in
    let same : (asked_at asked place.0).key ≡ key =
    sym (get_or-map (λ call. call.key) asked place.0 no_call 0 within) ∙ place.2 in
    subst (λ k. members_after no_key (chain_of rounds) k ≡ true) same
    (chain_adds asked inserts no_key rounds place.0 chain.recorded chain.answered
    (is_in-begun_in (length asked) rounds chain.once place.0 within))

-- So the members are then the keys that are asked for.
pub inserts_members : (asked : List Asked) (turns : ℕ) (rounds : List RoundEnd) → IsRunChain asked turns rounds []
    → All (λ call. call.call ≡ Insert) asked
    → (key : ℕ) → members_after no_key (chain_of rounds) key ≡ is_in (keys_asked asked) key
inserts_members asked turns rounds chain inserts key =
    same_answer _ _ (members_are_asked asked turns rounds [] chain inserts key) (asked_are_members asked turns rounds chain inserts key)

-- the records whose insert changed the set have each key that is asked for once
pub inserts_once : (asked : List Asked) (turns : ℕ) (rounds : List RoundEnd) → IsRunChain asked turns rounds []
    → All (λ call. call.call ≡ Insert) asked → HaveEachKeyOnce asked (changing_of rounds)
inserts_once asked turns rounds chain inserts =
    let all = chain_inserts asked rounds inserts chain.recorded in
    let keys = keys_of_numbers-changing_of asked rounds chain.recorded in
    record {
      differ = subst (IsDistinct nat_eq) (sym keys) (changing_keys-differ no_key (chain_of rounds) all chain.legal);
      same = set.same_set nat_cmp_total set.nat_cmp-IsAntisymmetric (keys_set (keys_of_numbers asked (changing_of rounds)))
          (keys_set (keys_asked asked)) (λ key.
          set.contains-from_list_nat (keys_of_numbers asked (changing_of rounds)) key
          ∙ ap (λ ks. is_in ks key) keys
          ∙ sym (members_after-changing no_key (chain_of rounds) key all chain.legal)
          ∙ inserts_members asked turns rounds chain inserts key
          ∙ sym (set.contains-from_list_nat (keys_asked asked) key));
    }
