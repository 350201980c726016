-- What stands between two rounds, with one more, and how many keys and records there can be.
use Rattle.std.proofs.Common.{◌≡◌, ◌<◌, ◌≤◌, ℕ, nat_eq, List, [], ◌∷◌, ◌++◌, drop, length, slice_index_or, refl, sym, ap, ◌∙◌, subst, arith}
use Rattle.std.specs.Cmp.{nat_eq_equiv}
use Rattle.std.specs.List.{All, IsDistinct, list_any, range_with_len}
use Rattle.std.specs.List.Sorted.{IsPermutation, IsStrictlyIncreasing}
use Rattle.std.proofs.lemmas.Bool.{ne_eqb}
use Rattle.std.proofs.lemmas.List.{length-append, length-map}
use Rattle.std.proofs.lemmas.List.Elements.{All-drop, All-same}
use Rattle.std.proofs.lemmas.List.FromFn.{get_or-range_with_len, length-range_with_len}
use Rattle.std.proofs.lemmas.List.Sorted.{All-permutation, IsPermutation-append, IsPermutation-refl, IsPermutation-sym, length_permutation}
use Rattle.std.proofs.lemmas.Map.Keys.{IsDistinct-from_apart, below_from_sorted, sorted_from_strictly_increasing}
use Rattle.std.proofs.lemmas.Map.Made.{length-le_from_is_member}
use Rattle.std.proofs.Math.Seq.{drop-append_seam}
use Rattle.set_model.specs.History.{members_after}
use Rattle.set_model.specs.Keys.{is_in}
use Rattle.set_model.proofs.LawHistory.{members_after-append}
use Rattle.chain.specs.Chain.{IsRunChain, IsRunRound, RoundEnd, begun_in, chain_of, entries_of, no_key}
use Rattle.chain.specs.Changing.{changing_in, changing_of}
use Rattle.chain.proofs.Once.{members_are_asked}
use Rattle.chain.proofs.Pushing.{chain_none, chain_of-push, chain_push, changing_of-push}
use Rattle.idfiles.specs.declared.id_record.IdRecord.{IdRecord}
use Rattle.dedup.specs.LoneRun.{IsLoneRun, ids_left}
use Rattle.dedup.specs.Records.{asked_of, ids_at, ids_of}
use Rattle.dedup.specs.Rounds.{AddsRound, HasInserted, IsRunSoFar, round_ended}
use Rattle.dedup.specs.declared.one_round.EndedRound.{EndedRound}
use Rattle.step_core.specs.declared.layout.Plan.{Plan}
use Rattle.dedup.proofs.LawLone.{lone_run-none, lone_run-push}
use Rattle.dedup.proofs.LawRecords.{ask_inserts, asks, keys_asked-records, length-ids_at}

-- keys that rise differ
rising_differ : (keys : List ℕ) → IsStrictlyIncreasing keys → IsDistinct nat_eq keys
rising_differ keys rising =
    IsDistinct-from_apart nat_eq keys (λ i j d less within.
    let below = below_from_sorted keys i j d (sorted_from_strictly_increasing keys rising) less within in
    ne_eqb (slice_index_or keys i d) (slice_index_or keys j d) (λ same. omega (arith, below, same)))

-- as it is asked from either side, a list has the same numbers
is_in-symm : (keys : List ℕ) (key : ℕ) → list_any (nat_eq key) keys ≡ is_in keys key
is_in-symm keys key = λ i. list_any (λ y. nat_eq_equiv.symm key y i) keys

module _ {records : List IdRecord} {plan : Plan} {rounds : List RoundEnd} {keys left changing : List ℕ}
    (inserted : HasInserted records plan rounds keys left changing) where
  -- there are at most as many keys as records
  pub keys-le : length keys ≤ length records
  keys-le =
      let among = length-le_from_is_member nat_eq_equiv keys (ids_of records) (rising_differ keys inserted.rising) (λ key here.
      is_in-symm (ids_of records) key
      ∙ ap (λ all. is_in all key) (sym (keys_asked-records records))
      ∙ members_are_asked (asked_of records) plan.fast rounds left inserted.chain (ask_inserts records) key
      (sym (inserted.keys_are key) ∙ sym (is_in-symm keys key) ∙ here)) in
      omega (arith, among, length-map records (λ (item : IdRecord). item.id))

  -- what is still to come are numbers of records
  pub left_below : All (λ number. number < length records) left
  left_below =
      let Is : ℕ → Type 0 = λ number. number < length records in
      let count = length (asked_of records) in
      let same : count ≡ length records = length-map records asks in
      let begun = begun_in rounds in
      let range : All Is (range_with_len 0 count) = λ k d within.
      let below : k < count = omega (arith, within, length-range_with_len 0 count) in
      omega (arith, get_or-range_with_len 0 count k d below, below, same) in
      let all = All-permutation Is (range_with_len 0 count) (begun ++ left)
      (IsPermutation-sym (begun ++ left) (range_with_len 0 count) inserted.chain.once) range in
      All-same Is left (drop (length begun) (begun ++ left)) (sym (drop-append_seam begun left)) (All-drop Is (length begun) (begun ++ left) all)

  -- and not more than there are records
  pub left-le : length left ≤ length records
  left-le =
      let count = length (asked_of records) in
      omega (
        arith,
        length_permutation (begun_in rounds ++ left) (range_with_len 0 count) inserted.chain.once,
        length-range_with_len 0 count,
        length-append (begun_in rounds) left,
        length-map records asks,
      )

  -- one round more
  pub inserted_push : (ended : EndedRound) → AddsRound records plan keys left ended
      → HasInserted records plan (rounds ++ round_ended ended ∷ []) ended.keys.items ended.left.items (changing ++ ended.changed.items)
  inserted_push ended ends =
      let round = round_ended ended in
      let before : is_in keys ≡ members_after no_key (chain_of rounds) = λ i key. inserted.keys_are key i in
      record {
        chain = chain_push (asked_of records) plan.fast rounds left ended.left.items round inserted.chain
            (subst (λ members. IsRunRound (asked_of records) plan.fast members round) before ends.round) ends.left_are;
        keys_are = λ key. ends.keys_are key
            ∙ ap (λ members. members_after members (entries_of round) key) before
            ∙ sym (ap (λ m. m key) (members_after-append no_key (chain_of rounds) (entries_of round)))
            ∙ ap (λ entries. members_after no_key entries key) (sym (chain_of-push rounds round));
        lone = λ one.
            let its = ends.lone one in
            let room = plan.room in
            let some : 0 < length (ids_at records left) = omega (arith, ends.fewer, length-ids_at records left) in
            subst (λ (ids : List ℕ). IsLoneRun room [] (ids_of records) (rounds ++ round ∷ []) ended.keys.items ids) (sym its.left_are)
            (subst (λ (all : List ℕ). IsLoneRun room [] (ids_of records) (rounds ++ round ∷ []) all
            (ids_left room keys (ids_at records left))) (sym its.keys_are)
            (lone_run-push room [] (ids_of records) rounds keys (ids_at records left) round (inserted.lone one) some its.round));
        rising = ends.rising;
        changing_are = subst (λ numbers. IsPermutation numbers (changing ++ ended.changed.items)) (sym (changing_of-push rounds round))
            (IsPermutation-append (changing_of rounds) changing (changing_in round) ended.changed.items inserted.changing_are ends.changing);
      }

-- So it is with the rounds so far.
pub so_far_is : {records : List IdRecord} {plan : Plan} {rounds : List RoundEnd} {keys left changing : List ℕ}
    → HasInserted records plan rounds keys left changing → IsRunSoFar records plan rounds left
so_far_is {keys = keys} inserted = record { chain = inserted.chain; lone = λ one. (keys, inserted.lone one) }

pub so_far : {records : List IdRecord} {plan : Plan} {rounds : List RoundEnd} {keys left changing : List ℕ}
    → HasInserted records plan rounds keys left changing → (still : List ℕ) × IsRunSoFar records plan rounds still
so_far {left = left} inserted = (left, so_far_is inserted)

-- before the first round all records are still to come
pub inserted_none : (records : List IdRecord) (plan : Plan)
    → HasInserted records plan [] [] (range_with_len 0 (length records)) []
inserted_none records plan = record {
  chain = subst (λ count. IsRunChain (asked_of records) plan.fast [] (range_with_len 0 count)) (length-map records asks)
      (chain_none (asked_of records) plan.fast);
  lone = λ one. lone_run-none plan.room records;
  keys_are = λ key. refl;
  rising = λ k less. absurd (omega (arith, less));
  changing_are = IsPermutation-refl [];
}
