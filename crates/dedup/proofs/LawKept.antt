-- At the end of a chain the keys are the distinct ids, and the records whose insert changed the set, sorted, have one of each.
use Rattle.std.proofs.Common.{◌≡◌, ◌<◌, ℕ, true, nat_eq, List, [], ◌∷◌, length, slice_index_or, sym, ap, ◌∙◌, subst, arith}
use Rattle.std.specs.Cmp.{nat_cmp_total, nat_eq_equiv}
use Rattle.std.specs.FinSet as set
use Rattle.std.specs.List.{All, IsDistinct, filter}
use Rattle.std.specs.List.Sorted.{IsNonDecreasing, IsNonDecreasingBy, IsPermutation, IsStrictlyIncreasing}
use Rattle.std.proofs.lemmas.List.{get_or-map, length-map}
use Rattle.std.proofs.lemmas.List.Elements.{All-append, All-filter, All-head, All-map, All-nil, All-tail, All-weaker}
use Rattle.std.proofs.lemmas.List.Sorted.{All-permutation, IsPermutation-map, IsPermutation-trans}
use Rattle.std.proofs.lemmas.Map.Keys.{IsDistinct-IsPermutation, IsStrictlyIncreasing-from_distinct}
use Rattle.set_model.specs.Keys.{is_in, keys_set}
use Rattle.set_model.proofs.LawKeys.{keys_set-IsPermutation}
use Rattle.set_model.proofs.LawRising.{rising_list_is_one}
use Rattle.chain.specs.Chain.{Asked, IsOfRecord, RoundEnd, begun_in, entries_of, number_of_entry, numbers_in}
use Rattle.chain.specs.Changing.{changing_in, changing_of, is_changing, keys_of_numbers}
use Rattle.chain.proofs.Begun.{below-begun_in, is_in-append_left, is_in-append_right, is_in-begun}
use Rattle.chain.proofs.Once.{inserts_members, inserts_once}
use Rattle.chain.proofs.Recorded.{IsRecorded}
use Rattle.idfiles.specs.declared.id_record.IdRecord.{IdRecord}
use Rattle.dedup.specs.Records.{AreDistinctIds, AreKept, AreSorted, asked_of, ids_of, no_record, records_at}
use Rattle.dedup.specs.Rounds.{HasInserted}
use Rattle.step_core.specs.declared.layout.Plan.{Plan}
use Rattle.dedup.proofs.LawRecords.{ask_inserts, asks, keys_asked-records, keys_of_numbers-records}

-- records that don't fall by id have ids that don't fall
ids-rise : (sorted : List IdRecord) → IsNonDecreasingBy (λ item. item.id) sorted → IsNonDecreasing (ids_of sorted)
ids-rise [] rises i j d low within = absurd (omega (arith, within))
ids-rise (one ∷ sorted) rises i j d low within =
    let all : List IdRecord = one ∷ sorted in
    let inside : j < length all = omega (arith, within, length-map all (λ item. item.id)) in
    let at : (k : ℕ) → k < length all → slice_index_or (ids_of all) k d ≡ (slice_index_or all k one).id =
    λ k below. get_or-map (λ item. item.id) all k one d below in
    omega (arith, rises i j one low inside, at i (omega (arith, low, inside)), at j inside)

-- rising ids of the records are the only ones
distinct : (records : List IdRecord) (ids : List ℕ) → IsStrictlyIncreasing ids → keys_set ids ≡ keys_set (ids_of records)
    → AreDistinctIds records ids
distinct records ids rising same = record {
  rising = rising;
  same = same;
  only = λ others rise have. rising_list_is_one others ids rise rising (have ∙ sym same);
}

module _ {records : List IdRecord} {plan : Plan} {rounds : List RoundEnd} {keys changing : List ℕ}
    (inserted : HasInserted records plan rounds keys [] changing) where
  -- the keys are the distinct ids
  pub distinct_ids : AreDistinctIds records keys
  distinct_ids =
      distinct records keys inserted.rising
      (set.same_set nat_cmp_total set.nat_cmp-IsAntisymmetric (keys_set keys) (keys_set (ids_of records)) (λ key.
      set.contains-from_list_nat keys key
      ∙ inserted.keys_are key
      ∙ inserts_members (asked_of records) plan.fast rounds inserted.chain (ask_inserts records) key
      ∙ ap (λ all. is_in all key) (keys_asked-records records)
      ∙ sym (set.contains-from_list_nat (ids_of records) key)))

  -- Sorted, those whose insert changed the set have one of each.
  pub kept_are : (kept : List IdRecord) → AreSorted records changing kept → AreKept records rounds kept
  kept_are kept sorted =
      let asked = asked_of records in
      let once = inserts_once asked plan.fast rounds inserted.chain (ask_inserts records) in
      let moved : IsPermutation (records_at records (changing_of rounds)) kept =
      IsPermutation-trans (records_at records (changing_of rounds)) (records_at records changing) kept
      (IsPermutation-map (λ number. slice_index_or records number no_record) (changing_of rounds) changing inserted.changing_are) sorted.same in
      let ids : IsPermutation (ids_of (records_at records (changing_of rounds))) (ids_of kept) =
      IsPermutation-map (λ item. item.id) (records_at records (changing_of rounds)) kept moved in
      let same : keys_of_numbers asked (changing_of rounds) ≡ ids_of (records_at records (changing_of rounds)) =
      keys_of_numbers-records records (changing_of rounds) in
      record {
        distinct = distinct records (ids_of kept)
            (IsStrictlyIncreasing-from_distinct (ids_of kept) (ids-rise kept sorted.rising)
            (IsDistinct-IsPermutation nat_eq nat_eq_equiv.symm (ids_of (records_at records (changing_of rounds))) (ids_of kept) ids
            (subst (IsDistinct nat_eq) same once.differ)))
            (sym (keys_set-IsPermutation (ids_of (records_at records (changing_of rounds))) (ids_of kept) ids)
            ∙ ap keys_set (sym same) ∙ once.same ∙ ap keys_set (keys_asked-records records));
        changing = moved;
      }

-- the record of a changing entry was begun in its round
changing-begun : (asked : List Asked) (round : RoundEnd) → IsRecorded asked round
    → All (λ number. is_in (numbers_in round.made) number ≡ true) (changing_in round)
changing-begun asked round recorded =
    let Is : ℕ → Type 0 = λ number. is_in (numbers_in round.made) number ≡ true in
    All-map Is (number_of_entry round.made) (filter is_changing (entries_of round))
    (All-filter is_changing (λ entry. Is (number_of_entry round.made entry)) (entries_of round)
    (All-weaker (IsOfRecord asked round.made) (λ entry. Is (number_of_entry round.made entry))
    (λ entry is. is_in-begun round.made entry.who entry.serial is.begun) (entries_of round) recorded))

changing_of-begun : (asked : List Asked) (rounds : List RoundEnd) → All (IsRecorded asked) rounds
    → All (λ number. is_in (begun_in rounds) number ≡ true) (changing_of rounds)
changing_of-begun asked [] recorded = All-nil (λ number. is_in (begun_in []) number ≡ true)
changing_of-begun asked (round ∷ rounds) recorded =
    let Is : ℕ → Type 0 = λ number. is_in (begun_in (round ∷ rounds)) number ≡ true in
    All-append Is (changing_in round) (changing_of rounds)
    (All-weaker (λ number. is_in (numbers_in round.made) number ≡ true) Is
    (λ number here. is_in-append_left (numbers_in round.made) (begun_in rounds) number here)
    (changing_in round) (changing-begun asked round (All-head (IsRecorded asked) round rounds recorded)))
    (All-weaker (λ number. is_in (begun_in rounds) number ≡ true) Is
    (λ number there. is_in-append_right (numbers_in round.made) (begun_in rounds) number there)
    (changing_of rounds) (changing_of-begun asked rounds (All-tail (IsRecorded asked) round rounds recorded)))

-- the changing numbers are those of records
pub changing_below : {records : List IdRecord} {plan : Plan} {rounds : List RoundEnd} {keys left changing : List ℕ}
    → HasInserted records plan rounds keys left changing → All (λ number. number < length records) changing
changing_below {records = records} {plan = plan} {rounds = rounds} {keys = keys} {left = left} {changing = changing} inserted =
    let asked = asked_of records in
    let Is : ℕ → Type 0 = λ number. number < length records in
    All-permutation Is (changing_of rounds) changing inserted.changing_are
    (All-weaker (λ number. is_in (begun_in rounds) number ≡ true) Is
    (λ number here. omega (
      arith,
      below-begun_in (length asked) rounds left inserted.chain.once number here,
      length-map records asks,
    )) (changing_of rounds) (changing_of-begun asked rounds inserted.chain.recorded))
