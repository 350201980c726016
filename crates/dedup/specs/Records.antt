-- The records of a run: what they ask of the set, their distinct ids, and which are kept.
use Rattle.std.specs.Prelude.{◌≡◌, ℕ, List, map, slice_index_or}
use Rattle.std.specs.List.Sorted.{IsNonDecreasingBy, IsPermutation, IsStrictlyIncreasing}
use Rattle.set_model.specs.Keys.{keys_set}
use Rattle.set_model.specs.declared.call.Call.TheVariants.{Insert}
use Rattle.chain.specs.Chain.{Asked, RoundEnd}
use Rattle.chain.specs.Changing.{changing_of}
use Rattle.idfiles.specs.declared.id_record.IdRecord.{IdRecord}

-- the ids of records
abbrev pub ids_of : List IdRecord → List ℕ
ids_of records = map (λ item. item.id) records

-- each record asks that its id is put into the set
abbrev pub asked_of : List IdRecord → List Asked
asked_of records = map (λ item. record { call = Insert; key = item.id }) records

-- these are the ids of the records, each once, rising; there is one such list
pub record AreDistinctIds (records : List IdRecord) (ids : List ℕ) : Type 0 where
  pub rising : IsStrictlyIncreasing ids
  pub same : keys_set ids ≡ keys_set (ids_of records)
  pub only : (others : List ℕ) → IsStrictlyIncreasing others
      → keys_set others ≡ keys_set (ids_of records) → others ≡ ids

-- the record of no number
abbrev pub no_record : IdRecord
no_record = record { file = 0; line = 0; id = 0 }

-- the records with these numbers, from 0
abbrev pub records_at : List IdRecord → List ℕ → List IdRecord
records_at records numbers = map (λ number. slice_index_or records number no_record) numbers

-- their ids
abbrev pub ids_at : List IdRecord → List ℕ → List ℕ
ids_at records numbers = ids_of (records_at records numbers)

-- these are the records with the numbers, in an order by which their ids don't fall
pub record AreSorted (records : List IdRecord) (numbers : List ℕ) (sorted : List IdRecord)
    : Type 0 where
  pub same : IsPermutation (records_at records numbers) sorted
  pub rising : IsNonDecreasingBy (λ item. item.id) sorted

-- One record of each id, rising by id: that whose insert changed the set.
pub record AreKept (records : List IdRecord) (rounds : List RoundEnd) (kept : List IdRecord)
    : Type 0 where
  pub distinct : AreDistinctIds records (ids_of kept)
  pub changing : IsPermutation (records_at records (changing_of rounds)) kept
