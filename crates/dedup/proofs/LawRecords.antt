-- What the records ask of the set, by their numbers: each that its id is put in.
use Rattle.std.proofs.Common.{◌≡◌, ℕ, zero, suc, ◌+◌, ◌<◌, List, [], ◌∷◌, ◌++◌, length, slice_index, slice_index_or, refl, ap, ap₂, arith}
use Rattle.std.specs.List.{All}
use Rattle.std.proofs.lemmas.List.Elements.{All-map}
use Rattle.std.proofs.Math.ListN.{get_or-map}
use Rattle.set_model.specs.declared.call.Call.TheVariants.{Insert}
use Rattle.chain.specs.Chain.{Asked, asked_at}
use Rattle.chain.specs.Changing.{keys_asked, keys_of_numbers}
use Rattle.idfiles.specs.declared.id_record.IdRecord.{IdRecord}
use Rattle.dedup.specs.Records.{asked_of, ids_at, ids_of, no_record, records_at}

-- what a record asks
abbrev pub asks : IdRecord → Asked
asks item = record { call = Insert; key = item.id }

-- the record with the number asks for its id
pub asked_at-record : (records : List IdRecord) (number : ℕ)
    → asked_at (asked_of records) number ≡ asks (slice_index_or records number no_record)
asked_at-record records number = get_or-map asks records number no_record

-- all ask for inserts
pub ask_inserts : (records : List IdRecord) → All (λ call. call.call ≡ Insert) (asked_of records)
ask_inserts records = All-map (λ call. call.call ≡ Insert) asks records (λ k d within. refl)

-- the keys that they ask for are their ids
pub keys_asked-records : (records : List IdRecord) → keys_asked (asked_of records) ≡ ids_of records
keys_asked-records [] = refl
keys_asked-records (item ∷ records) = ap₂ (λ (id : ℕ) (ids : List ℕ). id ∷ ids) refl (keys_asked-records records)

-- so it is with those of some numbers
pub keys_of_numbers-records : (records : List IdRecord) (numbers : List ℕ)
    → keys_of_numbers (asked_of records) numbers ≡ ids_of (records_at records numbers)
keys_of_numbers-records records [] = refl
keys_of_numbers-records records (number ∷ numbers) =
    ap₂ (λ (call : Asked) (ids : List ℕ). call.key ∷ ids) (asked_at-record records number) (keys_of_numbers-records records numbers)

-- the ids of two lists of numbers, one behind the other
pub ids_at-append : (records : List IdRecord) (numbers others : List ℕ)
    → ids_at records (numbers ++ others) ≡ ids_at records numbers ++ ids_at records others
ids_at-append records [] others = refl
ids_at-append records (number ∷ numbers) others =
    ap (λ (ids : List ℕ). (slice_index_or records number no_record).id ∷ ids) (ids_at-append records numbers others)

-- there are as many as numbers
pub length-ids_at : (records : List IdRecord) (numbers : List ℕ) → length (ids_at records numbers) ≡ length numbers
length-ids_at records [] = refl
length-ids_at records (number ∷ numbers) =
    let others = length-ids_at records numbers in
    let same : length (number ∷ numbers) ≡ length numbers + 1 = omega arith in
    let more : length (ids_at records (number ∷ numbers)) ≡ length (ids_at records numbers) + 1 = omega arith in
    omega (arith, others, same, more)

-- that at a place is the id of the record whose number stands there
pub ids_at-place : (records : List IdRecord) (numbers : List ℕ) (place : ℕ) → place < length numbers
    → slice_index (ids_at records numbers) place ≡ (slice_index_or records (slice_index numbers place) no_record).id
ids_at-place records [] place within = absurd (omega (arith, within))
ids_at-place records (number ∷ numbers) zero within = refl
ids_at-place records (number ∷ numbers) (suc place) within = ids_at-place records numbers place (omega (arith, within))
