-- The entries of a chain and the records whose calls they are: their keys, and that they are inserts where the records ask for
-- nothing else.
use Rattle.std.proofs.Common.{◌≡◌, ℕ, zero, suc, ◌<◌, true, nat_eq, List, [], ◌∷◌, ◌++◌, length, map, slice_index_or, inl, inr, refl, sym, ap, ap₂, ◌∙◌, arith}
use Rattle.std.specs.List.{All, AllByRecursion, filter}
use Rattle.std.proofs.lemmas.Bool.{eq-eqb, eqb-true, or_cases}
use Rattle.std.proofs.lemmas.List.{get_or-map, length-map, map-append}
use Rattle.std.proofs.lemmas.List.Elements.{All-append, All-filter, All-from_recursion, All-head, All-tail, filter-append, recursion_from_All}
use Rattle.std.proofs.lemmas.List.Folds.{list_any_at}
use Rattle.set_model.specs.Keys.{is_in}
use Rattle.set_model.specs.declared.call.Call.TheVariants.{Insert}
use Rattle.set_model.specs.declared.entry.Entry.{Entry}
use Rattle.chain.specs.Chain.{Asked, IsOfRecord, RoundEnd, asked_at, begun_in, chain_of, entries_of, number_of_entry, numbers_in}
use Rattle.chain.specs.Changing.{changing_in, changing_of, is_changing, keys_of_numbers}
use Rattle.chain.proofs.Begun.{is_in-append_cases, is_in-append_left, is_in-append_right, is_in-begun}
use Rattle.chain.proofs.Inserting.{IsInsert, changing_keys, entry_keys}

-- each entry of the round is the call of a record
abbrev pub IsRecorded : List Asked → RoundEnd → Type 0
IsRecorded asked round = All (IsOfRecord asked round.made) (entries_of round)

-- the records ask for inserts alone
abbrev pub AskInserts : List Asked → Type 0
AskInserts asked = All (λ call. call.call ≡ Insert) asked

-- one of the numbers is of a record that asks for the key
pub record HasNumberOf (asked : List Asked) (numbers : List ℕ) (key : ℕ) : Type 0 where
  pub number : ℕ
  pub within : is_in numbers number ≡ true
  pub asks : (asked_at asked number).key ≡ key

keys_of_numbers-entries : (asked : List Asked) (made : List (List ℕ)) (entries : List Entry) → All (IsOfRecord asked made) entries
    → keys_of_numbers asked (map (number_of_entry made) entries) ≡ entry_keys entries
keys_of_numbers-entries asked made [] all = refl
keys_of_numbers-entries asked made (entry ∷ rest) all =
    ap₂ ◌∷◌ (sym (All-head (IsOfRecord asked made) entry rest all).key)
    (keys_of_numbers-entries asked made rest (All-tail (IsOfRecord asked made) entry rest all))

-- the keys of the changing records are those of the changing entries
pub keys_of_numbers-changing_of : (asked : List Asked) (rounds : List RoundEnd) → All (IsRecorded asked) rounds
    → keys_of_numbers asked (changing_of rounds) ≡ changing_keys (chain_of rounds)
keys_of_numbers-changing_of asked [] recorded = refl
keys_of_numbers-changing_of asked (round ∷ rounds) recorded =
    let here = All-head (IsRecorded asked) round rounds recorded in
    let later = keys_of_numbers-changing_of asked rounds (All-tail (IsRecorded asked) round rounds recorded) in
    map-append (λ number. (asked_at asked number).key) (changing_in round) (changing_of rounds)
    ∙ ap₂ ◌++◌ (keys_of_numbers-entries asked round.made (filter is_changing (entries_of round))
    (All-filter is_changing (IsOfRecord asked round.made) (entries_of round) here)) later
    ∙ sym (map-append (λ entry. entry.key) (filter is_changing (entries_of round)) (filter is_changing (chain_of rounds)))
    ∙ ap entry_keys (sym (filter-append is_changing (entries_of round) (chain_of rounds)))

-- the call of each number is an insert, as is that of no record
pub asks_insert : (asked : List Asked) (number : ℕ) → AskInserts asked → (asked_at asked number).call ≡ Insert
asks_insert [] number all = refl
asks_insert (call ∷ asked) zero all = All-head (λ call. call.call ≡ Insert) call asked all
asks_insert (call ∷ asked) (suc number) all = asks_insert asked number (All-tail (λ call. call.call ≡ Insert) call asked all)

-- the entries of a round are inserts
pub entries_insert : (asked : List Asked) (made : List (List ℕ)) (entries : List Entry) → AskInserts asked
    → All (IsOfRecord asked made) entries → AllByRecursion IsInsert entries
entries_insert asked made [] inserts all = tt
entries_insert asked made (entry ∷ rest) inserts all = (
  (All-head (IsOfRecord asked made) entry rest all).call ∙ asks_insert asked (number_of_entry made entry) inserts,
  entries_insert asked made rest inserts (All-tail (IsOfRecord asked made) entry rest all),
)

-- and so are those of the chain
pub chain_inserts : (asked : List Asked) (rounds : List RoundEnd) → AskInserts asked → All (IsRecorded asked) rounds
    → AllByRecursion IsInsert (chain_of rounds)
chain_inserts asked [] inserts recorded = tt
chain_inserts asked (round ∷ rounds) inserts recorded =
    let here = entries_insert asked round.made (entries_of round) inserts (All-head (IsRecorded asked) round rounds recorded) in
    let later = chain_inserts asked rounds inserts (All-tail (IsRecorded asked) round rounds recorded) in
    recursion_from_All IsInsert (entries_of round ++ chain_of rounds)
    (All-append IsInsert (entries_of round) (chain_of rounds) (All-from_recursion IsInsert (entries_of round) here)
    (All-from_recursion IsInsert (chain_of rounds) later))

-- the keys of entries have the key of the one at a place
pub entry_keys-place : (entries : List Entry) (place : ℕ) (entry : Entry) → place < length entries
    → slice_index_or entries place entry ≡ entry → is_in (entry_keys entries) entry.key ≡ true
entry_keys-place entries place entry within at =
    list_any_at (λ y. nat_eq y entry.key) (entry_keys entries) place entry.key
    (omega (arith, within, length-map entries (λ entry. entry.key)))
    (eq-eqb _ _ (get_or-map (λ entry. entry.key) entries place entry entry.key within ∙ ap (λ entry. entry.key) at))

-- the key of an entry is that of a record whose call was begun in the round
entries_ask : (asked : List Asked) (made : List (List ℕ)) (entries : List Entry) (key : ℕ) → All (IsOfRecord asked made) entries
    → is_in (entry_keys entries) key ≡ true → HasNumberOf asked (numbers_in made) key
entries_ask asked made [] key all here = absurd cc
entries_ask asked made (entry ∷ rest) key all here = elim (or_cases (nat_eq entry.key key) (is_in (entry_keys rest) key) here) [
  | inl first ↦
      let is = All-head (IsOfRecord asked made) entry rest all in
      record {
        number = number_of_entry made entry;
        within = is_in-begun made entry.who entry.serial is.begun;
        asks = sym is.key ∙ eqb-true entry.key key first;
      }
  | inr later ↦ entries_ask asked made rest key (All-tail (IsOfRecord asked made) entry rest all) later
]

-- and in the chain of one that was begun in some round
pub chain_asks : (asked : List Asked) (rounds : List RoundEnd) (key : ℕ) → All (IsRecorded asked) rounds
    → is_in (entry_keys (chain_of rounds)) key ≡ true → HasNumberOf asked (begun_in rounds) key
chain_asks asked [] key recorded here = absurd cc
chain_asks asked (round ∷ rounds) key recorded here =
    let split = map-append (λ entry. entry.key) (entries_of round) (chain_of rounds) in
    elim (is_in-append_cases (entry_keys (entries_of round)) (entry_keys (chain_of rounds)) key
    (ap (λ keys. is_in keys key) (sym split) ∙ here)) [
      | inl first ↦
          let found = entries_ask asked round.made (entries_of round) key (All-head (IsRecorded asked) round rounds recorded) first in
          record {
            number = found.number;
            within = is_in-append_left (numbers_in round.made) (begun_in rounds) found.number found.within;
            asks = found.asks;
          }
      | inr later ↦
          let found = chain_asks asked rounds key (All-tail (IsRecorded asked) round rounds recorded) later in
          record {
            number = found.number;
            within = is_in-append_right (numbers_in round.made) (begun_in rounds) found.number found.within;
            asks = found.asks;
          }
    ]
