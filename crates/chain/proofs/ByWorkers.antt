-- A history is, in some order, its workers' entries one worker behind the other, and so are the numbers of the records whose
-- insert changed the set.
use Rattle.std.proofs.Common.{◌≡◌, ◌≢◌, ℕ, zero, suc, ◌+◌, ◌<◌, ◌≤◌, ◌&&◌, Bool, true, false, cond, nat_eq, List, [], ◌∷◌, ◌++◌, map, slice_index, inl, inr, refl, sym, ap, ap₂, ◌∙◌, subst, arith}
use Rattle.std.specs.List.{All, filter, flat_map, range_with_len}
use Rattle.std.specs.List.Sorted.{IsPermutation}
use Rattle.std.proofs.lemmas.Bool.{cases_eq, eq-eqb, eqb-true, ne_eqb}
use Rattle.std.proofs.lemmas.List.{map-append}
use Rattle.std.proofs.lemmas.List.Elements.{All-filter, All-head, All-tail, filter_passes}
use Rattle.std.proofs.lemmas.List.Sorted.{IsPermutation-append_right, IsPermutation-cons, IsPermutation-map, IsPermutation-middle, IsPermutation-refl, IsPermutation-sym, IsPermutation-trans}
use Rattle.set_model.specs.declared.entry.Entry.{Entry}
use Rattle.cells.specs.Past.{IsOfPasses, entries_by}
use Rattle.chain.specs.Chain.{number_of_entry, numbers_by}
use Rattle.chain.specs.Changing.{is_changing}

-- the entries of these workers, one worker behind the other
abbrev by_workers : List Entry → List ℕ → List Entry
by_workers entries workers = flat_map (λ who. entries_by who entries) workers

-- an entry more in front stands in front of its worker's
front-own : (who : ℕ) (entry : Entry) (entries : List Entry) → entry.who ≡ who
    → entries_by who (entry ∷ entries) ≡ entry ∷ entries_by who entries
front-own who entry entries own =
    ap (λ (b : Bool). cond b (entry ∷ entries_by who entries) (entries_by who entries)) (eq-eqb entry.who who own)

-- and another worker's stay as they are
front-other : (who : ℕ) (entry : Entry) (entries : List Entry) → entry.who ≢ who
    → entries_by who (entry ∷ entries) ≡ entries_by who entries
front-other who entry entries apart =
    ap (λ (b : Bool). cond b (entry ∷ entries_by who entries) (entries_by who entries)) (ne_eqb entry.who who apart)

-- so do those of all workers behind its own
front-behind : (first count : ℕ) (entry : Entry) (entries : List Entry) → entry.who < first
    → by_workers (entry ∷ entries) (range_with_len first count) ≡ by_workers entries (range_with_len first count)
front-behind first zero entry entries before = refl
front-behind first (suc count) entry entries before =
    ap₂ ◌++◌ (front-other first entry entries (λ own. omega (arith, own, before)))
    (front-behind (first + 1) count entry entries (omega (arith, before)))

-- where its worker is among them, it is one more of theirs
front-among : (first count : ℕ) (entry : Entry) (entries : List Entry) → first ≤ entry.who → entry.who < first + count
    → IsPermutation (entry ∷ by_workers entries (range_with_len first count)) (by_workers (entry ∷ entries) (range_with_len first count))
front-among first zero entry entries from below = absurd (omega (arith, from, below))
front-among first (suc count) entry entries from below =
    let mine = entries_by first entries in
    let others = by_workers entries (range_with_len (first + 1) count) in
    let now = by_workers (entry ∷ entries) (range_with_len (first + 1) count) in
    let Goal : List Entry → Type 0 = λ list. IsPermutation (entry ∷ (mine ++ others)) list in
    elim (cases_eq entry.who first) as (λ _. Goal (entries_by first (entry ∷ entries) ++ now)) [
      | inl own ↦
          subst Goal (sym (ap₂ ◌++◌ (front-own first entry entries own)
          (front-behind (first + 1) count entry entries (omega (arith, own)))))
          (IsPermutation-refl (entry ∷ (mine ++ others)))
      | inr apart ↦
          let later = front-among (first + 1) count entry entries (omega (arith, from, apart)) (omega (arith, below)) in
          subst Goal (sym (ap (λ list. list ++ now) (front-other first entry entries apart)))
          (IsPermutation-trans (entry ∷ (mine ++ others)) (mine ++ entry ∷ others) (mine ++ now)
          (IsPermutation-sym (mine ++ entry ∷ others) (entry ∷ (mine ++ others)) (IsPermutation-middle mine entry others))
          (IsPermutation-append_right mine (entry ∷ others) now later))
    ]

-- an empty history has no entries of any worker
none-by_workers : (workers : List ℕ) → [] ≡ by_workers [] workers
none-by_workers [] = refl
none-by_workers (who ∷ workers) = none-by_workers workers

-- a history is, in some order, its workers' entries one worker behind the other
pub history_by_workers : (seats : ℕ) (entries : List Entry) → All (IsOfPasses seats) entries
    → IsPermutation entries (flat_map (λ who. entries_by who entries) (range_with_len 0 seats))
history_by_workers seats [] all =
    subst (IsPermutation []) (none-by_workers (range_with_len 0 seats)) (IsPermutation-refl [])
history_by_workers seats (entry ∷ entries) all =
    let seated = All-head (IsOfPasses seats) entry entries all in
    let parts = by_workers entries (range_with_len 0 seats) in
    IsPermutation-trans (entry ∷ entries) (entry ∷ parts) (by_workers (entry ∷ entries) (range_with_len 0 seats))
    (IsPermutation-cons entry entries parts (history_by_workers seats entries (All-tail (IsOfPasses seats) entry entries all)))
    (front-among 0 seats entry entries (omega arith) (omega (arith, seated)))

-- a filter of a list whose first element may have been left out
filter-cond : {X : Type 0} (p : X → Bool) (kept : Bool) (x : X) (xs : List X)
    → filter p (cond kept (x ∷ xs) xs) ≡ cond (kept && p x) (x ∷ filter p xs) (filter p xs)
filter-cond p true x xs = refl
filter-cond p false x xs = refl

both-swap : (one other : Bool) → (one && other) ≡ (other && one)
both-swap true true = refl
both-swap true false = refl
both-swap false true = refl
both-swap false false = refl

-- two filters, one behind the other, keep the same in either order
filter-swap : {X : Type 0} (p q : X → Bool) (xs : List X) → filter p (filter q xs) ≡ filter q (filter p xs)
filter-swap p q [] = refl
filter-swap p q (x ∷ xs) =
    filter-cond p (q x) x (filter q xs)
    ∙ ap₂ (λ kept rest. cond kept (x ∷ rest) rest) (both-swap (q x) (p x)) (filter-swap p q xs)
    ∙ sym (filter-cond q (p x) x (filter p xs))

-- what is made of each element of lists put together
map-flat_map : {X A B : Type 0} (f : A → B) (parts : X → List A) (xs : List X)
    → map f (flat_map parts xs) ≡ flat_map (λ x. map f (parts x)) xs
map-flat_map f parts [] = refl
map-flat_map f parts (x ∷ xs) =
    map-append f (parts x) (flat_map parts xs) ∙ ap (λ more. map f (parts x) ++ more) (map-flat_map f parts xs)

-- lists put together are the same where each is
flat_map-agree : {X A : Type 0} (parts others : X → List A) (xs : List X) → ((x : X) → parts x ≡ others x)
    → flat_map parts xs ≡ flat_map others xs
flat_map-agree parts others [] same = refl
flat_map-agree parts others (x ∷ xs) same = ap₂ ◌++◌ (same x) (flat_map-agree parts others xs same)

module _ (made : List (List ℕ)) (who : ℕ) where
  -- the numbers of a worker's entries are those of its calls
  numbers-own : (entries : List Entry) → All (λ entry. nat_eq entry.who who ≡ true) entries
      → map (number_of_entry made) entries ≡ map (λ entry. slice_index (numbers_by made who) entry.serial) entries
  numbers-own [] all = refl
  numbers-own (entry ∷ entries) all =
      let Own : Entry → Type 0 = λ entry. nat_eq entry.who who ≡ true in
      let own = eqb-true entry.who who (All-head Own entry entries all) in
      ap₂ ◌∷◌ (ap (λ w. slice_index (numbers_by made w) entry.serial) own)
      (numbers-own entries (All-tail Own entry entries all))

  -- so are those of its inserts that changed the set
  changing-own : (entries : List Entry)
      → map (number_of_entry made) (entries_by who (filter is_changing entries))
      ≡ map (λ entry. slice_index (numbers_by made who) entry.serial) (filter is_changing (entries_by who entries))
  changing-own entries =
      let mine : Entry → Bool = λ entry. nat_eq entry.who who in
      numbers-own (entries_by who (filter is_changing entries)) (filter_passes mine (filter is_changing entries))
      ∙ ap (map (λ entry. slice_index (numbers_by made who) entry.serial)) (filter-swap mine is_changing entries)

-- the numbers of the records whose insert changed the set are, in some order, those of its workers
pub changing_by_workers : (seats : ℕ) (made : List (List ℕ)) (entries : List Entry) → All (IsOfPasses seats) entries
    → IsPermutation (map (number_of_entry made) (filter is_changing entries))
    (flat_map (λ who. map (λ entry. slice_index (numbers_by made who) entry.serial) (filter is_changing (entries_by who entries)))
    (range_with_len 0 seats))
changing_by_workers seats made entries all =
    let changing = filter is_changing entries in
    let workers = range_with_len 0 seats in
    let its = number_of_entry made in
    let parts = history_by_workers seats changing (All-filter is_changing (IsOfPasses seats) entries all) in
    subst (IsPermutation (map its changing))
    (map-flat_map its (λ who. entries_by who changing) workers
    ∙ flat_map-agree (λ who. map its (entries_by who changing))
    (λ who. map (λ entry. slice_index (numbers_by made who) entry.serial) (filter is_changing (entries_by who entries)))
    workers (λ who. changing-own made who entries))
    (IsPermutation-map its changing (by_workers changing workers) parts)
