-- Numbers in a row, one more, and lists that numbers determine.
use Rattle.std.proofs.Common.{◌≡◌, ◌+◌, ◌<◌, ℕ, zero, suc, List, [], ◌∷◌, ◌++◌, length, map, slice_index_or, append-nil, drop, take, take_all, refl, sym, ap, ◌∙◌, arith}
use Rattle.std.specs.List.{Contains, range_with_len}
use Rattle.std.specs.List.Sorted.{IsPermutation}
use Rattle.std.proofs.lemmas.List.{drop_all, get_or-map, get_or_default, length-map, same_lists}
use Rattle.std.proofs.lemmas.List.FromFn.{get_or-range_with_len, length-range_with_len}
use Rattle.std.proofs.lemmas.List.Sorted.{Contains-permutation}

range_with_len-suc : (from count : ℕ) → range_with_len from (suc count) ≡ range_with_len from count ++ (from + count) ∷ []
range_with_len-suc from zero = ap (λ n. n ∷ []) (let same : from ≡ from + 0 = omega arith in same)
range_with_len-suc from (suc count) =
    let same : from + 1 + count ≡ from + suc count = omega arith in
    ap (λ ns. from ∷ ns)
    (range_with_len-suc (from + 1) count ∙ ap (λ n. range_with_len (from + 1) count ++ n ∷ []) same)

-- one number more
pub range_with_len-more : (count : ℕ) → range_with_len 0 (count + 1) ≡ range_with_len 0 count ++ count ∷ []
range_with_len-more count =
    let more : count + 1 ≡ suc count = omega arith in
    let last : 0 + count ≡ count = omega arith in
    ap (range_with_len 0) more ∙ range_with_len-suc 0 count ∙ ap (λ n. range_with_len 0 count ++ n ∷ []) last

-- Where each of two lists has at each place what has its number, and they have the same in some order, they are one list.
pub numbered_is_one : {X : Type 0} (number : X → ℕ) (xs ys : List X) (count : ℕ) → map number xs ≡ range_with_len 0 count
    → map number ys ≡ range_with_len 0 count → IsPermutation xs ys → xs ≡ ys
numbered_is_one {X = X} number xs ys count x_numbers y_numbers same =
    let x_long : length xs ≡ count = sym (length-map xs number) ∙ ap length x_numbers ∙ length-range_with_len 0 count in
    let y_long : length ys ≡ count = sym (length-map ys number) ∙ ap length y_numbers ∙ length-range_with_len 0 count in
    let numbered : (zs : List X) → map number zs ≡ range_with_len 0 count → length zs ≡ count → (k : ℕ) (d : X) → k < count
    → number (slice_index_or zs k d) ≡ k = λ zs numbers long k d within.
    omega (
      arith,
      get_or-map number zs k d 0 (omega (arith, within, long)),
      ap (λ ns. slice_index_or ns k 0) numbers,
      get_or-range_with_len 0 count k 0 within,
    ) in
    same_lists xs ys (x_long ∙ sym y_long) (λ k d within.
    let x = slice_index_or xs k d in
    let here : Contains xs x = (k, within, get_or_default xs k x d within) in
    let there = Contains-permutation xs ys x same here in
    let below : k < count = omega (arith, within, x_long) in
    let place : there.0 ≡ k =
    omega (
      arith,
      numbered ys y_numbers y_long there.0 x (omega (arith, there.1, y_long)),
      ap number there.2,
      numbered xs x_numbers x_long k d below,
    ) in
    sym (get_or_default ys k d x (omega (arith, below, y_long)) ∙ ap (λ j. slice_index_or ys j x) (sym place) ∙ there.2))

-- A list has an element at each of its places.
pub element : {X : Type 0} (xs : List X) (k : ℕ) → k < length xs → (x : X) × ((d : X) → slice_index_or xs k d ≡ x)
element [] k within = absurd (omega (arith, within))
element (x ∷ xs) zero within = (x, λ d. refl)
element (x ∷ xs) (suc k) within = element xs k (omega (arith, within))

-- What has at each place its number has them in a row.
pub numbers_in_row : {X : Type 0} (number : X → ℕ) (xs : List X)
    → ((k : ℕ) (d : X) → k < length xs → number (slice_index_or xs k d) ≡ k) → map number xs ≡ range_with_len 0 (length xs)
numbers_in_row {X = X} number xs each =
    let long = length-map xs number in
    same_lists (map number xs) (range_with_len 0 (length xs)) (long ∙ sym (length-range_with_len 0 (length xs))) (λ k d within.
    let inside : k < length xs = omega (arith, within, long) in
    let its = element xs k inside in
    get_or-map number xs k its.0 d inside ∙ each k its.0 inside
    ∙ omega (arith, get_or-range_with_len 0 (length xs) k d inside))
