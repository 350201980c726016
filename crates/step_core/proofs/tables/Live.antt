-- Well-formed words with plain rows: the live rows have the members, each in its own class.
use Rattle.std.proofs.Common.{◌≡◌, ℕ, zero, suc, ◌+◌, ◌%◌, ◌^◌, ◌<◌, ◌≤◌, nat_eq, nat_lt, Bool, true, false, cond, ◌||◌, List, [], ◌∷◌, ◌++◌, length, slice_index, get_or, refl, sym, ap, ◌∙◌, subst, arith, add-zero, add-one, All, inl, inr}
use Rattle.std.proofs.Math.Nat.{mod-eq_of_lt}
use Rattle.std.specs.List.{list_any, IsDistinct}
use Rattle.std.specs.List.Sorted.{IsStrictlyIncreasing, IsPermutation, IsSorted}
use Rattle.std.specs.Ordering.{nat_cmp}
use Rattle.std.specs.FinSet as set
use Rattle.std.proofs.lemmas.Bool.{cases_Bool, cases_order}
use Rattle.std.proofs.lemmas.Bool.Decides.{nat_tests, Decides-eqb}
use Rattle.std.proofs.lemmas.Nat.{mod_below, pow_pos}
use Rattle.std.proofs.lemmas.List.Elements.{All-weaker, All-append, All-nil, All-head, All-tail, recursion_from_All, All-from_recursion}
use Rattle.std.proofs.lemmas.List.Folds.{list_any-append}
use Rattle.std.proofs.lemmas.List.Kept.{IsStrictlyIncreasing-filter}
use Rattle.std.proofs.lemmas.List.Sorted.{list_any-IsPermutation, IsNonDecreasingBy-from_sort}
use Rattle.std.proofs.lemmas.Map.Keys.{IsDistinct-from_apart, IsDistinct-head, IsDistinct-tail, IsDistinct-cons, IsDistinct-IsPermutation, IsStrictlyIncreasing-from_distinct, sorted_from_strictly_increasing, below_from_sorted}
use Rattle.set_model.specs.Keys.{keys_set}
use Rattle.step_core.specs.Buckets.{key_bucket}
use Rattle.step_core.specs.Content.{bucket_of, bucket_word, spot_of, row_keys, InClass, live_generation, live_word, is_member, HasMembers}
use Rattle.step_core.specs.Fits.{IsWellFormed}
use Rattle.step_core.specs.Format.{head_of, row_address}
use Rattle.step_core.specs.Members.{live_cell}
use Rattle.step_core.specs.Plain.{HasPlainRows, finest_exponent, live_class_keys, keys_before, all_live_keys}
use Rattle.step_core.specs.declared.format.TheConstants.{FIRST_BUCKET, FIRST_KEY}
use Rattle.step_core.specs.declared.published.Published.TheVariants.{Row}
use Rattle.step_core.proofs.seen.Content.{row_keys-written, content_of-plain}
use Rattle.step_core.proofs.lists.Histories.{class_keys-in, class_keys-out}
use Rattle.step_core.proofs.seen.Predecessor.{HasBuckets, is_live, exponent_shown, buckets_shown, head_finest}
use Rattle.step_core.proofs.seen.Shown.{block_shown}
use Rattle.step_core.proofs.seen.Spots.{fewer_bits}
use Rattle.step_core.proofs.tables.Buckets.{class_keys-class, filter_all}

-- what the words show of the row where keys of a spot are looked for
pub record HasLiveRow (words : List ℕ) (spot : ℕ) : Type 0 where
  pub generation : HasBuckets words (live_generation words spot)
  pub finest : slice_index words (live_generation words spot) ≤ finest_exponent words
  pub within : row_address (live_word words spot) + FIRST_KEY + slice_index words (row_address (live_word words spot)) ≤ length words
  pub rising : IsStrictlyIncreasing (row_keys words (row_address (live_word words spot)))
  pub class : All (InClass (slice_index words (live_generation words spot)) (bucket_of (slice_index words (live_generation words spot)) spot))
      (row_keys words (row_address (live_word words spot)))

-- each spot has such a row
pub live_row_shown : (words : List ℕ) → IsWellFormed words → (spot : ℕ) → HasLiveRow words spot
live_row_shown words well spot =
    let holds = well.2 in
    let state = well.1 in
    let live = is_live holds spot in
    let address : ℕ = row_address (live_cell state.head state.blocks state.cells spot) in
    let row = live.home.row in
    let shown = block_shown holds address (Row row) live.home.here in
    let keys : row_keys words address ≡ row.keys =
    row_keys-written words address row.op row.ans row.keys shown.sealed (omega (arith, shown.within)) in
    let count : slice_index words address ≡ length row.keys =
    ap (slice_index words) (sym (add-zero address)) ∙ shown.sealed 0 (omega arith) in
    let exponent : slice_index words (live_generation words spot) ≡ live.generation.exponent =
    ap (slice_index words) live.generation_is ∙ exponent_shown holds live.at live.generation live.there in
    let homes = holds.homes address row live.home.here in
    let there : row_address (live_word words spot) ≡ address = ap row_address live.same in
    let found : row_keys words (row_address (live_word words spot)) ≡ row.keys = ap (row_keys words) there ∙ keys in
    record {
      generation = subst (HasBuckets words) (sym live.generation_is) (buckets_shown holds live.at live.generation live.there);
      finest = omega (arith, exponent, live.finest);
      within = subst (λ (at : ℕ). at + FIRST_KEY + slice_index words at ≤ length words) (sym there) (omega (arith, shown.within, count));
      rising = subst (λ (k : List ℕ). IsStrictlyIncreasing k) (sym found) homes.holds.rising;
      class = subst (λ (z : ℕ × List ℕ). All (InClass z.0 (bucket_of z.0 spot)) z.1) (λ i. (sym exponent i, sym found i))
          (subst (λ (z : ℕ × ℕ). All (InClass z.0 z.1) row.keys) (λ i. (live.home.exponent i, live.home.bucket i)) homes.holds.class);
    }

-- a class of the finest exponent has the live row that its spots have
pub live_word-class : (words : List ℕ) → IsWellFormed words → (spot : ℕ)
    → live_word words (bucket_of (finest_exponent words) spot) ≡ live_word words spot
live_word-class words well spot =
    let holds = well.2 in
    let finest : ℕ = finest_exponent words in
    let class : ℕ = bucket_of finest spot in
    let before : ℕ = slice_index words (head_of words + 1) in
    let same : (at : ℕ) → slice_index words at ≤ finest → bucket_word words at class ≡ bucket_word words at spot =
    λ at le. ap (λ (b : ℕ). slice_index words (at + FIRST_BUCKET + b)) (fewer_bits (slice_index words at) finest spot le) in
    let head : bucket_word words (head_of words) class ≡ bucket_word words (head_of words) spot = same (head_of words) (head_finest holds) in
    let test : live_generation words class ≡ live_generation words spot =
    ap (λ (word : ℕ). cond (nat_eq word 0) before (head_of words)) head in
    let row = live_row_shown words well spot in
    ap (λ (at : ℕ). bucket_word words at class) test ∙ same (live_generation words spot) row.finest

-- a key is a member where the row in which it is looked for has it
pub live_member : (words : List ℕ) → HasPlainRows words → (key : ℕ)
    → is_member words key ≡ list_any (λ y. nat_eq y key) (row_keys words (row_address (live_word words (spot_of key))))
live_member words plain key = content_of-plain words (row_address (live_word words (spot_of key))) key (plain (spot_of key))

-- and so where its class has it
pub class_member : (words : List ℕ) → IsWellFormed words → HasPlainRows words → (key : ℕ)
    → is_member words key ≡ list_any (λ y. nat_eq y key) (live_class_keys words (key_bucket (finest_exponent words) key))
class_member words well plain key =
    let finest : ℕ = finest_exponent words in
    let class : ℕ = key_bucket finest key in
    live_member words plain key
    ∙ ap (λ (word : ℕ). list_any (λ y. nat_eq y key) (row_keys words (row_address word))) (sym (live_word-class words well (spot_of key)))
    ∙ sym (class_keys-in finest class key (row_keys words (row_address (live_word words class))) refl)

-- the keys of a class are its row's keys where the row's generation has as many buckets as there are classes
pub live_class_keys-whole : (words : List ℕ) → IsWellFormed words → (class : ℕ) → class < 2 ^ finest_exponent words
    → slice_index words (live_generation words class) ≡ finest_exponent words
    → live_class_keys words class ≡ row_keys words (row_address (live_word words class))
live_class_keys-whole words well class low same =
    let finest : ℕ = finest_exponent words in
    let exponent : ℕ = slice_index words (live_generation words class) in
    let keys : List ℕ = row_keys words (row_address (live_word words class)) in
    let row = live_row_shown words well class in
    let there : bucket_of exponent class ≡ class = ap (λ (e : ℕ). class % 2 ^ e) same ∙ mod-eq_of_lt low in
    let all : All (InClass finest class) keys =
    subst (λ (z : ℕ × ℕ). All (InClass z.0 z.1) keys) (λ i. (same i, there i)) row.class in
    filter_all (λ key. nat_eq (key_bucket finest key) class) keys
    (All-weaker (InClass finest class) (λ key. nat_eq (key_bucket finest key) class ≡ true)
    (λ key here. (Decides-eqb (key_bucket finest key) class).1 here) keys all)

-- one class more
pub keys_before-more : (words : List ℕ) (class : ℕ)
    → keys_before words (class + 1) ≡ keys_before words class ++ live_class_keys words class
unfolding keys_before
keys_before-more words class = ap (keys_before words) (add-one class)

-- no class yet
pub keys_before-none : (words : List ℕ) → keys_before words 0 ≡ []
unfolding keys_before
keys_before-none words = refl

-- lists of numbers that differ, with none in both, make one of numbers that differ
distinct-append : (xs ys : List ℕ) → IsDistinct nat_eq xs → IsDistinct nat_eq ys → All (λ x. All (λ y. nat_eq x y ≡ false) ys) xs
    → IsDistinct nat_eq (xs ++ ys)
distinct-append [] ys left right apart = right
distinct-append (x ∷ xs) ys left right apart =
    let Apart : ℕ → Type 0 = λ y. nat_eq x y ≡ false in
    IsDistinct-cons nat_eq x (xs ++ ys)
    (recursion_from_All Apart (xs ++ ys) (All-append Apart xs ys
    (All-from_recursion Apart xs (IsDistinct-head nat_eq x xs left))
    (All-head (λ z. All (λ y. nat_eq z y ≡ false) ys) x xs apart)))
    (distinct-append xs ys (IsDistinct-tail nat_eq x xs left) right (All-tail (λ z. All (λ y. nat_eq z y ≡ false) ys) x xs apart))

-- rising numbers differ
distinct-rising : (xs : List ℕ) → IsStrictlyIncreasing xs → IsDistinct nat_eq xs
distinct-rising xs rising =
    IsDistinct-from_apart nat_eq xs (λ i j d lt short.
    let below = below_from_sorted xs i j d (sorted_from_strictly_increasing xs rising) lt short in
    let test : nat_eq (get_or xs i d) (get_or xs j d) ≡ false = grind (arith, nat_tests) in test)

-- keys of two buckets differ
apart : (exponent x y bucket : ℕ) → ¬ (key_bucket exponent x ≡ bucket) → key_bucket exponent y ≡ bucket → nat_eq x y ≡ false
apart exponent x y bucket there here =
    elim (cases_Bool (nat_eq x y)) [
      | inl same ↦ absurd (there (ap (key_bucket exponent) ((Decides-eqb x y).0 same) ∙ here))
      | inr differ ↦ differ
    ]

nat_eq_flip : (x y : ℕ) → nat_eq x y ≡ nat_eq y x
nat_eq_flip x y = grind (arith, nat_tests)

or_none : (b : Bool) → (b || false) ≡ b
or_none true = refl
or_none false = refl

module _ (words : List ℕ) (well : IsWellFormed words) where
  abbrev exponent : ℕ
  exponent = finest_exponent words

  -- the keys of a class are of it,
  in_class : (class : ℕ) → All (InClass exponent class) (live_class_keys words class)
  in_class class = class_keys-class exponent class (row_keys words (row_address (live_word words class)))

  -- and rise
  class_rising : (class : ℕ) → IsStrictlyIncreasing (live_class_keys words class)
  class_rising class =
      IsStrictlyIncreasing-filter (λ key. nat_eq (key_bucket exponent key) class) (row_keys words (row_address (live_word words class)))
      (live_row_shown words well class).rising

  -- the classes of the keys collected are lower
  collected_low : (count : ℕ) → All (λ key. key_bucket exponent key < count) (keys_before words count)
  unfolding keys_before
  collected_low zero = All-nil (λ key. key_bucket exponent key < 0)
  collected_low (suc count) =
      let Low : ℕ → Type 0 = λ key. key_bucket exponent key < suc count in
      All-append Low (keys_before words count) (live_class_keys words count)
      (All-weaker (λ key. key_bucket exponent key < count) Low (λ key lt. omega (arith, lt)) (keys_before words count) (collected_low count))
      (All-weaker (InClass exponent count) Low (λ key e. omega (arith, e)) (live_class_keys words count) (in_class count))

  -- they differ
  pub collected_distinct : (count : ℕ) → IsDistinct nat_eq (keys_before words count)
  unfolding keys_before
  collected_distinct zero = distinct-rising [] (λ k lt. absurd (omega arith))
  collected_distinct (suc count) =
      let keys = live_class_keys words count in
      distinct-append (keys_before words count) keys (collected_distinct count) (distinct-rising keys (class_rising count))
      (All-weaker (λ x. key_bucket exponent x < count) (λ x. All (λ y. nat_eq x y ≡ false) keys)
      (λ x low. All-weaker (InClass exponent count) (λ y. nat_eq x y ≡ false)
      (λ y here. apart exponent x y count (λ e. absurd (omega (arith, low, e))) here) keys (in_class count))
      (keys_before words count) (collected_low count))

  abbrev has : ℕ → List ℕ → Bool
  has key keys = list_any (λ y. nat_eq y key) keys

  -- a key isn't among those of another class
  class_lacks : (class key : ℕ) → ¬ (key_bucket exponent key ≡ class) → has key (live_class_keys words class) ≡ false
  class_lacks class key other = class_keys-out exponent class key (row_keys words (row_address (live_word words class))) other

  module _ (plain : HasPlainRows words) where
    -- those of the first classes are the members of these
    collected_any : (count key : ℕ)
        → has key (keys_before words count) ≡ cond (nat_lt (key_bucket exponent key) count) (is_member words key) false
    unfolding keys_before
    collected_any zero key =
        let test : nat_lt (key_bucket exponent key) 0 ≡ false = grind (arith, nat_tests) in
        ap (λ (b : Bool). cond b (is_member words key) false) (sym test)
    collected_any (suc count) key =
        let class = key_bucket exponent key in
        let last = live_class_keys words count in
        let member = is_member words key in
        let rest = collected_any count key in
        list_any-append (λ y. nat_eq y key) (keys_before words count) last
        ∙ ap (λ (b : Bool). b || has key last) rest
        ∙ elim (cases_order class count) [
          | inl here ↦
              let none_before : nat_lt class count ≡ false = grind (arith, nat_tests) in
              let low : nat_lt class (suc count) ≡ true = grind (arith, nat_tests) in
              ap (λ (b : Bool). cond b member false || has key last) none_before
              ∙ ap (λ (c : ℕ). has key (live_class_keys words c)) (sym here)
              ∙ sym (class_member words well plain key)
              ∙ ap (λ (b : Bool). cond b member false) (sym low)
          | inr (inl below) ↦
              let before : nat_lt class count ≡ true = grind (arith, nat_tests) in
              let low : nat_lt class (suc count) ≡ true = grind (arith, nat_tests) in
              (λ i. cond (before i) member false || class_lacks count key (λ e. absurd (omega (arith, below, e))) i)
              ∙ or_none member
              ∙ ap (λ (b : Bool). cond b member false) (sym low)
          | inr (inr above) ↦
              let before : nat_lt class count ≡ false = grind (arith, nat_tests) in
              let low : nat_lt class (suc count) ≡ false = grind (arith, nat_tests) in
              (λ i. cond (before i) member false || class_lacks count key (λ e. absurd (omega (arith, above, e))) i)
              ∙ ap (λ (b : Bool). cond b member false) (sym low)
        ]

    -- all keys collected, in whatever order, are the members
    pub collected_members : (keys : List ℕ) → IsPermutation (all_live_keys words) keys → HasMembers words (keys_set keys)
    collected_members keys moved key =
        let low = mod_below (spot_of key) (2 ^ exponent) (pow_pos exponent) in
        let test : nat_lt (key_bucket exponent key) (2 ^ exponent) ≡ true = grind (arith, nat_tests) in
        set.contains-from_list_nat keys key
        ∙ sym (list_any-IsPermutation (λ y. nat_eq y key) (all_live_keys words) keys moved)
        ∙ collected_any (2 ^ exponent) key
        ∙ ap (λ (b : Bool). cond b (is_member words key) false) test

  -- sorted, they rise
  pub collected_rising : (keys : List ℕ) → IsPermutation (all_live_keys words) keys → IsSorted nat_cmp keys → IsStrictlyIncreasing keys
  collected_rising keys moved sorted =
      IsStrictlyIncreasing-from_distinct keys (IsNonDecreasingBy-from_sort (λ x. x) keys sorted)
      (IsDistinct-IsPermutation nat_eq nat_eq_flip (all_live_keys words) keys moved (collected_distinct (2 ^ exponent)))
