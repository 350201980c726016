-- The keys of a bucket's class among those of a known row, and the room for them.
use Rattle.std.proofs.Common.{◌≡◌, ◌≢◌, ℕ, ◌+◌, ◌≤◌, ◌^◌, Bool, false, ◌&&◌, cond, nat_eq, List, ◌∷◌, length, sym, ap, ◌∙◌, arith}
use Rattle.std.proofs.lemmas.Bool.Decides.{nat_tests, Decides-eqb}
use Rattle.std.proofs.lemmas.List.Kept.{IsStrictlyIncreasing-filter}
use Rattle.std.proofs.lemmas.List.Sums.{count_by-le-length, length-filter}
use Rattle.std.proofs.lemmas.Map.Views.{any-filter_same}
use Rattle.std.specs.List.Sorted.{IsStrictlyIncreasing}
use Rattle.set_model.specs.Keys.{is_in}
use Rattle.step_core.specs.Buckets.{class_keys, key_bucket}
use Rattle.step_core.specs.declared.format.TheConstants.{FIRST_KEY}
use Rattle.step_core.specs.declared.views.PassView.{PassView}
use Rattle.cells.specs.Known.{keys_at, row_at}
use Rattle.cells.specs.Sound.{IsSound}
use Rattle.cells.proofs.laws.Within.{row_within}
use Rattle.fset.specs.Seen.{IsSeen}
use Rattle.fset.specs.Splitting.{class_left, split_keys}
use Rattle.fset.specs.Taking.{all_keys}
use Rattle.fset.specs.declared.seen.Seen.{Seen}
use Rattle.fset.specs.declared.taking.RowKeys.{RowKeys}
use Rattle.fset.proofs.laws.Taking.{seen_keys-known}

-- whether a key is of the class
abbrev is_of : ℕ → ℕ → ℕ → Bool
is_of exponent bucket key = nat_eq (key_bucket exponent key) bucket

-- The keys of a class among rising keys rise,
pub split-rises : (exponent bucket : ℕ) (keys : List ℕ) → IsStrictlyIncreasing keys → IsStrictlyIncreasing (class_keys exponent bucket keys)
split-rises exponent bucket keys rising = IsStrictlyIncreasing-filter (is_of exponent bucket) keys rising

-- and are exactly those keys that are of the class.
pub is_in-split : (exponent bucket : ℕ) (keys : List ℕ) (key : ℕ)
    → is_in (class_keys exponent bucket keys) key ≡ (nat_eq (key_bucket exponent key) bucket && is_in keys key)
is_in-split exponent bucket keys key =
    any-filter_same (λ y. nat_eq y key) (is_of exponent bucket) (is_of exponent bucket key)
    (λ y same. ap (is_of exponent bucket) ((Decides-eqb y key).0 same)) keys

-- A first key of another class isn't among those of the class.
pub class_keys-skips : (exponent bucket key : ℕ) (keys rest : List ℕ) → keys ≡ key ∷ rest → key_bucket exponent key ≢ bucket
    → class_keys exponent bucket keys ≡ class_keys exponent bucket rest
class_keys-skips exponent bucket key keys rest first other =
    ap (class_keys exponent bucket) first
    ∙ ap (λ (here : Bool). cond here (key ∷ class_keys exponent bucket rest) (class_keys exponent bucket rest))
    (let test : nat_eq (key_bucket exponent key) bucket ≡ false = grind (arith, nat_tests) in test)

module _ (exponent bucket : ℕ) (view : PassView) (seen : Seen) (row : RowKeys) (sound : IsSound view) (agrees : IsSeen view seen)
    (is_row : row ≡ all_keys seen) where
  -- The keys of a class among all of a row are those of the class among its content.
  pub split_left : class_left view.known (record { row = row; exponent = exponent; bucket = bucket }) ≡ split_keys exponent bucket view seen
  split_left =
      ap (λ (row : RowKeys). class_left view.known (record { row = row; exponent = exponent; bucket = bucket })) is_row
      ∙ sym (ap (class_keys exponent bucket) (seen_keys-known view seen sound agrees))

  -- A row of them fits into one draw.
  pub split_room : FIRST_KEY + length (class_left view.known (record { row = row; exponent = exponent; bucket = bucket })) ≤ 2 ^ 28
  split_room =
      let of_class : ℕ → Bool = is_of exponent bucket in
      let keys = keys_at view seen.at in
      let inside = row_within view sound seen.at (row_at view.known seen.at) agrees.known in
      let same : length (class_left view.known (record { row = row; exponent = exponent; bucket = bucket })) ≡ length (class_keys exponent bucket keys) =
      ap (λ (row : RowKeys). length (class_left view.known (record { row = row; exponent = exponent; bucket = bucket }))) is_row in
      omega (arith, inside.small, same, length-filter of_class keys, count_by-le-length of_class keys)
