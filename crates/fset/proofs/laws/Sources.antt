-- The buckets that a bucket is filled from: one after a growth, two after a shrink. Their keys are those of the bucket's class.
use Rattle.std.proofs.Common.{◌≡◌, ◌≢◌, ℕ, ◌+◌, ◌*◌, ◌/◌, ◌%◌, ◌^◌, ◌<◌, ◌≤◌, ◌&&◌, ◌||◌, ◌⊎◌, Bool, true, false, nat_eq, List, length, All, inl, inr, ⊎_elim, refl, sym, ap, ◌∙◌, eq-eqb, arith}
use Rattle.std.proofs.Math.Nat.{add-mod_right, mod-eq_of_lt}
use Rattle.std.proofs.lemmas.Bool.Decides.{Decides-eqb}
use Rattle.std.proofs.lemmas.List.Elements.{All-weaker, filter_passes}
use Rattle.std.proofs.lemmas.List.Sums.{count_by-le-length, length-filter}
use Rattle.std.proofs.lemmas.Nat.{mod-pow-add, pow-add, pow_pos}
use Rattle.set_model.specs.Keys.{is_in}
use Rattle.step_core.specs.Buckets.{class_keys, key_bucket}
use Rattle.step_core.specs.Content.{bucket_of, spot_of, InClass}
use Rattle.step_core.proofs.lists.Histories.{class_has, class_lacks}
use Rattle.step_core.proofs.seen.Spots.{fewer_bits}
use Rattle.cells.proofs.laws.BucketLoads.{odd_or_even}
use Rattle.cells.proofs.laws.Given.{each_in}
use Rattle.fset.specs.Joining.{joined}
use Rattle.fset.proofs.laws.Joining.{is_in-joined}
use Rattle.fset.proofs.laws.Splitting.{is_in-split}

-- After a growth all spots of a bucket have one source,
pub split_source : (exponent before bucket spot : ℕ) → exponent ≡ before + 1 → bucket_of exponent spot ≡ bucket
    → bucket_of before spot ≡ bucket % 2 ^ before
split_source exponent before bucket spot more is =
    sym (fewer_bits before exponent spot (omega arith)) ∙ ap (λ (rest : ℕ). rest % 2 ^ before) is

-- and after a shrink each has one of two.
pub join_source : (exponent before bucket spot : ℕ) → before ≡ exponent + 1 → bucket_of exponent spot ≡ bucket
    → (bucket_of before spot ≡ bucket) ⊎ (bucket_of before spot ≡ bucket + 2 ^ exponent)
join_source exponent before bucket spot more is =
    let bits : before ≡ 1 + exponent = omega arith in
    let digit : ℕ = spot / 2 ^ exponent % 2 in
    let parts : spot % 2 ^ before ≡ digit * 2 ^ exponent + bucket =
    ap (λ (e : ℕ). spot % 2 ^ e) bits ∙ mod-pow-add spot 1 exponent ∙ ap (λ (rest : ℕ). digit * 2 ^ exponent + rest) is in
    ⊎_elim
    (λ (odd : digit ≡ 1).
    let high : (bucket_of before spot ≡ bucket) ⊎ (bucket_of before spot ≡ bucket + 2 ^ exponent) =
    inr (let sum : 1 * 2 ^ exponent + bucket ≡ bucket + 2 ^ exponent = omega arith in
    parts ∙ ap (λ (d : ℕ). d * 2 ^ exponent + bucket) odd ∙ sum) in high)
    (λ (even : digit ≡ 0).
    let low : (bucket_of before spot ≡ bucket) ⊎ (bucket_of before spot ≡ bucket + 2 ^ exponent) =
    inl (let sum : 0 * 2 ^ exponent + bucket ≡ bucket = omega arith in
    parts ∙ ap (λ (d : ℕ). d * 2 ^ exponent + bucket) even ∙ sum) in low)
    (odd_or_even (spot / 2 ^ exponent))

module _ (exponent bucket : ℕ) (keys : List ℕ) where
  -- The keys of a class are of it,
  pub split_class : All (InClass exponent bucket) (class_keys exponent bucket keys)
  split_class = All-weaker (λ (key : ℕ). nat_eq (key_bucket exponent key) bucket ≡ true) (InClass exponent bucket)
      (λ key test. (Decides-eqb (key_bucket exponent key) bucket).0 test) (class_keys exponent bucket keys)
      (filter_passes (λ (key : ℕ). nat_eq (key_bucket exponent key) bucket) keys)

  -- have all that the keys have of it,
  pub split_has : (key : ℕ) → InClass exponent bucket key → is_in (class_keys exponent bucket keys) key ≡ is_in keys key
  split_has key class = is_in-split exponent bucket keys key
      ∙ ap (λ (b : Bool). b && is_in keys key) (eq-eqb (key_bucket exponent key) bucket class)

  -- have nothing else,
  pub split_from : (key : ℕ) → is_in (class_keys exponent bucket keys) key ≡ true → is_in keys key ≡ true
  split_from key here =
      sym (split_has key (class_has exponent bucket (class_keys exponent bucket keys) key split_class here)) ∙ here

  -- and are no more.
  pub split_fewer : length (class_keys exponent bucket keys) ≤ length keys
  split_fewer =
      let of_class : ℕ → Bool = λ key. nat_eq (key_bucket exponent key) bucket in
      omega (arith, length-filter of_class keys, count_by-le-length of_class keys)

-- one of two that is true
either : (one other : Bool) → (one || other) ≡ true → (one ≡ true) ⊎ (other ≡ true)
either true other is = inl refl
either false other is = inr is

-- What two lists joined have, the one has or the other.
pub joined_from : (low high : List ℕ) (key : ℕ) → is_in (joined low high) key ≡ true → (is_in low key ≡ true) ⊎ (is_in high key ≡ true)
joined_from low high key here = either (is_in low key) (is_in high key) (sym (is_in-joined key low high) ∙ here)

or_false : (one : Bool) → (one || false) ≡ one
or_false true = refl
or_false false = refl

module _ (exponent before bucket : ℕ) (more : before ≡ exponent + 1) (within : bucket < 2 ^ exponent) where
  -- a key of the lower source is of the bucket's class
  of_low : (key : ℕ) → InClass before bucket key → InClass exponent bucket key
  of_low key class = sym (fewer_bits exponent before (spot_of key) (omega arith)) ∙ ap (λ (rest : ℕ). rest % 2 ^ exponent) class
      ∙ mod-eq_of_lt within

  -- and so is one of the other
  of_high : (key : ℕ) → InClass before (bucket + 2 ^ exponent) key → InClass exponent bucket key
  of_high key class = sym (fewer_bits exponent before (spot_of key) (omega arith)) ∙ ap (λ (rest : ℕ). rest % 2 ^ exponent) class
      ∙ add-mod_right bucket (2 ^ exponent) ∙ mod-eq_of_lt within

  -- which is another bucket.
  pub other_source : bucket + 2 ^ exponent ≢ bucket
  other_source same = let some = pow_pos exponent in absurd (omega (arith, some, same))

  -- Both are buckets of the generation before.
  pub sources_within : (bucket < 2 ^ before) × (bucket + 2 ^ exponent < 2 ^ before)
  sources_within =
      let size : 2 ^ before ≡ 2 ^ exponent * 2 = ap (λ (e : ℕ). 2 ^ e) more ∙ pow-add 2 exponent 1 in
      (omega (arith, size), omega (arith, size))

  module _ (low high : List ℕ) (of_one : All (InClass before bucket) low) (of_other : All (InClass before (bucket + 2 ^ exponent)) high) where
    -- The keys of both are of the class,
    pub joined_class : All (InClass exponent bucket) (joined low high)
    joined_class = All-weaker (λ (key : ℕ). is_in (joined low high) key ≡ true) (InClass exponent bucket)
        (λ key here. ⊎_elim
        (λ (first : is_in low key ≡ true). of_low key (class_has before bucket low key of_one first))
        (λ (second : is_in high key ≡ true). of_high key (class_has before (bucket + 2 ^ exponent) high key of_other second))
        (joined_from low high key here))
        (joined low high) (each_in (joined low high))

    -- of the lower source's keys they have what that has,
    pub joined_low : (key : ℕ) → InClass before bucket key → is_in (joined low high) key ≡ is_in low key
    joined_low key class =
        is_in-joined key low high
        ∙ ap (λ (b : Bool). is_in low key || b) (class_lacks before (bucket + 2 ^ exponent) high key of_other
        (λ too. other_source (sym too ∙ class)))
        ∙ or_false (is_in low key)

    -- and of the other's what that has.
    pub joined_high : (key : ℕ) → InClass before (bucket + 2 ^ exponent) key → is_in (joined low high) key ≡ is_in high key
    joined_high key class =
        is_in-joined key low high
        ∙ ap (λ (b : Bool). b || is_in high key) (class_lacks before bucket low key of_one (λ too. other_source (sym class ∙ too)))
