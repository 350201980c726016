-- A call at a key changes of the set what it changes of the key's bucket.
use Rattle.std.proofs.Common.{◌≡◌, ℕ, Bool, true, false, ◌||◌, ◌&&◌, not, ◌==◌, List, length, refl, sym, ap, ◌∙◌}
use native.Mathlib.Decide.{ℕ_discrete}
use Rattle.std.specs.List.Sorted.{IsStrictlyIncreasing}
use Rattle.set_model.specs.Call.{answer_where, members_after_call}
use Rattle.set_model.specs.Keys.{is_in}
use Rattle.set_model.specs.declared.call.Call.{Call}
use Rattle.set_model.specs.declared.call.Call.TheVariants.{Insert, Remove, Contains}
use Rattle.set_model.proofs.LawMembers.{members_after_call-other}
use Rattle.step_core.specs.Buckets.{class_keys, key_bucket}
use Rattle.step_core.specs.Ledger.{Ledger, and_then, answer_of, bucket_for, bucket_keys, change, change_where, changed, done, drawing, row_len, width_of}
use Rattle.step_core.specs.Rising.{keys_after_call}
use Rattle.step_core.proofs.lists.Calls.{IsStrictlyIncreasing-after_call, is_in-after_call}
use Rattle.step_core.proofs.lists.Histories.{class_keys-in, class_keys-out, class_keys-rising, same_members_are_one}

-- what a call leaves of a key is told by whether it was a member
members_at : (call : Call) (key : ℕ) (one other : ℕ → Bool) (k : ℕ) → one k ≡ other k
    → members_after_call call key one k ≡ members_after_call call key other k
unfolding members_after_call
members_at Insert key one other k same = ap (λ (b : Bool). k == key || b) same
members_at Remove key one other k same = ap (λ (b : Bool). not (k == key) && b) same
members_at Contains key one other k same = same

module _ (exponent : ℕ) (call : Call) (key : ℕ) (keys : List ℕ) (rising : IsStrictlyIncreasing keys) where
  -- the key's bucket
  abbrev bucket : ℕ
  bucket = key_bucket exponent key

  -- the set's keys of it
  abbrev here : List ℕ
  here = class_keys exponent bucket keys

  here_rises : IsStrictlyIncreasing here
  here_rises = class_keys-rising exponent bucket keys rising

  -- The keys of the bucket after the call are those before it with the call made on them.
  pub class_keys-after_call : class_keys exponent bucket (keys_after_call call key keys) ≡ keys_after_call call key here
  class_keys-after_call =
      let after : List ℕ = keys_after_call call key keys in
      same_members_are_one (class_keys exponent bucket after) (keys_after_call call key here)
      (class_keys-rising exponent bucket after (IsStrictlyIncreasing-after_call call key keys rising))
      (IsStrictlyIncreasing-after_call call key here here_rises) (λ k.
      elim (ℕ_discrete (key_bucket exponent k) bucket) [
        | yes class ↦
            class_keys-in exponent bucket k after class
            ∙ is_in-after_call call key keys k rising
            ∙ members_at call key (is_in keys) (is_in here) k (sym (class_keys-in exponent bucket k keys class))
            ∙ sym (is_in-after_call call key here k here_rises)
        | no other ↦
            class_keys-out exponent bucket k after other
            ∙ sym (class_keys-out exponent bucket k keys other)
            ∙ sym (members_after_call-other call key (is_in here) k (λ same. other (ap (key_bucket exponent) same)))
            ∙ sym (is_in-after_call call key here k here_rises)
      ])

module _ (call : Call) (key : ℕ) (ledger : Ledger) where
  -- the set's keys of the key's bucket
  abbrev own : List ℕ
  own = bucket_keys (bucket_for key ledger) ledger

  -- Whether the key is there tells what a call answers.
  pub answer-own : answer_of call key ledger ≡ answer_where call (is_in own key)
  answer-own = ap (answer_where call) (sym (class_keys-in ledger.exponent (bucket_for key ledger) key ledger.keys refl))

  -- A call that is answered without a change does nothing.
  pub change-nothing : answer_of call key ledger ≡ false → change call key ledger ≡ done ledger
  change-nothing answer = ap (λ (b : Bool). change_where b call key ledger) answer

  module _ (rising : IsStrictlyIncreasing ledger.keys) where
    -- One that changes the set draws a row of these keys with the call made on them,
    pub change-drawing : answer_of call key ledger ≡ true → change call key ledger
        ≡ and_then (drawing (row_len (keys_after_call call key own)) ledger) (λ drawn. done (changed call key drawn))
    change-drawing answer =
        ap (λ (b : Bool). change_where b call key ledger) answer
        ∙ ap (λ (keys : List ℕ). and_then (drawing (row_len keys) ledger) (λ drawn. done (changed call key drawn)))
        (class_keys-after_call ledger.exponent call key ledger.keys rising)

    -- of which the bucket then has as many.
    pub width-changed : width_of key (changed call key ledger) ≡ length (keys_after_call call key own)
    width-changed = ap length (class_keys-after_call ledger.exponent call key ledger.keys rising)
