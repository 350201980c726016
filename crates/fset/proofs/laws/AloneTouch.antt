-- What filling a bucket leaves of a ledger, and the parts of a change.
use Rattle.std.proofs.Common.{◌≡◌, ℕ, ◌+◌, Bool, true, false, nat_le, List, Option, Some, None, refl, sym, ◌∙◌}
use Rattle.std.specs.List.Sorted.{IsStrictlyIncreasing}
use Rattle.set_model.specs.Call.{members_after_call}
use Rattle.set_model.specs.Keys.{is_in}
use Rattle.set_model.specs.declared.call.Call.{Call}
use Rattle.set_model.specs.declared.call.Call.TheVariants.{Insert, Remove, Contains}
use Rattle.step_core.specs.Buckets.{class_keys, key_bucket}
use Rattle.step_core.specs.Content.{InClass}
use Rattle.step_core.specs.Ledger.{Ledger, Outcome, and_then_where, bucket_for, bucket_keys, changed, done, draw_row, drawing_where, row_len, touch, touch_where, touched}
use Rattle.step_core.specs.Rising.{keys_after_call}
use Rattle.step_core.proofs.lists.Calls.{IsStrictlyIncreasing-after_call, is_in-after_call}
use Rattle.step_core.proofs.lists.Each.{all_after_call}
use Rattle.step_core.proofs.lists.Histories.{class_keys-in, class_keys-rising, class_only}
use Rattle.fset.proofs.laws.Sources.{split_class}

-- a draw leaves the keys,
drawing-keys : (spent : Option ℕ) (fits : Bool) (len : ℕ) (ledger : Ledger) → (drawing_where spent fits len ledger).ledger.keys ≡ ledger.keys
drawing-keys (Some place) fits len ledger = refl
drawing-keys None true len ledger = refl
drawing-keys None false len ledger = refl

-- what was drawn for a bucket and then touches it does,
fill-keys : (full : Bool) (first : Outcome) (bucket : ℕ)
    → (and_then_where full first (done (touched bucket first.ledger))).ledger.keys ≡ first.ledger.keys
fill-keys true first bucket = refl
fill-keys false first bucket = refl

-- whether there was anything to fill or not
touch_where-keys : (untouched : Bool) (bucket : ℕ) (ledger : Ledger) → (touch_where untouched bucket ledger).ledger.keys ≡ ledger.keys
touch_where-keys true bucket ledger =
    fill-keys (draw_row bucket ledger).full (draw_row bucket ledger) bucket
    ∙ drawing-keys ledger.spent (nat_le (ledger.next + row_len (bucket_keys bucket ledger)) ledger.cap) (row_len (bucket_keys bucket ledger)) ledger
touch_where-keys false bucket ledger = refl

-- Filling a bucket leaves the keys.
pub touch-keys : (bucket : ℕ) (ledger : Ledger) → (touch bucket ledger).ledger.keys ≡ ledger.keys
touch-keys bucket ledger = touch_where-keys (ledger.untouched bucket) bucket ledger

-- a call does the same to two tests at a key where they agree
after_call-at : (call : Call) (key : ℕ) (one other : ℕ → Bool) (k : ℕ) → one k ≡ other k
    → members_after_call call key one k ≡ members_after_call call key other k
unfolding members_after_call
after_call-at Insert key one other k same = rw same refl
after_call-at Remove key one other k same = rw same refl
after_call-at Contains key one other k same = same

-- A call at a key of a bucket does to the bucket's keys what it does to all.
pub class_keys-after_call : (exponent bucket : ℕ) (call : Call) (key : ℕ) (keys : List ℕ) → IsStrictlyIncreasing keys → InClass exponent bucket key
    → keys_after_call call key (class_keys exponent bucket keys) ≡ class_keys exponent bucket (keys_after_call call key keys)
class_keys-after_call exponent bucket call key keys rising here =
    let part = class_keys exponent bucket keys in
    let rises = class_keys-rising exponent bucket keys rising in
    class_only exponent bucket (keys_after_call call key part) (keys_after_call call key keys)
    (IsStrictlyIncreasing-after_call call key part rises) (IsStrictlyIncreasing-after_call call key keys rising)
    (all_after_call (InClass exponent bucket) call key part (λ _. here) (split_class exponent bucket keys))
    (λ k class. is_in-after_call call key part k rises
    ∙ after_call-at call key (is_in part) (is_in keys) k (class_keys-in exponent bucket k keys class)
    ∙ sym (is_in-after_call call key keys k rising))

-- So it is with the key's bucket of a ledger.
pub bucket_keys-changed : (call : Call) (key : ℕ) (ledger : Ledger) → IsStrictlyIncreasing ledger.keys
    → keys_after_call call key (bucket_keys (bucket_for key ledger) ledger) ≡ bucket_keys (bucket_for key ledger) (changed call key ledger)
bucket_keys-changed call key ledger rising =
    class_keys-after_call ledger.exponent (key_bucket ledger.exponent key) call key ledger.keys rising refl
