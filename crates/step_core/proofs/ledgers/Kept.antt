-- What draws and fills leave of a ledger: its keys, its exponent and its number of words, and draws also the untouched buckets.
use Rattle.std.proofs.Common.{◌≡◌, ℕ, zero, suc, ◌+◌, nat_le, Bool, true, false, Option, Some, None, refl, ◌∙◌}
use Rattle.step_core.specs.Buckets.{class_keys}
use Rattle.step_core.specs.Ledger.{Ledger, Outcome, and_then, and_then_where, bucket_keys, done, draw_row, drawing, drawing_where, row_len, touch, touch_first, touch_where, touched}

-- keys, exponent and number of words are as they were
pub record KeepsKeys (old new : Ledger) : Type 0 where
  pub keys : new.keys ≡ old.keys
  pub exponent : new.exponent ≡ old.exponent
  pub cap : new.cap ≡ old.cap

-- A ledger has its own,
pub keys_stay : (ledger : Ledger) → KeepsKeys ledger ledger
keys_stay ledger = record { keys = refl; exponent = refl; cap = refl }

-- and they stay over two parts where they stay over each.
pub keys_then : (old between new : Ledger) → KeepsKeys old between → KeepsKeys between new → KeepsKeys old new
keys_then old between new first second = record {
  keys = second.keys ∙ first.keys;
  exponent = second.exponent ∙ first.exponent;
  cap = second.cap ∙ first.cap;
}

-- The keys of a bucket are then the same.
pub bucket_keys-kept : (bucket : ℕ) (old new : Ledger) → KeepsKeys old new → bucket_keys bucket new ≡ bucket_keys bucket old
bucket_keys-kept bucket old new kept = λ i. class_keys (kept.exponent i) bucket (kept.keys i)

-- a draw keeps them, whether the pass is spent or the words fit,
draw_where : (spent : Option ℕ) (fits : Bool) (len : ℕ) (ledger : Ledger) → KeepsKeys ledger (drawing_where spent fits len ledger).ledger
draw_where (Some place) fits len ledger = keys_stay ledger
draw_where None true len ledger = record { keys = refl; exponent = refl; cap = refl }
draw_where None false len ledger = record { keys = refl; exponent = refl; cap = refl }

-- A draw keeps them,
pub draw_keeps : (len : ℕ) (ledger : Ledger) → KeepsKeys ledger (drawing len ledger).ledger
draw_keeps len ledger = draw_where ledger.spent (nat_le (ledger.next + len) ledger.cap) len ledger

-- it leaves the untouched buckets,
untouched_where : (spent : Option ℕ) (fits : Bool) (len : ℕ) (ledger : Ledger)
    → (drawing_where spent fits len ledger).ledger.untouched ≡ ledger.untouched
untouched_where (Some place) fits len ledger = refl
untouched_where None true len ledger = refl
untouched_where None false len ledger = refl

-- and leaves the untouched buckets, however it ends.
pub drawing-untouched : (len : ℕ) (ledger : Ledger) → (drawing len ledger).ledger.untouched ≡ ledger.untouched
drawing-untouched len ledger = untouched_where ledger.spent (nat_le (ledger.next + len) ledger.cap) len ledger

-- two parts keep the keys where each does, whether the first was Full or not
both_keep : (full : Bool) (ledger : Ledger) (first after : Outcome) → KeepsKeys ledger first.ledger
    → KeepsKeys first.ledger after.ledger → KeepsKeys ledger (and_then_where full first after).ledger
both_keep true ledger first after one two = one
both_keep false ledger first after one two = keys_then ledger first.ledger after.ledger one two

-- Two parts of a call keep the keys where each does.
pub then_keeps : (ledger : Ledger) (first : Outcome) (next : Ledger → Outcome) → KeepsKeys ledger first.ledger
    → KeepsKeys first.ledger (next first.ledger).ledger → KeepsKeys ledger (and_then first next).ledger
then_keeps ledger first next one two = both_keep first.full ledger first (next first.ledger) one two

-- so does the fill of a bucket, and what does nothing
touch_where_keeps : (untouched : Bool) (bucket : ℕ) (ledger : Ledger) → KeepsKeys ledger (touch_where untouched bucket ledger).ledger
touch_where_keeps true bucket ledger =
    let drawn : Outcome = draw_row bucket ledger in
    then_keeps ledger drawn (λ l. done (touched bucket l)) (draw_keeps (row_len (bucket_keys bucket ledger)) ledger)
    (record { keys = refl; exponent = refl; cap = refl })
touch_where_keeps false bucket ledger = keys_stay ledger

-- A bucket that is filled where it is nil keeps them,
pub touch_keeps : (bucket : ℕ) (ledger : Ledger) → KeepsKeys ledger (touch bucket ledger).ledger
touch_keeps bucket ledger = touch_where_keeps (ledger.untouched bucket) bucket ledger

-- and so do the first buckets.
pub touch_first_keeps : (count : ℕ) (ledger : Ledger) → KeepsKeys ledger (touch_first count ledger).ledger
unfolding touch_first
touch_first_keeps zero ledger = keys_stay ledger
touch_first_keeps (suc bucket) ledger =
    let before : Outcome = touch_first bucket ledger in
    then_keeps ledger before (touch bucket) (touch_first_keeps bucket ledger) (touch_keeps bucket before.ledger)
