-- A round with one pass, as that pass can tell it without a word or a row: which keys the set has,
-- what was drawn, and for each call what it draws, when it is Full, and what it leaves.
use Rattle.std.specs.Prelude.{ℕ, zero, suc, ◌+◌, ◌^◌, ◌&&◌, not, Bool, true, false, nat_eq, nat_le, List, [], ◌∷◌, ◌++◌, length, Option, Some, None}
use Rattle.set_model.specs.Call.{answer_where}
use Rattle.set_model.specs.Keys.{is_in}
use Rattle.set_model.specs.declared.call.Call.{Call}
use Rattle.step_core.specs.Buckets.{class_keys, key_bucket}
use Rattle.step_core.specs.Rising.{keys_after_call}
use Rattle.step_core.specs.declared.format.TheConstants.{FIRST_BUCKET, FIRST_KEY}

-- the keys of the set, rising; the exponent of the head and which of its buckets are nil; the first
-- word never drawn and the number of words; and the place that a draw past the end found
pub record Ledger : Type 0 where
  pub keys : List ℕ
  pub exponent : ℕ
  pub untouched : ℕ → Bool
  pub next : ℕ
  pub cap : ℕ
  pub spent : Option ℕ

-- how a call ends: whether it was Full, the lengths that it drew, in order, and the ledger after it
pub record Outcome : Type 0 where
  pub full : Bool
  pub lengths : List ℕ
  pub ledger : Ledger

-- a call that draws nothing and isn't Full
abbrev pub done : Ledger → Outcome
done ledger = record { full = false; lengths = []; ledger = ledger }

-- a draw where it is known whether the pass is spent, and whether the words drawn end in the arena
abbrev pub drawing_where : Option ℕ → Bool → ℕ → Ledger → Outcome
drawing_where (Some place) fits len ledger =
    record { full = true; lengths = []; ledger = ledger }
drawing_where None true len ledger = record {
  full = false;
  lengths = len ∷ [];
  ledger = record ledger { next = ledger.next + len };
}
drawing_where None false len ledger = record {
  full = true;
  lengths = len ∷ [];
  ledger = record ledger { next = ledger.next + len; spent = Some ledger.next };
}

-- a draw of so many words
abbrev pub drawing : ℕ → Ledger → Outcome
drawing len ledger =
    drawing_where ledger.spent (nat_le (ledger.next + len) ledger.cap) len ledger

-- the ledger after a call that changed the set
abbrev pub changed : Call → ℕ → Ledger → Ledger
changed call key ledger = record ledger { keys = keys_after_call call key ledger.keys }

-- the ledger after a nil bucket of the head was filled
abbrev pub touched : ℕ → Ledger → Ledger
touched bucket ledger = record ledger {
  untouched = λ other. not (nat_eq bucket other) && ledger.untouched other;
}

-- the ledger after a generation of this exponent became the head, all of whose buckets are nil
abbrev pub resized : ℕ → Ledger → Ledger
resized exponent ledger = record ledger { exponent = exponent; untouched = λ bucket. true }

-- the keys of the set that are of a bucket of the head
abbrev pub bucket_keys : ℕ → Ledger → List ℕ
bucket_keys bucket ledger = class_keys ledger.exponent bucket ledger.keys

-- the bucket of a key in the head
abbrev pub bucket_for : ℕ → Ledger → ℕ
bucket_for key ledger = key_bucket ledger.exponent key

-- how many keys of the set are in the key's bucket
abbrev pub width_of : ℕ → Ledger → ℕ
width_of key ledger = length (bucket_keys (bucket_for key ledger) ledger)

-- the answer of a call: whether it changes the set or, of a look-up, whether the key is there
abbrev pub answer_of : Call → ℕ → Ledger → Bool
answer_of call key ledger = answer_where call (is_in ledger.keys key)

-- the words of a row of these keys
abbrev pub row_len : List ℕ → ℕ
row_len keys = FIRST_KEY + length keys

-- where the first part of a call was Full, the call ends so, and else with what comes next
abbrev pub and_then_where : Bool → Outcome → Outcome → Outcome
and_then_where true first after = first
and_then_where false first after = record after { lengths = first.lengths ++ after.lengths }

-- one part of a call, and then another
abbrev pub and_then : Outcome → (Ledger → Outcome) → Outcome
and_then first next = and_then_where first.full first (next first.ledger)

-- a row of the keys of the bucket is drawn
abbrev pub draw_row : ℕ → Ledger → Outcome
draw_row bucket ledger = drawing (row_len (bucket_keys bucket ledger)) ledger

-- a nil bucket of the head is filled
abbrev pub fill : ℕ → Ledger → Outcome
fill bucket ledger = and_then (draw_row bucket ledger) (λ drawn. done (touched bucket drawn))

-- a bucket is filled where it is nil
abbrev pub touch_where : Bool → ℕ → Ledger → Outcome
touch_where true bucket ledger = fill bucket ledger
touch_where false bucket ledger = done ledger

abbrev pub touch : ℕ → Ledger → Outcome
touch bucket ledger = touch_where (ledger.untouched bucket) bucket ledger

-- so are the first buckets, rising
unfoldable pub touch_first : ℕ → Ledger → Outcome
touch_first zero ledger = done ledger
touch_first (suc bucket) ledger = and_then (touch_first bucket ledger) (touch bucket)

-- a call that changes the set draws a row of what its key's bucket has then, and one that doesn't
-- draws nothing
abbrev pub change_where : Bool → Call → ℕ → Ledger → Outcome
change_where true call key ledger =
    and_then (drawing (row_len (bucket_keys (bucket_for key ledger) (changed call key ledger))) ledger)
    (λ drawn. done (changed call key drawn))
change_where false call key ledger = done ledger

abbrev pub change : Call → ℕ → Ledger → Outcome
change call key ledger = change_where (answer_of call key ledger) call key ledger

-- an insert or a remove fills its key's bucket first
abbrev pub touch_for : ℕ → Ledger → Outcome
touch_for key ledger = touch (bucket_for key ledger) ledger

abbrev pub write : Call → ℕ → Ledger → Outcome
write call key ledger = and_then (touch_for key ledger) (change call key)

-- a generation of this exponent is drawn, and becomes the head
abbrev pub publish : ℕ → Ledger → Outcome
publish exponent ledger = and_then (drawing (FIRST_BUCKET + 2 ^ exponent) ledger)
    (λ drawn. done (resized exponent drawn))

-- a growth or a shrinking to this exponent fills all buckets of the head first
abbrev pub resize : ℕ → Ledger → Outcome
resize exponent ledger = and_then (touch_first (2 ^ ledger.exponent) ledger) (publish exponent)
