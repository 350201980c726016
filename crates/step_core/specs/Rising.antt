-- Rising lists of keys: the place of a key, the list with and without it, and the one change
-- between two.
use Rattle.std.specs.Prelude.{◌≡◌, ℕ, Bool, true, false, nat_lt, nat_eq, if◌then◌else◌, List, [], ◌∷◌, Option, Some, None}
use Rattle.std.specs.List.{prefix_len}
use lib.Pointwise.{pointwise}
use Rattle.set_model.specs.Keys.{is_in}
use Rattle.set_model.specs.declared.call.Call.{Call}
use Rattle.set_model.specs.declared.call.Call.TheVariants.{Insert, Remove, Contains}
use Rattle.set_model.specs.declared.entry.Entry.{Entry}

-- the place of the key in the rising list, or where it would stand: behind the keys that are below
-- it
abbrev pub place_in : List ℕ → ℕ → ℕ
place_in keys key = prefix_len (λ y. nat_lt y key) keys

-- the rising list with the key
unfoldable pub with_key : ℕ → List ℕ → List ℕ
with_key key [] = key ∷ []
with_key key (first ∷ keys) =
    if nat_lt first key then first ∷ with_key key keys
    else (if nat_eq first key then first ∷ keys else key ∷ first ∷ keys)

-- the rising list without the key
unfoldable pub without_key : ℕ → List ℕ → List ℕ
without_key key [] = []
without_key key (first ∷ keys) =
    if nat_lt first key then first ∷ without_key key keys
    else (if nat_eq first key then keys else first ∷ keys)

-- one key more or less
pub record Change : Type 0 where
  pub call : Call
  pub key : ℕ

-- whether two lists of keys are one
abbrev pub is_same : List ℕ → List ℕ → Bool
is_same = pointwise nat_eq

-- the rising list after a call at the key
abbrev pub keys_after_call : Call → ℕ → List ℕ → List ℕ
keys_after_call Insert key keys = with_key key keys
keys_after_call Remove key keys = without_key key keys
keys_after_call Contains key keys = keys

-- the rising list after the calls of a history, in order
abbrev pub keys_after : List ℕ → List Entry → List ℕ
keys_after keys [] = keys
keys_after keys (entry ∷ entries) =
    keys_after (keys_after_call entry.call entry.key keys) entries

-- the call changes the keys: an insert of one that they lack, or a remove of one that they have
abbrev pub ChangesKeys : Call → ℕ → List ℕ → Type 0
ChangesKeys Insert key keys = is_in keys key ≡ false
ChangesKeys Remove key keys = is_in keys key ≡ true
ChangesKeys Contains key keys = ⊥

-- the call changes the old rising list to the new one
pub record IsChange (old new : List ℕ) (call : Call) (key : ℕ) : Type 0 where
  pub changes : ChangesKeys call key old
  pub after : new ≡ keys_after_call call key old

-- the one change from a rising list to another, if it is one: at the first place where they differ
-- the new list has a key more, or the old one
unfoldable pub change_of : List ℕ → List ℕ → Option Change
change_of [] [] = None
change_of [] (now ∷ new) =
    if is_same [] new then Some (record { call = Insert; key = now }) else None
change_of (was ∷ old) [] =
    if is_same old [] then Some (record { call = Remove; key = was }) else None
change_of (was ∷ old) (now ∷ new) =
    if nat_eq was now then change_of old new
    else (if is_same (was ∷ old) new then Some (record { call = Insert; key = now })
    else (if is_same old (now ∷ new) then Some (record { call = Remove; key = was }) else None))
