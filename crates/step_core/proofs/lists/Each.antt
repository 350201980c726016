-- What holds of each key of a rising list holds of each key after a call, where it holds of the call's key.
use Rattle.std.proofs.Common.{◌≡◌, ℕ, true, false, nat_eq, nat_lt, if◌then◌else◌, List, [], ◌∷◌, All, refl}
use Rattle.std.proofs.lemmas.List.Elements.{All-cons, All-head, All-tail}
use Rattle.set_model.specs.declared.call.Call.{Call}
use Rattle.set_model.specs.declared.call.Call.TheVariants.{Insert, Remove, Contains}
use Rattle.step_core.specs.Rising.{with_key, without_key, keys_after_call}

-- with the key
all_with : (P : ℕ → Type 0) (key : ℕ) (keys : List ℕ) → P key → All P keys → All P (with_key key keys)
unfolding with_key
all_with P key [] here all = All-cons P key [] here all
all_with P key (first ∷ keys) here all =
    elim (nat_lt first key) as (λ b. All P (if b then first ∷ with_key key keys
    else (if nat_eq first key then first ∷ keys else key ∷ first ∷ keys))) [
      | true ↦ All-cons P first (with_key key keys) (All-head P first keys all) (all_with P key keys here (All-tail P first keys all))
      | false ↦ elim (nat_eq first key) as (λ b. All P (if b then first ∷ keys else key ∷ first ∷ keys)) [
        | true ↦ all
        | false ↦ All-cons P key (first ∷ keys) here all
      ]
    ]

-- without it
all_without : (P : ℕ → Type 0) (key : ℕ) (keys : List ℕ) → All P keys → All P (without_key key keys)
unfolding without_key
all_without P key [] all = all
all_without P key (first ∷ keys) all =
    elim (nat_lt first key) as (λ b. All P (if b then first ∷ without_key key keys
    else (if nat_eq first key then keys else first ∷ keys))) [
      | true ↦ All-cons P first (without_key key keys) (All-head P first keys all) (all_without P key keys (All-tail P first keys all))
      | false ↦ elim (nat_eq first key) as (λ b. All P (if b then keys else first ∷ keys)) [
        | true ↦ All-tail P first keys all
        | false ↦ all
      ]
    ]

-- after any call: of its key it must hold where that is inserted
pub all_after_call : (P : ℕ → Type 0) (call : Call) (key : ℕ) (keys : List ℕ) → (call ≡ Insert → P key) → All P keys
    → All P (keys_after_call call key keys)
all_after_call P Insert key keys here all = all_with P key keys (here refl) all
all_after_call P Remove key keys here all = all_without P key keys all
all_after_call P Contains key keys here all = all
