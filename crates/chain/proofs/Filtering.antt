-- What passes a filter, what a part of a list has, and a reading of what begins a history.
use Rattle.std.proofs.Common.{◌≡◌, ℕ, zero, suc, ◌+◌, ◌-◌, ◌<◌, ◌⊎◌, Bool, true, false, cond, if◌then◌else◌, List, [], ◌∷◌, ◌++◌, length, take, inl, inr, refl, sym, ap, ◌∙◌, subst, arith}
use Rattle.std.specs.List.{All, Any, filter}
use mathlib.Core.List.{IsPrefix}
use Rattle.std.proofs.lemmas.Bool.{cases_lt}
use Rattle.std.proofs.lemmas.List.{get_or-append-add, get_or_append_left, length-append, take-append-le}
use Rattle.std.proofs.lemmas.List.Elements.{All-cons, All-head, All-nil, All-tail}
use Rattle.set_model.specs.History.{members_after}
use Rattle.set_model.specs.declared.entry.Entry.{Entry}
use Rattle.chain.specs.Chain.{Asked, WasReading, changes_nothing}

either_kept : {X : Type 0} (P : X → Type 0) (passes : Bool) (x : X) (xs : List X) → All P (cond passes (x ∷ xs) xs)
    → (passes ≡ true → P x) × All P xs
either_kept P true x xs all = (λ passes. All-head P x xs all, All-tail P x xs all)
either_kept P false x xs all = (λ passes. absurd cc, all)

-- what holds with each that passes a filter
pub All-unfilter : {X : Type 0} (p : X → Bool) (P : X → Type 0) (xs : List X) → All P (filter p xs)
    → All (λ x. p x ≡ true → P x) xs
All-unfilter p P [] all = All-nil (λ x. p x ≡ true → P x)
All-unfilter p P (x ∷ xs) all =
    let both = either_kept P (p x) x (filter p xs) all in
    All-cons (λ x. p x ≡ true → P x) x xs both.0 (All-unfilter p P xs both.1)

Any-cons : {X : Type 0} (P : X → Type 0) (x : X) (xs : List X) → Any P xs → Any P (x ∷ xs)
Any-cons P x xs any = (suc any.0, any.1, omega (arith, any.2), any.3, any.4)

either_any : {X : Type 0} (P : X → Type 0) (passes : Bool) (x : X) (kept xs : List X) → (Any P kept → Any P xs)
    → Any P (cond passes (x ∷ kept) kept) → Any P (x ∷ xs)
either_any P true x kept xs further (zero, y, within, at, is) = (0, y, omega arith, at, is)
either_any P true x kept xs further (suc k, y, within, at, is) =
    Any-cons P x xs (further (k, y, omega (arith, within), at, is))
either_any P false x kept xs further any = Any-cons P x xs (further any)

-- one that passes a filter is one of the list
pub Any-unfilter : {X : Type 0} (p : X → Bool) (P : X → Type 0) (xs : List X) → Any P (filter p xs) → Any P xs
Any-unfilter p P [] any = any
Any-unfilter p P (x ∷ xs) any = either_any P (p x) x (filter p xs) xs (Any-unfilter p P xs) any

pub Any-append_left : {X : Type 0} (P : X → Type 0) (xs ys : List X) → Any P xs → Any P (xs ++ ys)
Any-append_left P xs ys any = (
  any.0,
  any.1,
  omega (arith, any.2, length-append xs ys),
  get_or_append_left xs ys any.1 any.0 any.2 ∙ any.3,
  any.4,
)

pub Any-append_right : {X : Type 0} (P : X → Type 0) (xs ys : List X) → Any P ys → Any P (xs ++ ys)
Any-append_right P xs ys any = (
  length xs + any.0,
  any.1,
  omega (arith, any.2, length-append xs ys),
  get_or-append-add xs ys any.0 any.1 ∙ any.3,
  any.4,
)

pub Any-weaker : {X : Type 0} (P Q : X → Type 0) → ((x : X) → P x → Q x) → (xs : List X) → Any P xs → Any Q xs
Any-weaker P Q weaker xs any = (any.0, any.1, any.2, any.3, weaker any.1 any.4)

-- a reading of what begins a history is one of the history
pub reading_begins : (members : ℕ → Bool) (front history : List Entry) (call : Asked) → IsPrefix front history
    → WasReading members front call → WasReading members history call
reading_begins members front history call begins was =
    let cut : take was.place history ≡ take was.place front =
    ap (take was.place) (sym begins.1) ∙ take-append-le was.place front begins.0 was.within in
    record {
      place = was.place;
      within = omega (arith, was.within, ap length begins.1, length-append front begins.0);
      reading = subst (λ entries. changes_nothing call.call (members_after members entries call.key) ≡ true) (sym cut) was.reading;
    }

-- a call that was begun is among the answered ones, or the last, which was refused
pub answered_or_last : (count serial : ℕ) (refused : Bool) → serial < count
    → (serial < count - (if refused then 1 else 0)) ⊎ ((refused ≡ true) × (serial ≡ count - 1))
answered_or_last count serial true begun = elim (cases_lt serial (count - 1)) [
  | inl below ↦ inl below
  | inr last ↦ inr (refl, omega (arith, begun, last))
]
answered_or_last count serial false begun = inl (omega (arith, begun))
