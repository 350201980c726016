-- The last call of each caller so far, with one call more.
use Rattle.std.proofs.Common.{◌≡◌, ◌≢◌, ℕ, ◌+◌, ◌-◌, ◌<◌, ◌==◌, Bool, true, false, cond, List, [], ◌∷◌, ◌++◌, length, get_or, slice_index, Option, Some, unwrap_or, inl, inr, refl, sym, ap, ◌∙◌, arith}
use Rattle.std.proofs.lemmas.Bool.Decides.{nat_tests}
use Rattle.std.proofs.lemmas.Bool.{cases_eq}
use Rattle.std.proofs.lemmas.List.{get_or-map, get_or_push}
use Rattle.std.proofs.Math.ListN.{get_or-append}
use Rattle.certify.specs.Place.{IsLast, callers}
use Rattle.certify.specs.declared.claimed.Claimed.{Claimed}

-- no call is made yet
pub last_of_none : (callers : List ℕ) (who : ℕ) → IsLast callers 0 who 0
last_of_none callers who = record {
  within = omega arith;
  made_by = λ some. absurd (omega arith);
  none = λ k from below. absurd
      (omega arith);
}

-- the call is its caller's last one then
last_same : (callers : List ℕ) (index who : ℕ) → slice_index callers index ≡ who → IsLast callers (index + 1) who (index + 1)
last_same callers index who made = record {
  within = omega arith;
  made_by = λ some. let e : (index + 1) - 1 ≡ index = omega arith in rw e made;
  none = λ k from below. absurd (omega arith);
}

-- and the last one of any other caller stays
last_other : (callers : List ℕ) (index who number : ℕ) → slice_index callers index ≢ who → IsLast callers index who number
    → IsLast callers (index + 1) who number
last_other callers index who number other last = record {
  within = let w = last.within in omega arith;
  made_by = last.made_by;
  none = λ k from below. elim (cases_eq k index) [ inl here ↦ rw here other | inr apart ↦ last.none k from (omega arith) ];
}

-- what a map of the callers' last calls says once the caller's last one is this call
pub last_goes_on : (callers : List ℕ) (index who : ℕ) (old new : ℕ → Option ℕ) → slice_index callers index ≡ who
    → ((q : ℕ) → new q ≡ cond (who == q) (Some (index + 1)) (old q))
    → ((q : ℕ) → IsLast callers index q (unwrap_or (old q) 0))
    → (q : ℕ) → IsLast callers (index + 1) q (unwrap_or (new q) 0)
last_goes_on callers index who old new made updates last q = go (who == q) refl where
  go : (same : Bool) → (who == q) ≡ same → IsLast callers (index + 1) q (unwrap_or (new q) 0)
  go true e =
      let is : new q ≡ Some (index + 1) = updates q ∙ ap (λ b. cond b (Some (index + 1)) (old q)) e in
      let equal : who ≡ q = grind (arith, nat_tests) in
      rw is (last_same callers index q (made ∙ equal))
  go false e =
      let is : new q ≡ old q = updates q ∙ ap (λ b. cond b (Some (index + 1)) (old q)) e in
      let apart : slice_index callers index ≢ q = λ h. let equal : who ≡ q = sym made ∙ h in grind (arith, nat_tests) in
      rw is (last_other callers index q (unwrap_or (old q) 0) apart (last q))

-- who made the call at an index
pub caller_at : (calls : List Claimed) (k : ℕ) (blank : Claimed) → k < length calls
    → slice_index (callers calls) k ≡ (get_or calls k blank).who
caller_at calls k blank within = get_or-map (λ (c : Claimed). c.who) calls k blank 0 within

-- what the list says of each call so far, with one more
pub before_goes_on : (callers before : List ℕ) (index number : ℕ) → length before ≡ index
    → ((k : ℕ) → k < index → IsLast callers k (slice_index callers k) (slice_index before k))
    → IsLast callers index (slice_index callers index) number
    → (k : ℕ) → k < index + 1 → IsLast callers k (slice_index callers k) (slice_index (before ++ number ∷ []) k)
before_goes_on callers before index number size each last k within = elim (cases_eq k index) [
  | inl here ↦ let e : slice_index (before ++ number ∷ []) index ≡ number = get_or_push before number 0 index size in rw (here, e) last
  | inr apart ↦
      let under : k < index = omega arith in
      let e : slice_index (before ++ number ∷ []) k ≡ slice_index before k = get_or-append before (number ∷ []) 0 k (rw size under) in
      rw e (each k under)
]
