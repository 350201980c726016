-- Place by place: what is kept at the start, what one place more does, and what is found at the end.
use Rattle.std.proofs.Common.{◌≡◌, ℕ, zero, suc, drop, ◌+◌, ◌-◌, ◌<◌, ◌≤◌, Bool, false, List, [], ◌++◌, length, take, slice_index, slice_index_or, replicate, Option, Some, inl, inr, refl, sym, ap, ◌∙◌, subst, arith}
use Rattle.std.specs.HashSet.{HashSet}
use Rattle.std.specs.declared.hash.FoldHasher.{FoldHasher}
use Rattle.std.specs.declared.hash.BuildHasherDefault.{BuildHasherDefault}
use Rattle.std.specs.FinSet as fin
use Rattle.std.specs.Ordering.{nat_cmp}
use Rattle.std.proofs.lemmas.Bool.{cases_eq}
use Rattle.std.proofs.Math.Seq.{take-append_seam}
use Rattle.set_model.specs.Keys.{is_in}
use Rattle.certify.specs.Place.{IsFine}
use Rattle.certify.specs.Order.{AreFine, IsReached, IsVerdict}
use Rattle.certify.specs.Judging.{HasJudged, IsJudged, IsFirstMissing, verdict_at}
use Rattle.certify.specs.declared.claimed.Claimed.{Claimed}
use Rattle.certify.specs.declared.verdict.Verdict.{Verdict}
use Rattle.certify.specs.declared.verdict.Verdict.TheVariants as verdict
use Rattle.certify.specs.declared.order.Judged.{Judged}
use Rattle.certify.specs.declared.order.Judged.TheVariants.{Fine, Unknown, Repeated, Early, Wrong}

-- flags that aren't set
pub unset : (count k : ℕ) → slice_index_or (replicate count false) k false ≡ false
unset zero k = refl
unset (suc count) zero = refl
unset (suc count) (suc k) = unset count k

-- flags in a vector, behind a loan of them all
pub lent_back : (count : ℕ) (new old : List Bool) → length new ≡ count → take count (new ++ drop (length new) old) ≡ new
lent_back count new old size = ap (λ (n : ℕ). take n (new ++ drop (length new) old)) (sym size)
    ∙ take-append_seam new (drop (length new) old)

-- no call was judged yet
pub none_judged : (calls : List Claimed) (seen : List Bool) (members : HashSet ℕ (BuildHasherDefault FoldHasher))
    → ((k : ℕ) → slice_index_or seen k false ≡ false) → members.keys ≡ [] → HasJudged calls [] seen members
none_judged calls seen members clear empty = record {
  flags = λ k under. clear k;
  callers = λ k j under within same h. let no = clear j in cc;
  held = λ key. rw empty (fin.contains-empty nat_cmp key);
}

module _ (calls : List Claimed) (order : List ℕ) (index : ℕ) (fine : AreFine calls order index) (within : index < length order) where
  back : (index + 1) - 1 ≡ index
  back = omega arith

  reached : IsReached calls order (index + 1)
  reached = ((omega arith, omega arith), rw back fine)

  abbrev At : Judged → Type 0
  At judged = IsJudged calls (take index order) (slice_index order index) judged

  -- what is found at the place is the verdict
  pub verdict_found : (judged : Judged) → At judged → (v : Verdict) → verdict_at (index + 1) judged ≡ Some v → IsVerdict calls order v
  verdict_found Fine is v e = cc
  verdict_found Unknown is v e =
      let same : verdict.Unknown (index + 1) ≡ v = cc in subst (IsVerdict calls order) same (reached, rw back is)
  verdict_found Repeated is v e =
      let same : verdict.Repeated (index + 1) ≡ v = cc in subst (IsVerdict calls order) same (reached, rw back is)
  verdict_found Early is v e =
      let same : verdict.Early (index + 1) ≡ v = cc in subst (IsVerdict calls order) same (reached, rw back is)
  verdict_found Wrong is v e =
      let same : verdict.Wrong (index + 1) ≡ v = cc in subst (IsVerdict calls order) same (reached, rw back is)

  -- where nothing is, the place is fine too
  pub none_found : (judged : Judged) (found : Option Verdict) → found ≡ verdict_at (index + 1) judged
      → ((v : Verdict) → found ≡ Some v → ⊥) → judged ≡ Fine
  none_found Fine found is none = refl
  none_found Unknown found is none = absurd (none _ is)
  none_found Repeated found is none = absurd (none _ is)
  none_found Early found is none = absurd (none _ is)
  none_found Wrong found is none = absurd (none _ is)

  pub fine_goes_on : (judged : Judged) → At judged → judged ≡ Fine → AreFine calls order (index + 1)
  fine_goes_on judged is e place some most = elim (cases_eq place (index + 1)) [
    | inl here ↦ let at : IsFine calls (take index order) (slice_index order index) = rw e at is in rw (here, back) at
    | inr apart ↦ fine place some (omega arith)
  ]

-- behind the last place
pub ends : (calls : List Claimed) (order : List ℕ) (seen : List Bool) (members : HashSet ℕ (BuildHasherDefault FoldHasher))
    → AreFine calls order (length order) → HasJudged calls order seen members → length seen ≡ length calls
    → (v : Verdict) → IsFirstMissing seen v → IsVerdict calls order v
ends calls order seen members fine kept size verdict.Legal all = (
  fine,
  λ number some below.
      let back : (number - 1) + 1 ≡ number = omega arith in
      ap (is_in order) (sym back) ∙ sym (kept.flags (number - 1) (omega arith)) ∙ all (number - 1) (omega arith),
)
ends calls order seen members fine kept size (verdict.Missing number) first =
    let some = first.0 in
    let within : number ≤ length calls = (let w = first.1 in omega arith) in
    let back : (number - 1) + 1 ≡ number = omega arith in (
      fine,
      λ other some_other below.
          let there : (other - 1) + 1 ≡ other = omega arith in
          ap (is_in order) (sym there) ∙ sym (kept.flags (other - 1) (omega arith)) ∙ first.3 (other - 1) (omega arith),
      some,
      within,
      ap (is_in order) (sym back) ∙ sym (kept.flags (number - 1) (omega arith)) ∙ first.2,
    )
ends calls order seen members fine kept size (verdict.Unknown place) never = absurd never
ends calls order seen members fine kept size (verdict.Repeated place) never = absurd never
ends calls order seen members fine kept size (verdict.Early place) never = absurd never
ends calls order seen members fine kept size (verdict.Wrong place) never = absurd never
