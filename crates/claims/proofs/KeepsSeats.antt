-- Cutting a seat in two and putting two seats together keep the rule.
use Rattle.std.proofs.Common.{◌≡◌, ℕ, zero, suc, ◌⊎◌, inl, inr, cond, ◌+◌, ◌*◌, ◌<◌, ◌≤◌, List, [], ◌∷◌, ◌++◌, length, set, refl, sym, ap, ◌∙◌, subst, arith, length-append, sum_by}
use mathlib.Core.Logic.{⊎_elim}
use mathlib.Core.Option.{some}
use lib.ListN.{get_elem?}
use Rattle.std.proofs.lemmas.List.Sums.{sum_by-append, sum_by_push}
use Rattle.atomic_table.specs.Table.{Splits, Joins}
use Rattle.atomic_table.proofs.Lists.{at_set, at_snoc, set_else}
use Rattle.claims.specs.declared.rule.SeatView.{SeatView}
use Rattle.claims.specs.declared.rule.Setup.{Setup}
use Rattle.claims.specs.Divided.{Divides, IsSound}
use Rattle.claims.specs.Places.{holders_of, has_place}
use Rattle.claims.specs.Views.{rest_view, part_view, both_views, no_view, draws_in}
use Rattle.claims.proofs.LawTotals.{total-set}

zero_or_above : (n : ℕ) → (n ≡ 0) ⊎ (0 < n)
zero_or_above zero = inl refl
zero_or_above (suc n) = inr (omega arith)

-- a measure that is cut as the view is
split_total : (f : SeatView → ℕ) (views : List SeatView) (id : ℕ) (view left right : SeatView) → get_elem? views id ≡ some view
    → f left + f right ≡ f view → sum_by f (set views id left ++ right ∷ []) ≡ sum_by f views
split_total f views id view left right is cut =
    let sum = total-set f views id view left is in
    sum_by_push f (set views id left) right ∙ omega arith

-- a measure that is added up as the views are
join_total : (f : SeatView → ℕ) (views : List SeatView) (id : ℕ) (view : SeatView) (other_id : ℕ) (other both gone : SeatView)
    → get_elem? views id ≡ some view → get_elem? (set views id both) other_id ≡ some other
    → f both ≡ f view + f other → f gone ≡ 0
    → sum_by f (set (set views id both) other_id gone) ≡ sum_by f views
join_total f views id view other_id other both gone is at sum none =
    let first = total-set f views id view both is in
    let second = total-set f (set views id both) other_id other gone at in
    omega arith

-- where one of two missed, the counter has passed the length
past : (setup : Setup) (word : ℕ) (view other : SeatView) → IsSound setup word view → IsSound setup word other
    → 0 < length other.misses + length view.misses → setup.len ≤ word
past setup word view other own others missed =
    ⊎_elim (λ none. own.missed_past (omega arith)) (λ one. others.missed_past one) (zero_or_above (length other.misses))

module _ (setup : Setup) where
  -- a seat that made no draw may be cut in two
  pub cut_keeps : (id : ℕ) (view : SeatView) → 1 ≤ view.parts → view.claims ≡ [] → view.misses ≡ []
      → Splits (Divides setup) id view (rest_view view) (part_view view)
  cut_keeps id view part no_claims no_misses table divides is =
      let left = rest_view view in
      let right = part_view view in
      let views = table.views in
      let total : (f : SeatView → ℕ) → f left + f right ≡ f view → sum_by f (set views id left ++ right ∷ []) ≡ sum_by f views =
      λ f cut. split_total f views id view left right is cut in
      let no_miss : length view.misses ≡ 0 = ap length no_misses in
      let misses = total (λ v. length v.misses) (omega arith) in
      let draws = total draws_in (omega arith) in
      record {
        word = divides.word;
        words = divides.words;
        small = divides.small;
        parts = total (λ v. v.parts) (omega arith) ∙ divides.parts;
        once = λ place. total (λ v. holders_of place v.claims) (omega arith) ∙ divides.once place;
        drawn = divides.drawn ∙ ap (λ (n : ℕ). setup.chunk * n) (sym draws);
        room = subst (λ (n : ℕ). divides.word ≤ setup.len + setup.chunk * (1 + n)) (sym misses) divides.room;
        unwrapped = divides.unwrapped;
        sound = λ number any there. ⊎_elim
            (λ old. ⊎_elim
            (λ same. subst (IsSound setup divides.word) same.1 (record {
              missed_once = omega (arith, no_miss);
              missed_past = λ missed. absurd (omega (arith, no_miss));
              idle = λ none. no_claims;
            }))
            (λ else. divides.sound number any else.1)
            (at_set views id number left any old))
            (λ same. subst (IsSound setup divides.word) same (record {
              missed_once = omega arith;
              missed_past = λ missed. absurd (omega arith);
              idle = λ none. refl;
            }))
            (at_snoc (set views id left) right any number there);
      }

  -- a seat may take in any other
  pub gather_keeps : (id : ℕ) (view : SeatView) (other_id : ℕ) (other : SeatView)
      → Joins (Divides setup) id view other_id other (both_views view other) no_view
  gather_keeps id view other_id other table divides is apart at =
      let both = both_views view other in
      let views = table.views in
      let total : (f : SeatView → ℕ) → f both ≡ f view + f other → f no_view ≡ 0
      → sum_by f (set (set views id both) other_id no_view) ≡ sum_by f views =
      λ f sum none. join_total f views id view other_id other both no_view is at sum none in
      let misses = total (λ v. length v.misses) (omega (arith, length-append other.misses view.misses)) refl in
      let draws = total draws_in
      (omega (arith, length-append other.misses view.misses, length-append other.claims view.claims)) refl in
      let own = divides.sound id view is in
      let others = divides.sound other_id other (sym (set_else views id other_id both apart) ∙ at) in
      let count = length-append other.misses view.misses in
      record {
        word = divides.word;
        words = divides.words;
        small = divides.small;
        parts = total (λ v. v.parts) refl refl ∙ divides.parts;
        once = λ place. total (λ v. holders_of place v.claims)
            (omega (arith, sum_by-append (λ claim. cond (has_place place claim) 1 0) other.claims view.claims)) refl
            ∙ divides.once place;
        drawn = divides.drawn ∙ ap (λ (n : ℕ). setup.chunk * n) (sym draws);
        room = subst (λ (n : ℕ). divides.word ≤ setup.len + setup.chunk * (1 + n)) (sym misses) divides.room;
        unwrapped = divides.unwrapped;
        sound = λ number any there. ⊎_elim
            (λ gone. subst (IsSound setup divides.word) gone.1 (record {
              missed_once = omega arith;
              missed_past = λ missed. absurd (omega arith);
              idle = λ none. refl;
            }))
            (λ else. ⊎_elim
            (λ same. subst (IsSound setup divides.word) same.1 (record {
              missed_once = omega (arith, own.missed_once, others.missed_once);
              missed_past = λ missed. past setup divides.word view other own others (omega arith);
              idle = λ none. (λ i. others.idle (omega arith) i ++ own.idle (omega arith) i);
            }))
            (λ kept. divides.sound number any kept.1)
            (at_set views id number both any else.1))
            (at_set (set views id both) other_id number no_view any there);
      }
