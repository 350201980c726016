-- Where one holder's view changes and the others stay, the blocks in all hands still stand in the words.
use Rattle.std.proofs.Common.{◌≡◌, ◌≢◌, ℕ, zero, suc, ◌⊎◌, inl, inr, ⊎_elim, List, [], ◌∷◌, set, refl, sym, ap, subst, arith}
use mathlib.Core.Option.{some, some-injective, some-ne-none}
use lib.ListN.{get_elem?}
use Rattle.arena.specs.declared.held.Held.{Held}
use Rattle.arena.specs.Owners.{Owner, hand}
use Rattle.arena.specs.Hands.{words_at}
use Rattle.arena.specs.LaidOut.{IsRange}
use Rattle.arena.specs.Laws.{ChangesView}
use Rattle.arena.proofs.laws.Ranges.{IsRange-front}

-- what a list has once one of its items was set: that item, and the others
get_elem?-set : {X : Type 0} (list : List X) (i j : ℕ) (item other : X) → get_elem? (set list i item) j ≡ some other
    → ((j ≡ i) × (item ≡ other)) ⊎ ((j ≢ i) × (get_elem? list j ≡ some other))
get_elem?-set [] i j item other e = absurd (some-ne-none other (sym e))
get_elem?-set (x ∷ xs) zero zero item other e = inl (refl, some-injective item other e)
get_elem?-set (x ∷ xs) zero (suc j) item other e = inr ((λ h. omega arith), e)
get_elem?-set (x ∷ xs) (suc i) zero item other e = inr ((λ h. omega arith), e)
get_elem?-set (x ∷ xs) (suc i) (suc j) item other e = ⊎_elim
    (λ here. inl (ap suc here.0, here.1))
    (λ there. let apart = there.0 in inr ((λ h. apart (omega arith)), there.1))
    (get_elem?-set xs i j item other e)

module _ {V : Type 0} (hands_of : V → List Held) (words : List ℕ) (owners : ℕ → Owner) where
  -- the blocks that the holder has in hand by this view stand in the words
  abbrev pub HandsStand : ℕ → V → Type 0
  HandsStand holder view = (at : ℕ) → IsRange words owners at (words_at (hands_of view) at) (hand holder at)

  -- the changed view by what the change makes of its blocks, the others by what they have
  pub hands_stand : (views : List V) (holder : ℕ) {change : List Held → List Held} (new : V)
      → (changes : ChangesView hands_of views holder change new)
      → ((at : ℕ) → IsRange words owners at (words_at (change (hands_of changes.old)) at) (hand holder at))
      → ((i : ℕ) (view : V) → i ≢ holder → get_elem? views i ≡ some view → HandsStand i view)
      → (i : ℕ) (view : V) → get_elem? (set views holder new) i ≡ some view → HandsStand i view
  hands_stand views holder new changes here there i view is_view = ⊎_elim
      (λ (same : (i ≡ holder) × (new ≡ view)).
      subst (λ (p : ℕ × V). HandsStand p.0 p.1) (λ k. (sym same.0 k, same.1 k))
      (λ at. IsRange-front (here at) (changes.fronts.fronts at)))
      (λ (other : (i ≢ holder) × (get_elem? views i ≡ some view)). there i view other.0 other.1)
      (get_elem?-set views holder i new view is_view)
