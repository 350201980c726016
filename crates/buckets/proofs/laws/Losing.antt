-- At most the turn that is open is lost, whatever buckets are loaded.
use Rattle.std.proofs.Common.{◌≡◌, ◌≢◌, ℕ, ◌+◌, ◌⊎◌, Bool, true, false, cond, Option, None, Some, inl, inr, ⊎_elim, refl, sym, ap, ◌∙◌, subst, arith}
use Rattle.step_core.specs.declared.views.BucketLoad.{BucketLoad}
use Rattle.step_core.specs.declared.views.OpenTurn.{OpenTurn}
use Rattle.step_core.specs.declared.views.PassView.{PassView}
use Rattle.cells.specs.Steps.{LoadsBucket, bucket_load, loses_turn, turn_after_load}
use Rattle.buckets.specs.Filling.{LosesOpenTurn}

-- how many turns are lost
pub record LosesTurns (losses : ℕ) (old new : PassView) : Type 0 where
  pub lost : new.lost ≡ old.lost + losses
  pub few : LosesOpenTurn losses old new

-- by a load that loses the turn, or not
record Loses (losses lost : ℕ) (turn : Option OpenTurn) (more : ℕ) (after : Option OpenTurn) : Type 0 where
  count : more ≡ lost + losses
  few : ((losses ≡ 0) × (turn ≡ None → after ≡ None)) ⊎ ((losses ≡ 1) × (turn ≢ None) × (after ≡ None))

by_test : (lost : ℕ) (load : BucketLoad) (turn : OpenTurn) (b : Bool)
    → (losses : ℕ) × Loses losses lost (Some turn) (cond b (lost + 1) lost) (turn_after_load load b (Some turn))
by_test lost load turn true = (1, record { count = refl; few = inr (refl, λ none. absurd (cc), refl) })
by_test lost load turn false = (0, record { count = omega arith; few = inl (refl, λ none. absurd (cc)) })

by_turn : (view : PassView) (place word lost : ℕ) (load : BucketLoad) (turn : Option OpenTurn)
    → (losses : ℕ) × Loses losses lost turn (cond (loses_turn view place word turn) (lost + 1) lost)
    (turn_after_load load (loses_turn view place word turn) turn)
by_turn view place word lost load None = (0, record { count = omega arith; few = inl (refl, λ none. refl) })
by_turn view place word lost load (Some turn) = by_test lost load turn (loses_turn view place word (Some turn))

-- A bucket's load loses at most the turn that is open.
pub load_loses : (place : ℕ) (old : PassView) (word : ℕ) (new : PassView) → LoadsBucket place old word new → (losses : ℕ) × LosesTurns losses old new
load_loses place old word new loads =
    let by = by_turn old place word old.lost (bucket_load old place word) old.turn in (
      by.0,
      record {
        lost = ap (λ (view : PassView). view.lost) loads.view ∙ by.1.count;
        few = subst (λ (after : Option OpenTurn). ((by.0 ≡ 0) × (old.turn ≡ None → after ≡ None)) ⊎ ((by.0 ≡ 1) × (old.turn ≢ None) × (after ≡ None)))
            (sym (ap (λ (view : PassView). view.turn) loads.view)) by.1.few;
      },
    )

-- So do loads that follow each other.
pub loses_then : (one two : ℕ) (old between new : PassView) → LosesOpenTurn one old between → LosesOpenTurn two between new
    → LosesOpenTurn (one + two) old new
loses_then one two old between new first second = ⊎_elim
    (λ (none : (one ≡ 0) × (old.turn ≡ None → between.turn ≡ None)). ⊎_elim
    (λ (too : (two ≡ 0) × (between.turn ≡ None → new.turn ≡ None)).
    let both : LosesOpenTurn (one + two) old new = inl (omega (arith, none.0, too.0), λ closed. too.1 (none.1 closed)) in both)
    (λ (one_lost : (two ≡ 1) × (between.turn ≢ None) × (new.turn ≡ None)).
    let both : LosesOpenTurn (one + two) old new =
    inr (omega (arith, none.0, one_lost.0), λ closed. one_lost.1 (none.1 closed), one_lost.2) in both)
    second)
    (λ (one_lost : (one ≡ 1) × (old.turn ≢ None) × (between.turn ≡ None)). ⊎_elim
    (λ (too : (two ≡ 0) × (between.turn ≡ None → new.turn ≡ None)).
    let both : LosesOpenTurn (one + two) old new =
    inr (omega (arith, one_lost.0, too.0), one_lost.1, too.1 one_lost.2) in both)
    (λ (again : (two ≡ 1) × (between.turn ≢ None) × (new.turn ≡ None)). absurd (again.1 one_lost.2))
    second)
    first
