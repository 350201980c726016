-- Lost turns are paid still, where a pass has lost and won as much and has the same turn open.
use Rattle.std.proofs.Common.{◌≡◌, ℕ, ◌+◌, ◌<◌, sym, ap, ◌∙◌, subst, arith}
use native.Mathlib.Decide.{ℕ_discrete}
use Rattle.std.proofs.lemmas.List.Elements.{All-weaker}
use Rattle.step_core.specs.Format.{IsNil}
use Rattle.step_core.specs.declared.views.OpenTurn.{OpenTurn}
use Rattle.step_core.specs.declared.views.PassView.{PassView}
use Rattle.cells.specs.Paid.{IsPaid, IsPaidTurn, PaysLoad}

module _ (wins head : ℕ) (cells : ℕ → ℕ → ℕ) (old new : PassView) (lost : new.lost ≡ old.lost) (won : new.won ≡ old.won) where
  -- an open turn is paid still
  pub paid_turn_same : (turn : OpenTurn) → IsPaidTurn wins head cells old turn → IsPaidTurn wins head cells new turn
  paid_turn_same turn was = record {
    before = omega (arith, was.before);
    seen = omega (arith, was.seen);
    moved = λ apart. let overtaken : turn.seen + old.won < wins = was.moved apart in omega arith;
    loads = All-weaker (PaysLoad wins cells old turn) (PaysLoad wins cells new turn)
        (λ load pays same some mutable apart.
        let overtaken : turn.seen + old.won < wins = pays same some mutable apart in omega arith)
        turn.loads was.loads;
  }

  -- what is paid depends on the turns lost, the exchanges won and the open turn alone
  pub paid_same : new.turn ≡ old.turn → IsPaid wins head cells old → IsPaid wins head cells new
  paid_same turn paid =
      let before = paid.lost in
      record { lost = omega arith; turn = λ open_turn is. paid_turn_same open_turn (paid.turn open_turn (sym turn ∙ is)) }

-- Where another pass won one exchange more, what was paid is paid still, whatever the head and the cells are now: an open turn is
-- overtaken.
pub paid_more : (wins head new_head : ℕ) (cells new_cells : ℕ → ℕ → ℕ) (view : PassView) → IsPaid wins head cells view
    → IsPaid (wins + 1) new_head new_cells view
paid_more wins head new_head cells new_cells view paid = record {
  lost = omega (arith, paid.lost);
  turn = λ turn is.
      let was = paid.turn turn is in
      record {
        before = was.before;
        seen = omega (arith, was.seen);
        moved = λ apart. omega (arith, was.seen);
        loads = All-weaker (PaysLoad wins cells view turn) (PaysLoad (wins + 1) new_cells view turn)
            (λ load pays same some_row even apart. omega (arith, was.seen)) turn.loads was.loads;
      };
}

-- Where cells that aren't nil keep their words, what was paid is paid still.
pub paid_unless_nil : (wins head : ℕ) (cells new_cells : ℕ → ℕ → ℕ) (view : PassView)
    → ((at bucket : ℕ) → ¬ IsNil (cells at bucket) → new_cells at bucket ≡ cells at bucket) → IsPaid wins head cells view
    → IsPaid wins head new_cells view
paid_unless_nil wins head cells new_cells view stays paid = record {
  lost = paid.lost;
  turn = λ turn is.
      let was = paid.turn turn is in
      record {
        before = was.before;
        seen = was.seen;
        moved = was.moved;
        loads = All-weaker (PaysLoad wins cells view turn) (PaysLoad wins new_cells view turn)
            (λ load pays same some_row even apart. pays same some_row even (λ there.
            apart (stays load.at load.bucket (subst (λ (word : ℕ). ¬ IsNil word) (sym there) some_row) ∙ there))) turn.loads was.loads;
      };
}

-- Where the head's cells keep their words, what was paid is paid still: a turn that has another head was overtaken.
pub paid_unless_head : (wins head : ℕ) (cells new_cells : ℕ → ℕ → ℕ) (view : PassView)
    → ((bucket : ℕ) → new_cells head bucket ≡ cells head bucket) → IsPaid wins head cells view → IsPaid wins head new_cells view
paid_unless_head wins head cells new_cells view stays paid = record {
  lost = paid.lost;
  turn = λ turn is.
      let was = paid.turn turn is in
      record {
        before = was.before;
        seen = was.seen;
        moved = was.moved;
        loads = All-weaker (PaysLoad wins cells view turn) (PaysLoad wins new_cells view turn)
            (λ load pays same some_row even apart. elim (ℕ_discrete turn.head head) [
              | yes is_head ↦ pays same some_row even (λ there. apart
                  (ap (λ (at : ℕ). new_cells at load.bucket) (same ∙ is_head) ∙ stays load.bucket
                  ∙ ap (λ (at : ℕ). cells at load.bucket) (sym (same ∙ is_head)) ∙ there))
              | no other ↦ was.moved other
            ]) turn.loads was.loads;
      };
}
