-- Cutting a table seat in two and putting two table seats together keep the rule.
use Rattle.std.proofs.Common.{◌≡◌, ◌≢◌, ℕ, ◌∷◌, ◌++◌, sym, ◌∙◌, All}
use mathlib.Core.List.{IsPrefix}
use Rattle.std.proofs.lemmas.List.Elements.{All-weaker}
use Rattle.atomic_table.specs.Table.{Splits, Joins}
use Rattle.atomic_table.proofs.Lists.{set_else}
use Rattle.step_core.specs.declared.views.RoundFacts.{RoundFacts}
use Rattle.cells.specs.Past.{longest_front}
use Rattle.cells.specs.Seats.{IsRuled, SpeaksFor, pass_seat, note_seat, spent_seat, pass_of, other_passes}
use Rattle.cells.specs.declared.rule.SeatView.{SeatView}
use Rattle.cells.proofs.laws.Fronts.{longest_front-begins}
use Rattle.cells.proofs.parts.Seated.{cut_seated, joined_seated, beside_seated}

module _ (facts : RoundFacts) where
  -- the first of a table seat's passes may get a table seat of its own, where the others are other passes
  pub cut_keeps : (id : ℕ) (seat : SeatView) → seat.rights ≡ pass_of seat ∷ other_passes seat.rights
      → All (λ view. view.number ≢ (pass_of seat).number) (other_passes seat.rights)
      → Splits (IsRuled facts) id seat (record { front = seat.front; rights = other_passes seat.rights }) (pass_seat (pass_of seat))
  cut_keeps id seat one apart table ruled there = record {
    state = ruled.state;
    history = ruled.history;
    holds = ruled.holds;
    seated = cut_seated ruled.state.views ruled.history table.views ruled.seated id seat there one apart;
  }

  -- a table seat may take in the passes of any other
  pub gather_keeps : (id : ℕ) (seat : SeatView) (other_id : ℕ) (other : SeatView)
      → Joins (IsRuled facts) id seat other_id other (record { front = seat.front; rights = other.rights ++ seat.rights }) spent_seat
  gather_keeps id seat other_id other table ruled there apart at =
      let both : SeatView = record { front = seat.front; rights = other.rights ++ seat.rights } in
      record {
        state = ruled.state;
        history = ruled.history;
        holds = ruled.holds;
        seated = joined_seated ruled.state.views ruled.history table.views ruled.seated id seat there other_id other apart
            (sym (set_else table.views id other_id both apart) ∙ at);
      }

  -- the longest front of a table seat's passes may get a table seat of its own
  pub front_keeps : (id : ℕ) (seat : SeatView) → Splits (IsRuled facts) id seat seat (note_seat (longest_front seat.rights))
  front_keeps id seat table ruled there =
      let own = ruled.seated.each id seat there in
      let owner = ruled.seated.owner in
      let views = ruled.state.views in
      let begins = longest_front-begins seat.rights ruled.history (All-weaker (SpeaksFor views owner id)
      (λ view. IsPrefix view.front ruled.history) (λ view speaks. (ruled.holds.past.begun view.number view speaks.is_view).front)
      seat.rights own.rights) in
      record {
        state = ruled.state;
        history = ruled.history;
        holds = ruled.holds;
        seated = beside_seated views ruled.history table.views ruled.seated id seat there (longest_front seat.rights) begins;
      }
