-- A pass that exchanged a row, won or lost, is whole: its calls are begun, and its plain fields are as its view says.
use Rattle.std.proofs.Common.{◌≡◌, ℕ, ◌<◌, ◌≤◌, [], ◌∷◌, Option, None, Some, All, refl, sym, ap, ◌∙◌, subst, arith}
use native.Mathlib.Decide.{ℕ_discrete}
use Rattle.std.proofs.lemmas.List.Elements.{All-nil, All-cons, All-append}
use Rattle.atomic_table.specs.Table.{Me}
use Rattle.atomic_table.specs.Table.{Step as TableStep}
use Rattle.set_model.specs.declared.entry.Entry.{Entry}
use Rattle.step_core.specs.Format.{row_address}
use Rattle.step_core.specs.Rising.{Change}
use Rattle.step_core.specs.declared.views.PassView.{PassView}
use Rattle.cells.specs.Exchanges.{entry_by, swap_change}
use Rattle.cells.specs.Modeled.{IsWhole}
use Rattle.cells.specs.Moves.{SwapTells, Tells, serial_of}
use Rattle.cells.specs.Seats.{pass_of, pass_seat}
use Rattle.cells.specs.Sound.{IsSound}
use Rattle.cells.specs.declared.pass.Pass.TheInside as pass
use Rattle.cells.specs.declared.rule.SeatView.{SeatView}

-- an entry has the serial that it was made with
pub entry_by-serial : (who serial : ℕ) (change : Option Change) → (entry_by who serial change).serial ≡ serial
entry_by-serial who serial None = refl
entry_by-serial who serial (Some change) = refl

module _ (old new : pass.Inside) (whole : IsWhole old) (step : TableStep ℕ) (word : ℕ)
    (told : Tells SwapTells step old.seat.me word new.seat.me) (calls : new.calls ≡ old.calls) (begun : serial_of step.said < old.calls) where
  -- the views before and after
  abbrev before : PassView
  before = pass_of old.seat.me.0

  abbrev now : PassView
  now = pass_of new.seat.me.0

  -- the view after is the one that is told
  now_is : now ≡ told.view
  now_is = ap (λ (me : Me ℕ SeatView). pass_of me.0) told.seat

  -- what a view owes a pass with so many calls
  abbrev Begun : PassView → ℕ → Type 0
  Begun view count = All (λ (entry : Entry). entry.serial < count) view.mine × (view.used ≤ count)

  -- what holds of the view told, on its fields that the plain ones and the calls depend on
  fields : (told.view.spent ≡ before.spent) × (told.view.heard ≡ before.heard) × Begun told.view old.calls
  fields = elim (ℕ_discrete word step.first) [
    | yes same ↦
        let won = told.tells.won same in
        let change = swap_change before step.first (row_address step.second) in
        let serial = entry_by-serial before.number (serial_of step.said) change in (
          ap (λ (view : PassView). view.spent) won.view_is,
          ap (λ (view : PassView). view.heard) won.view_is,
          subst (λ (view : PassView). Begun view old.calls) (sym won.view_is) (
            All-append (λ (entry : Entry). entry.serial < old.calls) before.mine
                (entry_by before.number (serial_of step.said) change ∷ []) whole.serials.serials
                (All-cons (λ (entry : Entry). entry.serial < old.calls) (entry_by before.number (serial_of step.said) change) []
                (omega (arith, serial, begun)) (All-nil (λ (entry : Entry). entry.serial < old.calls))),
            omega (arith, begun),
          ),
        )
    | no apart ↦
        let lost = told.tells.lost apart in (
          ap (λ (view : PassView). view.spent) lost.view_is,
          ap (λ (view : PassView). view.heard) lost.view_is,
          subst (λ (view : PassView). Begun view old.calls) (sym lost.view_is) (whole.serials.serials, whole.serials.used),
        )
  ]

  -- so the pass is whole
  pub swapped_whole : new.number ≡ old.number → new.spent ≡ old.spent → IsWhole new
  swapped_whole number spent =
      let serials = subst (λ (z : PassView × ℕ). Begun z.0 z.1) (λ i. (sym now_is i, sym calls i)) fields.2 in
      record {
        one = told.seat ∙ ap (λ (me : Me ℕ SeatView). (pass_seat (pass_of me.0), [])) (sym told.seat);
        number = number ∙ whole.number ∙ sym told.number ∙ ap (λ (view : PassView). view.number) (sym now_is);
        spent = spent ∙ whole.spent ∙ sym fields.0 ∙ ap (λ (view : PassView). view.spent) (sym now_is);
        sound = subst IsSound (sym now_is) told.sound;
        serials = record { serials = serials.0; used = serials.1 };
        heard = ap (λ (view : PassView). view.heard) now_is ∙ fields.1 ∙ whole.heard;
      }
