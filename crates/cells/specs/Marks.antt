-- The marks of a view, as its pass may use them.
use Rattle.std.specs.Prelude.{◌≡◌, ℕ, List, ◌∷◌, Contains}
use Rattle.step_core.specs.declared.views.Mark.{Mark}
use Rattle.step_core.specs.declared.views.NilBucket.{NilBucket}
use Rattle.step_core.specs.declared.views.PassView.{PassView}
use Rattle.cells.specs.Hindsight.{InMark}

-- the latest mark of the view is on the row at the address, from the front that the view has, and the
-- key is one of its keys
pub record IsMarkedFor (view : PassView) (at key : ℕ) : Type 0 where
  pub mark : Mark
  pub others : List Mark
  pub latest : view.marks ≡ mark ∷ others
  pub row : mark.row ≡ at
  pub now : mark.front ≡ view.front
  pub of_key : InMark mark key

-- the view loaded the generation as the head from the front that it has
abbrev pub IsHeadNow : PassView → ℕ → Type 0
IsHeadNow view at = Contains view.heads (record { at = at; front = view.front })

-- the bucket is the latest that the view found nil, from the front that it has
abbrev pub IsNilNow : PassView → ℕ → ℕ → Type 0
IsNilNow view at bucket = (others : List NilBucket)
    × (view.nils ≡ record { at = at; bucket = bucket; front = view.front } ∷ others)
