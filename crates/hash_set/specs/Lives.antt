-- What a pass did in a round, as its answered calls tell.
use Rattle.std.specs.Prelude.{◌≡◌, ℕ, ◌+◌, ◌≤◌, true, false, List, [], ◌∷◌, None}
use mathlib.Core.List.{IsPrefix}
use Rattle.cells.specs.Tokens.{PassValue, RoundValue, fresh_pass}
use Rattle.fset.specs.Standing.{Enters, IsReading, ReadsSet}
use Rattle.hash_set.specs.OneHistory.{AnsweredCall}

-- From the first moment to the second the pass had no answer: it learned from notes, and its calls
-- were refused.
pub record GoesOn (old new : PassValue) : Type 0 where
  pub number : new.view.number ≡ old.view.number
  pub facts : new.view.facts ≡ old.view.facts
  pub front : IsPrefix old.view.front new.view.front
  pub mine : new.view.mine ≡ old.view.mine
  pub calls : old.calls ≤ new.calls

-- From the first moment to the second the pass made the call and had it answered.
pub record MakesCall (call : AnsweredCall) (old new : PassValue) : Type 0 where
  pub number : new.view.number ≡ old.view.number
  pub facts : new.view.facts ≡ old.view.facts
  pub calls : new.calls ≡ old.calls + 1
  pub who : call.entry.who ≡ old.view.number
  pub serial : call.entry.serial ≡ old.calls
  pub before : call.before ≡ old.view.front
  pub after : call.after ≡ new.view.front
  pub grows : IsPrefix old.view.front new.view.front
  pub entry : call.entered ≡ true → Enters call.entry old.view new.view
  pub reading : call.entered ≡ false → IsReading call.entry.call call.entry.answer
      × ReadsSet call.entry.call call.entry.key call.entry.answer old.view new.view

-- From the first moment to the last the pass had these calls answered, in this order.
abbrev pub HasAnswered : PassValue → List AnsweredCall → PassValue → Type 0
HasAnswered old [] new = GoesOn old new
HasAnswered old (call ∷ calls) new =
    (start next : PassValue) × GoesOn old start × MakesCall call start next
    × HasAnswered next calls new

-- So it did from the beginning of its round, and has no operation in flight.
pub record HasLived (round : RoundValue) (calls : ℕ → List AnsweredCall) (pass : PassValue)
    : Type 0 where
  pub answered : HasAnswered (fresh_pass round pass.view.number) (calls pass.view.number) pass
  pub idle : pass.view.flight ≡ None
