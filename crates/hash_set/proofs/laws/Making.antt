-- What the contract of a call tells is what a pass's life asks: an answered call was made, and at a refused one the pass goes on.
use Rattle.std.proofs.Common.{ℕ, Bool, true, false, refl, inl, inr, arith}
use mathlib.Core.List.{IsPrefix}
use Rattle.set_model.specs.declared.call.Call.{Call}
use Rattle.cells.specs.Tokens.{PassValue}
use Rattle.fset.specs.Standing.{AnswerStands, entry_for}
use Rattle.fset.specs.Frames.{KeepsOwn}
use Rattle.hash_set.specs.Calls.{BeginsCall}
use Rattle.hash_set.specs.Lives.{GoesOn, MakesCall}
use Rattle.hash_set.specs.OneHistory.{AnsweredCall}

-- the call of a pass that was answered so, as one that was entered or not
abbrev pub answered_by : PassValue → PassValue → Call → ℕ → Bool → Bool → AnsweredCall
answered_by old new call key answer entered = record {
  entry = entry_for old.view.number old.calls call key answer;
  entered = entered;
  before = old.view.front;
  after = new.view.front;
}

-- A call whose answer stands was made and answered.
pub stands_makes : (old new : PassValue) (call : Call) (key : ℕ) (answer : Bool) → BeginsCall old new
    → IsPrefix old.view.front new.view.front → AnswerStands old.calls call key answer old.view new.view
    → (entered : Bool) × MakesCall (answered_by old new call key answer entered) old new
stands_makes old new call key answer begins grows (inl enters) = (
  true,
  record {
    number = begins.number;
    facts = begins.facts;
    calls = begins.calls;
    who = refl;
    serial = refl;
    before = refl;
    after = refl;
    grows = grows;
    entry = λ is. enters;
    reading = λ is. absurd (cc);
  },
)
stands_makes old new call key answer begins grows (inr reads) = (
  false,
  record {
    number = begins.number;
    facts = begins.facts;
    calls = begins.calls;
    who = refl;
    serial = refl;
    before = refl;
    after = refl;
    grows = grows;
    entry = λ is. absurd (cc);
    reading = λ is. reads;
  },
)

-- A call that left the pass's own as it was had no answer: the pass goes on.
pub refused_goes_on : (old new : PassValue) → BeginsCall old new → IsPrefix old.view.front new.view.front → KeepsOwn old.view new.view
    → GoesOn old new
refused_goes_on old new begins grows own = record {
  number = begins.number;
  facts = begins.facts;
  front = grows;
  mine = own.mine;
  calls = omega (arith, begins.calls);
}
