-- When the answer of a call stands for the pass that made it.
use Rattle.std.specs.Prelude.{◌≡◌, ℕ, ◌⊎◌, Bool, true, false, List, [], ◌∷◌, ◌++◌, None, ⊤}
use mathlib.Core.List.{IsPrefix}
use Rattle.set_model.specs.Call.{answer_where}
use Rattle.set_model.specs.declared.call.Call.{Call}
use Rattle.set_model.specs.declared.call.Call.TheVariants.{Insert, Remove, Contains}
use Rattle.set_model.specs.declared.entry.Entry.{Entry}
use Rattle.step_core.specs.declared.views.PassView.{PassView}
use Rattle.fset.specs.Content.{front_has}
use Rattle.fset.specs.Frames.{KeepsOwn}

-- the entry of a call with this answer
abbrev pub entry_for : ℕ → ℕ → Call → ℕ → Bool → Entry
entry_for who serial call key answer =
    record { who = who; serial = serial; call = call; key = key; answer = answer }

-- the front begins with the one before, and has the entry behind that
pub record HasPast (before now : List Entry) (entry : Entry) : Type 0 where
  pub past : List Entry
  pub rest : List Entry
  pub begins : IsPrefix before past
  pub is_front : now ≡ past ++ entry ∷ rest

-- The call took effect: its entry stands in the history, past all that the pass had seen. It is the
-- pass's only entry more.
pub record Enters (entry : Entry) (old new : PassView) : Type 0 where
  pub past : HasPast old.front new.front entry
  pub mine : new.mine ≡ old.mine ++ entry ∷ []
  pub landed : new.flight ≡ None

-- The call read the set: it has the answer of the set after the history that the pass has then seen,
-- and no entry.
pub record ReadsSet (call : Call) (key : ℕ) (answer : Bool) (old new : PassView) : Type 0 where
  pub own : KeepsOwn old new
  pub answer_is : answer ≡ answer_where call (front_has new key)

-- with this answer the call changes no set
abbrev pub IsReading : Call → Bool → Type 0
IsReading Insert answer = answer ≡ false
IsReading Remove answer = answer ≡ false
IsReading Contains answer = ⊤

-- The answer of a call stands for the pass: its entry stands in the history, past all that the pass
-- had seen; or it changes no set, and is the answer of the set after what the pass has then seen.
abbrev pub AnswerStands : ℕ → Call → ℕ → Bool → PassView → PassView → Type 0
AnswerStands serial call key answer old new =
    Enters (entry_for old.number serial call key answer) old new
    ⊎ (IsReading call answer × ReadsSet call key answer old new)

-- The answer of a tried insert or remove stands: a change is an entry, and else the set was read.
abbrev pub TriedStands : ℕ → Call → ℕ → Bool → PassView → PassView → Type 0
TriedStands serial call key true old new =
    Enters (entry_for old.number serial call key true) old new
TriedStands serial call key false old new = ReadsSet call key false old new
