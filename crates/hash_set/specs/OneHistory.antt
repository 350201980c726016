-- How all answered calls of a round's passes make one legal history: readings have no entry in the
-- round's history, and stand behind what they saw of it.
use Rattle.std.specs.Prelude.{◌≡◌, ℕ, zero, suc, ◌<◌, ◌&&◌, Bool, true, false, not, nat_eq, List, [], ◌∷◌, ◌++◌, length, map, All, ⊤}
use Rattle.std.specs.List.{filter}
use mathlib.Core.List.{IsPrefix}
use Rattle.set_model.specs.Call.{answer_where}
use Rattle.set_model.specs.History.{IsLegal, members_after}
use Rattle.set_model.specs.Keys.{is_in}
use Rattle.set_model.specs.declared.entry.Entry.{Entry}
use Rattle.cells.specs.Past.{IsOfPasses, entries_by}
use Rattle.fset.specs.Standing.{HasPast, IsReading}

-- a call that a pass made and that was answered: its entry, whether the round's history has that, and
-- the pass's fronts before and after the call
pub record AnsweredCall : Type 0 where
  pub entry : Entry
  pub entered : Bool
  pub before : List Entry
  pub after : List Entry

-- the answer is that of the set after these entries
abbrev pub IsAnswerOf : List ℕ → List Entry → Entry → Type 0
IsAnswerOf keys front entry =
    entry.answer ≡ answer_where entry.call (members_after (is_in keys) front entry.key)

-- The call's answer stands for the pass: its entry stands in the history past what the pass had seen,
-- or it is a reading of the set after what the pass has then seen.
pub record IsAnswered (keys : List ℕ) (history : List Entry) (pass : ℕ) (call : AnsweredCall)
    : Type 0 where
  pub who : call.entry.who ≡ pass
  pub grows : IsPrefix call.before call.after
  pub begins : IsPrefix call.after history
  pub entry : call.entered ≡ true → HasPast call.before call.after call.entry
  pub reading : call.entered ≡ false → IsReading call.entry.call call.entry.answer
      × IsAnswerOf keys call.after call.entry

-- the second call was made after the first: it began with what the first had seen
pub record Follows (first second : AnsweredCall) : Type 0 where
  pub front : IsPrefix first.after second.before
  pub serial : first.entry.serial < second.entry.serial

-- each call was made after those before it
abbrev pub FollowEachOther : List AnsweredCall → Type 0
FollowEachOther [] = ⊤
FollowEachOther (call ∷ calls) = All (Follows call) calls × FollowEachOther calls

-- these are the answered calls of a pass, in order; those that were entered are its entries
pub record ArePassCalls (keys : List ℕ) (history : List Entry) (pass : ℕ)
    (calls : List AnsweredCall) : Type 0 where
  pub each : All (IsAnswered keys history pass) calls
  pub order : FollowEachOther calls
  pub own : entries_by pass history
      ≡ map (λ call. call.entry) (filter (λ call. call.entered) calls)

-- the call is a reading whose pass had then seen so many entries
abbrev pub reads_at : ℕ → AnsweredCall → Bool
reads_at place call = not call.entered && nat_eq (length call.after) place

-- the entries of such readings, in order
abbrev pub readings_at : ℕ → List AnsweredCall → List Entry
readings_at place calls = map (λ call. call.entry) (filter (reads_at place) calls)

-- the lists of the passes below a number, one behind the other
abbrev pub gathered : ℕ → (ℕ → List Entry) → List Entry
gathered zero lists = []
gathered (suc count) lists = gathered count lists ++ lists count

-- a history with other entries put in: those of a place stand before the entry there, or last
abbrev pub woven : (ℕ → List Entry) → ℕ → List Entry → List Entry
woven at place [] = at place
woven at place (entry ∷ rest) = at place ++ entry ∷ woven at (suc place) rest

-- the round's history, with each reading directly behind what its pass had then seen
abbrev pub with_readings : ℕ → (ℕ → List AnsweredCall) → List Entry → List Entry
with_readings seats calls history =
    woven (λ place. gathered seats (λ pass. readings_at place (calls pass))) 0 history

-- One legal history of a plain set that begins with the keys: it is the round's history, with each
-- reading directly behind what its pass had then seen; and of each of so many passes it has the calls,
-- each once and in order, and no others.
pub record IsOneHistory (keys : List ℕ) (history : List Entry) (seats : ℕ)
    (calls : ℕ → List AnsweredCall) (whole : List Entry) : Type 0 where
  pub legal : IsLegal (is_in keys) whole
  pub placed : whole ≡ with_readings seats calls history
  pub each : (pass : ℕ) → pass < seats
      → entries_by pass whole ≡ map (λ call. call.entry) (calls pass)
  pub who : All (IsOfPasses seats) whole
