-- A pass's answered calls have places in the history, one behind the other: an entered call that of its entry, a reading that
-- behind what it has seen.
use Rattle.std.proofs.Common.{◌≡◌, ℕ, ◌+◌, Bool, true, false, if◌then◌else◌, List, [], ◌∷◌, ◌++◌, length, All, inl, inr, sym, ap, ◌∙◌, subst, append_assoc, append-nil, length-append}
use Rattle.std.proofs.lemmas.Bool.{cases_Bool}
use Rattle.std.proofs.lemmas.List.{append_cancel_left}
use Rattle.std.proofs.lemmas.List.Elements.{All-head, All-tail, All-weaker}
use Rattle.std.specs.Prelude.{⊤}
use mathlib.Core.Bool.{true≢false}
use mathlib.Core.List.{IsPrefix}
use base.Growing.{prefix_trans}
use Rattle.set_model.specs.declared.entry.Entry.{Entry}
use Rattle.hash_set.specs.OneHistory.{AnsweredCall, IsAnswered, Follows, FollowEachOther}

-- what a call has in the history: its entry, or nothing
abbrev pub entries_of : AnsweredCall → List Entry
entries_of call = if call.entered then call.entry ∷ [] else []

-- A call's place in the rest of a history of which so many entries are gone through: behind some that are skipped stands
-- its own entry, or there a reading has seen all.
pub record HasPlace (seen : ℕ) (rest : List Entry) (call : AnsweredCall) : Type 0 where
  pub skipped : List Entry
  pub behind : List Entry
  pub cut : rest ≡ skipped ++ (entries_of call ++ behind)
  pub reading : call.entered ≡ false → length call.after ≡ seen + length skipped

-- how many entries are gone through behind the call
abbrev pub gone_behind : {seen : ℕ} {rest : List Entry} {call : AnsweredCall} → HasPlace seen rest call → ℕ
gone_behind {seen} {rest} {call} place = seen + length (place.skipped ++ entries_of call)

-- the calls have their places there one behind the other
abbrev pub HavePlaces : ℕ → List Entry → List AnsweredCall → Type 0
HavePlaces seen rest [] = ⊤
HavePlaces seen rest (call ∷ calls) = (place : HasPlace seen rest call) × HavePlaces (gone_behind place) place.behind calls

-- an entered call has its entry
pub entries_of-entered : (call : AnsweredCall) → call.entered ≡ true → entries_of call ≡ call.entry ∷ []
entries_of-entered call entered = ap (λ (b : Bool). if b then call.entry ∷ [] else []) entered

-- and a reading has none
pub entries_of-reading : (call : AnsweredCall) → call.entered ≡ false → entries_of call ≡ []
entries_of-reading call read = ap (λ (b : Bool). if b then call.entry ∷ [] else []) read

-- a place of the call, up to which its pass had seen all when it ended
record PlaceSeen (front rest : List Entry) (call : AnsweredCall) : Type 0 where
  place : HasPlace (length front) rest call
  seen : IsPrefix (front ++ (place.skipped ++ entries_of call)) call.after

module _ (keys : List ℕ) (history : List Entry) (pass : ℕ) where
  -- a reading has its place behind what it has seen
  place_of_reading : (front rest : List Entry) (call : AnsweredCall) → front ++ rest ≡ history → IsAnswered keys history pass call
      → IsPrefix front call.before → call.entered ≡ false → PlaceSeen front rest call
  place_of_reading front rest call whole answered begins read =
      let grows = prefix_trans front call.before call.after begins answered.grows in
      let skipped = grows.0 in
      let behind = answered.begins.0 in
      let none = entries_of-reading call read in
      let cut : rest ≡ skipped ++ behind = append_cancel_left front rest (skipped ++ behind)
      (whole ∙ sym answered.begins.1 ∙ ap (λ (list : List Entry). list ++ behind) (sym grows.1) ∙ append_assoc front skipped behind) in
      record {
        place = record {
          skipped = skipped;
          behind = behind;
          cut = cut ∙ ap (λ (own : List Entry). skipped ++ (own ++ behind)) (sym none);
          reading = λ _. ap (λ (list : List Entry). length list) (sym grows.1) ∙ length-append front skipped;
        };
        seen = (
          [],
          append-nil (front ++ (skipped ++ entries_of call))
              ∙ ap (λ (own : List Entry). front ++ (skipped ++ own)) none
              ∙ ap (λ (list : List Entry). front ++ list) (append-nil skipped) ∙ grows.1,
        );
      }

  -- an entered call has that of its entry
  place_of_entered : (front rest : List Entry) (call : AnsweredCall) → front ++ rest ≡ history → IsAnswered keys history pass call
      → IsPrefix front call.before → call.entered ≡ true → PlaceSeen front rest call
  place_of_entered front rest call whole answered begins entered =
      let past = answered.entry entered in
      let grows = prefix_trans front call.before past.past begins past.begins in
      let skipped = grows.0 in
      let behind = past.rest ++ answered.begins.0 in
      let own = entries_of-entered call entered in
      let cut : rest ≡ skipped ++ call.entry ∷ behind = append_cancel_left front rest (skipped ++ call.entry ∷ behind)
      (whole ∙ sym answered.begins.1 ∙ ap (λ (list : List Entry). list ++ answered.begins.0) past.is_front
      ∙ append_assoc past.past (call.entry ∷ past.rest) answered.begins.0
      ∙ ap (λ (list : List Entry). list ++ call.entry ∷ behind) (sym grows.1) ∙ append_assoc front skipped (call.entry ∷ behind)) in
      record {
        place = record {
          skipped = skipped;
          behind = behind;
          cut = cut ∙ ap (λ (list : List Entry). skipped ++ (list ++ behind)) (sym own);
          reading = λ read. absurd (true≢false (sym entered ∙ read));
        };
        seen = (
          past.rest,
          ap (λ (list : List Entry). (front ++ (skipped ++ list)) ++ past.rest) own
              ∙ ap (λ (list : List Entry). list ++ past.rest) (sym (append_assoc front skipped (call.entry ∷ [])))
              ∙ append_assoc (front ++ skipped) (call.entry ∷ []) past.rest
              ∙ ap (λ (list : List Entry). list ++ call.entry ∷ past.rest) grows.1
              ∙ sym past.is_front,
        );
      }

  -- each answered call has a place
  place_of : (front rest : List Entry) (call : AnsweredCall) → front ++ rest ≡ history → IsAnswered keys history pass call
      → IsPrefix front call.before → PlaceSeen front rest call
  place_of front rest call whole answered begins = elim (cases_Bool call.entered) [
    | inl entered ↦ place_of_entered front rest call whole answered begins entered
    | inr read ↦ place_of_reading front rest call whole answered begins read
  ]

  -- calls that follow each other and of which each began with the front
  pub record ComeBehind (front : List Entry) (calls : List AnsweredCall) : Type 0 where
    pub each : All (IsAnswered keys history pass) calls
    pub order : FollowEachOther calls
    pub begins : All (λ (call : AnsweredCall). IsPrefix front call.before) calls

  -- calls behind a call that had seen a front came behind the front
  comes_behind : (front next : List Entry) (call : AnsweredCall) (calls : List AnsweredCall) → ComeBehind front (call ∷ calls)
      → IsPrefix next call.after → ComeBehind next calls
  comes_behind front next call calls come seen = record {
    each = All-tail (IsAnswered keys history pass) call calls come.each;
    order = come.order.1;
    begins = All-weaker (Follows call) (λ (later : AnsweredCall). IsPrefix next later.before)
        (λ later follows. prefix_trans next call.after later.before seen follows.front) calls come.order.0;
  }

  -- such calls have their places behind the front
  pub calls_have_places : (front rest : List Entry) (calls : List AnsweredCall) → front ++ rest ≡ history → ComeBehind front calls
      → HavePlaces (length front) rest calls
  calls_have_places front rest [] whole come = tt
  calls_have_places front rest (call ∷ calls) whole come =
      let found = place_of front rest call whole (All-head (IsAnswered keys history pass) call calls come.each)
      (All-head (λ (call : AnsweredCall). IsPrefix front call.before) call calls come.begins) in
      let place = found.place in
      let taken = place.skipped ++ entries_of call in
      let further = calls_have_places (front ++ taken) place.behind calls
      (append_assoc front taken place.behind
      ∙ ap (λ (list : List Entry). front ++ list) (append_assoc place.skipped (entries_of call) place.behind ∙ sym place.cut) ∙ whole)
      (comes_behind front (front ++ taken) call calls come found.seen) in
      (place, subst (λ (seen : ℕ). HavePlaces seen place.behind calls) (length-append front taken) further)
