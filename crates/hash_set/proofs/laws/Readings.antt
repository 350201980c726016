-- The readings of a pass that had seen so many entries of the history, and that none of them stands before the place of the first call.
use Rattle.std.proofs.Common.{◌≡◌, ◌≢◌, ℕ, ◌+◌, ◌<◌, Bool, true, false, not, ◌&&◌, cond, nat_eq, List, [], ◌∷◌, length, map, All, inl, inr, refl, sym, ap, ap₂, ◌∙◌, arith, length-append, eq-eqb, ne_eqb}
use Rattle.std.proofs.lemmas.Bool.{cases_Bool}
use Rattle.std.proofs.lemmas.List.Elements.{All-nil, All-cons, All-head, All-tail, All-same}
use Rattle.std.specs.List.{filter}
use mathlib.Core.Bool.{true≢false}
use native.Mathlib.Decide.{ℕ_discrete}
use Rattle.set_model.specs.declared.entry.Entry.{Entry}
use Rattle.hash_set.specs.OneHistory.{AnsweredCall, reads_at, readings_at}
use Rattle.hash_set.proofs.laws.Places.{entries_of, gone_behind, HasPlace, HavePlaces}

-- a reading that stands there comes first
pub readings_at-here : (place : ℕ) (call : AnsweredCall) (calls : List AnsweredCall) → reads_at place call ≡ true
    → readings_at place (call ∷ calls) ≡ call.entry ∷ readings_at place calls
readings_at-here place call calls reads =
    ap (λ (b : Bool). map (λ call. call.entry) (cond b (call ∷ filter (reads_at place) calls) (filter (reads_at place) calls))) reads

-- any other call changes nothing
pub readings_at-other : (place : ℕ) (call : AnsweredCall) (calls : List AnsweredCall) → reads_at place call ≡ false
    → readings_at place (call ∷ calls) ≡ readings_at place calls
readings_at-other place call calls reads =
    ap (λ (b : Bool). map (λ call. call.entry) (cond b (call ∷ filter (reads_at place) calls) (filter (reads_at place) calls))) reads

-- a call that is entered, or had seen another number, isn't such a reading
pub reads_elsewhere : (place : ℕ) (call : AnsweredCall) → (call.entered ≡ false → length call.after ≢ place) → reads_at place call ≡ false
reads_elsewhere place call apart = elim (cases_Bool call.entered) [
  | inl entered ↦ ap (λ (b : Bool). not b && nat_eq (length call.after) place) entered
  | inr read ↦ ap₂ (λ (one other : Bool). not one && other) read (ne_eqb (length call.after) place (apart read))
]

-- one that had seen this number is
pub reads_here : (place : ℕ) (call : AnsweredCall) → call.entered ≡ false → length call.after ≡ place → reads_at place call ≡ true
reads_here place call read same = ap₂ (λ (one other : Bool). not one && other) read (eq-eqb (length call.after) place same)

-- what holds of each reading that stands there holds of their entries
pub all_readings : (P : Entry → Type 0) (place : ℕ) (calls : List AnsweredCall)
    → All (λ (call : AnsweredCall). call.entered ≡ false → length call.after ≡ place → P call.entry) calls → All P (readings_at place calls)
all_readings P place [] each = All-nil P
all_readings P place (call ∷ calls) each =
    let Holds = λ (call : AnsweredCall). (call.entered ≡ false → length call.after ≡ place → P call.entry) in
    let further = all_readings P place calls (All-tail Holds call calls each) in
    let none = λ (apart : call.entered ≡ false → length call.after ≢ place). All-same P (readings_at place (call ∷ calls))
    (readings_at place calls) (readings_at-other place call calls (reads_elsewhere place call apart)) further in
    elim (cases_Bool call.entered) [
      | inl entered ↦ none (λ read. absurd (true≢false (sym entered ∙ read)))
      | inr read ↦ elim (ℕ_discrete (length call.after) place) [
        | yes same ↦
            All-same P (readings_at place (call ∷ calls)) (call.entry ∷ readings_at place calls)
            (readings_at-here place call calls (reads_here place call read same))
            (All-cons P call.entry (readings_at place calls) (All-head Holds call calls each read same) further)
        | no apart ↦ none (λ _. apart)
      ]
    ]

-- a call is no reading at a place before its own
no_reading_here : (seen : ℕ) (rest : List Entry) (call : AnsweredCall) (own : HasPlace seen rest call) (place : ℕ)
    → place < seen + length own.skipped → reads_at place call ≡ false
no_reading_here seen rest call own place less =
    reads_elsewhere place call (λ read same. let at = own.reading read in absurd (omega arith))

-- where calls have places there is no reading at an earlier place,
pub no_earlier_reading : (seen : ℕ) (rest : List Entry) (calls : List AnsweredCall) (place : ℕ) → HavePlaces seen rest calls → place < seen
    → readings_at place calls ≡ []
no_earlier_reading seen rest [] place places less = refl
no_earlier_reading seen rest (call ∷ calls) place places less =
    let first = places.0 in
    readings_at-other place call calls (no_reading_here seen rest call first place (omega arith))
    ∙ no_earlier_reading (gone_behind first) first.behind calls place places.1 (omega arith)

-- nor at one that the first call skips
pub no_reading_skipped : (seen : ℕ) (rest : List Entry) (call : AnsweredCall) (calls : List AnsweredCall)
    → (places : HavePlaces seen rest (call ∷ calls)) → (place : ℕ) → place < seen + length (places.0).skipped
    → readings_at place (call ∷ calls) ≡ []
no_reading_skipped seen rest call calls places place less =
    let first = places.0 in
    let longer = length-append first.skipped (entries_of call) in
    readings_at-other place call calls (no_reading_here seen rest call first place less)
    ∙ no_earlier_reading (gone_behind first) first.behind calls place places.1 (omega arith)
