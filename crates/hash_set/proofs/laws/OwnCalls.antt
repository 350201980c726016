-- A pass's entries of the history, with its readings woven in, are its answered calls, in order.
use Rattle.std.proofs.Common.{◌≡◌, ℕ, suc, ◌+◌, ◌≤◌, Bool, true, false, cond, nat_eq, List, [], ◌∷◌, ◌++◌, length, map, All, inl, inr, refl, sym, ap, ap₂, ◌∙◌, arith, append-nil, length-append, eq-eqb}
use Rattle.std.proofs.lemmas.Bool.{cases_Bool}
use Rattle.std.proofs.lemmas.List.{append_cancel_left, nil_from_length}
use Rattle.std.proofs.lemmas.List.Elements.{All-head, All-tail, filter-append}
use Rattle.std.specs.List.{filter}
use mathlib.Core.Bool.{true≢false}
use Rattle.set_model.specs.declared.entry.Entry.{Entry}
use Rattle.cells.specs.Past.{entries_by}
use Rattle.hash_set.specs.OneHistory.{AnsweredCall, readings_at}
use Rattle.hash_set.proofs.laws.OwnPart.{own_part, own_part-skip, own_part-reading}
use Rattle.hash_set.proofs.laws.Readings.{readings_at-here, readings_at-other, reads_elsewhere, reads_here, no_earlier_reading, no_reading_skipped}
use Rattle.hash_set.proofs.laws.Places.{entries_of, gone_behind, entries_of-entered, entries_of-reading, HasPlace, HavePlaces}

-- the entries of the entered calls, in order
abbrev pub entered_entries : List AnsweredCall → List Entry
entered_entries calls = map (λ call. call.entry) (filter (λ call. call.entered) calls)

-- the entry of each call, in order
abbrev pub all_entries : List AnsweredCall → List Entry
all_entries calls = map (λ call. call.entry) calls

-- the call is the pass's
abbrev pub IsCallOf : ℕ → AnsweredCall → Type 0
IsCallOf pass call = call.entry.who ≡ pass

-- what is the same behind a front, where no less stands there, is the same without it, and the front is empty
drop_same : (front own behind entered : List Entry) → front ++ (own ++ behind) ≡ own ++ entered → length entered ≤ length behind
    → (front ≡ []) × (behind ≡ entered)
drop_same front own behind entered same enough =
    let one = length-append front (own ++ behind) in
    let two = length-append own behind in
    let three = length-append own entered in
    let lengths = ap (λ (list : List Entry). length list) same in
    let empty = nil_from_length front (omega arith) in
    (empty, append_cancel_left own behind entered (ap (λ (list : List Entry). list ++ (own ++ behind)) (sym empty) ∙ same))

-- the first call's own entries stand in front of the others'
entered_entries-first : (call : AnsweredCall) (calls : List AnsweredCall)
    → entered_entries (call ∷ calls) ≡ entries_of call ++ entered_entries calls
entered_entries-first call calls = elim (cases_Bool call.entered) [
  | inl entered ↦
      ap (λ (b : Bool). all_entries (cond b (call ∷ filter (λ call. call.entered) calls) (filter (λ call. call.entered) calls))) entered
      ∙ ap (λ (list : List Entry). list ++ entered_entries calls) (sym (entries_of-entered call entered))
  | inr read ↦
      ap (λ (b : Bool). all_entries (cond b (call ∷ filter (λ call. call.entered) calls) (filter (λ call. call.entered) calls))) read
      ∙ ap (λ (list : List Entry). list ++ entered_entries calls) (sym (entries_of-reading call read))
]

module _ (pass : ℕ) where
  -- the pass's part of the history, with the readings among these calls
  abbrev pub part_with : List AnsweredCall → ℕ → List Entry → List Entry
  part_with calls seen rest = own_part pass (λ place. readings_at place calls) seen rest

  -- behind what the first call skips, the pass's part is its entry, and behind it the others' part
  abbrev ContinuesWith : (seen : ℕ) (rest : List Entry) (call : AnsweredCall) (calls : List AnsweredCall)
      → HavePlaces seen rest (call ∷ calls) → Type 0
  ContinuesWith seen rest call calls places =
      part_with (call ∷ calls) (seen + length (places.0).skipped) (entries_of call ++ (places.0).behind)
      ≡ call.entry ∷ part_with calls (gone_behind places.0) (places.0).behind

  -- of a pass's call all is the pass's
  entries_of-own : (call : AnsweredCall) → IsCallOf pass call → entries_by pass (entries_of call) ≡ entries_of call
  entries_of-own call own = elim (cases_Bool call.entered) [
    | inl entered ↦
        ap (entries_by pass) (entries_of-entered call entered)
        ∙ ap (λ (b : Bool). cond b (call.entry ∷ []) []) (eq-eqb call.entry.who pass own)
        ∙ sym (entries_of-entered call entered)
    | inr read ↦ ap (entries_by pass) (entries_of-reading call read) ∙ sym (entries_of-reading call read)
  ]

  -- the pass's entries of what is left are those that a call skips, its own, and those behind
  own_split : (seen : ℕ) (rest : List Entry) (call : AnsweredCall) (place : HasPlace seen rest call) → IsCallOf pass call
      → entries_by pass rest ≡ entries_by pass place.skipped ++ (entries_of call ++ entries_by pass place.behind)
  own_split seen rest call place own =
      ap (entries_by pass) place.cut
      ∙ filter-append (λ (entry : Entry). nat_eq entry.who pass) place.skipped (entries_of call ++ place.behind)
      ∙ ap (λ (list : List Entry). entries_by pass place.skipped ++ list)
      (filter-append (λ (entry : Entry). nat_eq entry.who pass) (entries_of call) place.behind
      ∙ ap (λ (list : List Entry). list ++ entries_by pass place.behind) (entries_of-own call own))

  -- there are no fewer of them than entered calls
  enough_entries : (seen : ℕ) (rest : List Entry) (calls : List AnsweredCall) → All (IsCallOf pass) calls → HavePlaces seen rest calls
      → length (entered_entries calls) ≤ length (entries_by pass rest)
  enough_entries seen rest [] own places = omega arith
  enough_entries seen rest (call ∷ calls) own places =
      let first = places.0 in
      let further = enough_entries (gone_behind first) first.behind calls
      (All-tail (IsCallOf pass) call calls own) places.1 in
      let entered = ap (λ (list : List Entry). length list) (entered_entries-first call calls) in
      let split = ap (λ (list : List Entry). length list) (own_split seen rest call first (All-head (IsCallOf pass) call calls own)) in
      let one = length-append (entries_of call) (entered_entries calls) in
      let two = length-append (entries_by pass first.skipped) (entries_of call ++ entries_by pass first.behind) in
      let three = length-append (entries_of call) (entries_by pass first.behind) in
      omega arith

  -- so where there are as many, the first call skips none, and the rest has those of the others
  skips_none : (seen : ℕ) (rest : List Entry) (call : AnsweredCall) (calls : List AnsweredCall) → All (IsCallOf pass) (call ∷ calls)
      → (places : HavePlaces seen rest (call ∷ calls)) → entries_by pass rest ≡ entered_entries (call ∷ calls)
      → (entries_by pass (places.0).skipped ≡ []) × (entries_by pass (places.0).behind ≡ entered_entries calls)
  skips_none seen rest call calls own places same =
      let first = places.0 in
      let enough = enough_entries (gone_behind first) first.behind calls
      (All-tail (IsCallOf pass) call calls own) places.1 in
      drop_same (entries_by pass first.skipped) (entries_of call) (entries_by pass first.behind) (entered_entries calls)
      (sym (own_split seen rest call first (All-head (IsCallOf pass) call calls own)) ∙ same ∙ entered_entries-first call calls) enough

  -- at the place of an entered call the pass's part goes on with its entry
  part_at_entered : (seen : ℕ) (rest : List Entry) (call : AnsweredCall) (calls : List AnsweredCall) → IsCallOf pass call
      → (places : HavePlaces seen rest (call ∷ calls)) → call.entered ≡ true → ContinuesWith seen rest call calls places
  part_at_entered seen rest call calls own places entered =
      let first = places.0 in
      let at = seen + length first.skipped in
      let one = entries_of-entered call entered in
      let longer = length-append first.skipped (entries_of call) in
      let single = ap (λ (list : List Entry). length list) one in
      let next : suc at ≡ gone_behind first = omega arith in
      let others : (place : ℕ) → readings_at place (call ∷ calls) ≡ readings_at place calls =
      λ place. readings_at-other place call calls (reads_elsewhere place call (λ read. absurd (true≢false (sym entered ∙ read)))) in
      let none : readings_at at (call ∷ calls) ≡ [] =
      others at ∙ no_earlier_reading (gone_behind first) first.behind calls at places.1 (omega arith) in
      ap (λ (list : List Entry). part_with (call ∷ calls) at (list ++ first.behind)) one
      ∙ ap₂ (λ (front list : List Entry). front ++ (list ++ part_with (call ∷ calls) (suc at) first.behind))
      none (ap (λ (b : Bool). cond b (call.entry ∷ []) []) (eq-eqb call.entry.who pass own))
      ∙ (λ i. call.entry ∷ own_part pass (λ place. others place i) (next i) first.behind)

  -- and at that of a reading with the reading
  part_at_reading : (seen : ℕ) (rest : List Entry) (call : AnsweredCall) (calls : List AnsweredCall)
      → (places : HavePlaces seen rest (call ∷ calls)) → call.entered ≡ false → ContinuesWith seen rest call calls places
  part_at_reading seen rest call calls places read =
      let first = places.0 in
      let at = seen + length first.skipped in
      let none = entries_of-reading call read in
      let seen_here = first.reading read in
      let longer = length-append first.skipped (entries_of call) in
      let empty = ap (λ (list : List Entry). length list) none in
      let same : at ≡ gone_behind first = omega arith in
      ap (λ (list : List Entry). part_with (call ∷ calls) at (list ++ first.behind)) none
      ∙ own_part-reading pass (λ place. readings_at place calls) (λ place. readings_at place (call ∷ calls)) at first.behind call.entry
      (readings_at-here at call calls (reads_here at call read seen_here))
      (λ place less. readings_at-other place call calls (reads_elsewhere place call (λ _ same. absurd (omega arith))))
      ∙ ap (λ (place : ℕ). call.entry ∷ part_with calls place first.behind) same

  -- so the pass's entries of the history, with its readings woven in, are its calls, where the history has no others of it
  pub own_part-calls : (seen : ℕ) (rest : List Entry) (calls : List AnsweredCall) → All (IsCallOf pass) calls → HavePlaces seen rest calls
      → entries_by pass rest ≡ entered_entries calls → part_with calls seen rest ≡ all_entries calls
  own_part-calls seen rest [] own places same =
      ap (own_part pass (λ place. []) seen) (sym (append-nil rest))
      ∙ own_part-skip pass (λ place. []) seen rest [] same (λ place less. refl)
  own_part-calls seen rest (call ∷ calls) own places same =
      let first = places.0 in
      let here : ContinuesWith seen rest call calls places = elim (cases_Bool call.entered) [
        | inl entered ↦ part_at_entered seen rest call calls (All-head (IsCallOf pass) call calls own) places entered
        | inr read ↦ part_at_reading seen rest call calls places read
      ] in
      let parts = skips_none seen rest call calls own places same in
      ap (part_with (call ∷ calls) seen) first.cut
      ∙ own_part-skip pass (λ place. readings_at place (call ∷ calls)) seen first.skipped (entries_of call ++ first.behind) parts.0
      (λ place less. no_reading_skipped seen rest call calls places place less)
      ∙ here
      ∙ ap (λ (list : List Entry). call.entry ∷ list)
      (own_part-calls (gone_behind first) first.behind calls (All-tail (IsCallOf pass) call calls own) places.1 parts.1)
