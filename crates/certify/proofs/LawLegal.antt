-- The verdict is legal exactly where the order has each call once, keeps each caller's order, and its calls are a legal history.
use Rattle.std.proofs.Common.{◌≡◌, ◌≢◌, ◌↔◌, ℕ, zero, suc, ◌+◌, ◌-◌, ◌<◌, ◌≤◌, Bool, true, false, List, [], ◌∷◌, ◌++◌, length, take, drop, get_or, slice_index, Option, Some, inl, inr, refl, sym, ap, ◌∙◌, subst, arith, drop-cons}
use Rattle.std.specs.Option.{option_to_list}
use Rattle.std.specs.FinSet as fin
use Rattle.std.proofs.lemmas.Bool.{cases_eq, cases_lt}
use Rattle.std.proofs.lemmas.List.{take-append-drop}
use Rattle.std.proofs.Math.Seq.{take-suc, take-length}
use Rattle.set_model.specs.Call.{answer_of}
use Rattle.set_model.specs.History.{set_after, IsLegalFrom}
use Rattle.set_model.specs.Keys.{is_in}
use Rattle.set_model.specs.declared.call.Call.TheVariants as call
use Rattle.set_model.specs.declared.entry.Entry.{Entry}
use Rattle.certify.specs.Place.{IsUnknown, IsRepeated, IsEarly, IsWrong, IsFine, caller_of, entry_claimed, entry_numbered, history_of}
use Rattle.certify.specs.Order.{IsPlace, number_at, numbers_before, AreFine, StandBelow, IsVerdict, IsLegalOrder}
use Rattle.certify.specs.declared.claimed.Claimed.{Claimed}
use Rattle.certify.specs.declared.verdict.Verdict.{Verdict}
use Rattle.certify.specs.declared.verdict.Verdict.TheVariants.{Legal, Unknown, Repeated, Early, Wrong, Missing}
use Rattle.certify.proofs.LawJudged.{history_of-append, entry_numbered-Some, claimed_at}
use Rattle.certify.proofs.LawPlaces.{IsLegalFrom-append, among_earlier, earlier_place, among_all, place_of_all}

-- a call to read past the last one
blank : Claimed
blank = record { who = 0; call = call.Insert; key = 0; answer = false }

-- answers that can't differ are the same
same_unless : (told right : Bool) → ¬ (told ≢ right) → told ≡ right
same_unless true true unless = refl
same_unless true false unless = absurd (unless (λ h. cc))
same_unless false true unless = absurd (unless (λ h. cc))
same_unless false false unless = refl

module _ (calls : List Claimed) (order : List ℕ) where
  -- a known number is that of a call
  known_number : (number : ℕ) → ¬ IsUnknown calls number → (0 < number) × (number ≤ length calls)
  known_number number known = (
    elim (cases_eq number 0) [ inl none ↦ absurd (known (inl none)) | inr some ↦ omega arith ],
    elim (cases_lt (length calls) number) [ inl past ↦ absurd (known (inr past)) | inr within ↦ within ],
  )

  module _ (fine : AreFine calls order (length order)) where
    fine_at : (place : ℕ) → IsPlace order place → IsFine calls (numbers_before order place) (number_at order place)
    fine_at place there = fine place there.0 there.1

    once_before : (place other : ℕ) → IsPlace order place → IsPlace order other → number_at order place ≡ number_at order other
        → place < other → ⊥
    once_before place other there then same under =
        (fine_at other then).once (ap (λ n. is_in (numbers_before order other) n) (sym same)
        ∙ among_earlier order other place then there under)

    once : (place other : ℕ) → IsPlace order place → IsPlace order other → number_at order place ≡ number_at order other → place ≡ other
    once place other there then same = elim (cases_lt place other) [
      | inl under ↦ absurd (once_before place other there then same under)
      | inr over ↦ elim (cases_lt other place) [
        | inl under ↦ absurd (once_before other place then there (sym same) under)
        | inr back ↦ omega arith
      ]
    ]

    in_order : (place later : ℕ) → IsPlace order place → IsPlace order later → place < later
        → caller_of calls (number_at order place) ≡ caller_of calls (number_at order later) → number_at order place < number_at order later
    in_order place later there then under same = elim (cases_lt (number_at order place) (number_at order later)) [
      | inl below ↦ below
      | inr over ↦ elim (cases_eq (number_at order place) (number_at order later)) [
        | inl equal ↦ absurd (once_before place later there then equal under)
        | inr apart ↦ absurd (go (is_in (numbers_before order place) (number_at order later)) refl (omega arith))
      ]
    ] where
      go : (before : Bool) → is_in (numbers_before order place) (number_at order later) ≡ before
          → number_at order later < number_at order place → ⊥
      go true e below =
          let at = earlier_place order place (number_at order later) there e in
          once_before at.0 later at.1 then at.3 (let first = at.2 in omega arith)
      go false e below = (fine_at place there).ready (record {
        smaller = number_at order later;
        some = (known_number (number_at order later) (fine_at later then).known).0;
        below = below;
        caller = sym same;
        absent = e;
      })

    -- the entry of the number at a place
    entry_at : (place : ℕ) → IsPlace order place → (entry : Entry) × (entry_numbered calls (number_at order place) ≡ Some entry)
    entry_at place there =
        let number = number_at order place in
        let known = known_number number (fine_at place there).known in
        let claimed = get_or calls (number - 1) blank in (
          entry_claimed (take (number - 1) calls) claimed,
          entry_numbered-Some calls number claimed known.0
              (claimed_at calls (number - 1) blank (let some = known.0 in let within = known.1 in omega arith)),
        )

    -- its answer is that of the plain set
    right_at : (place : ℕ) (there : IsPlace order place) → let entry = (entry_at place there).0 in
        entry.answer ≡ answer_of entry.call entry.key (set_after fin.empty (history_of calls (numbers_before order place)))
    right_at place there =
        let at = entry_at place there in
        same_unless at.0.answer (answer_of at.0.call at.0.key (set_after fin.empty (history_of calls (numbers_before order place))))
        (λ apart. (fine_at place there).right (record { entry = at.0; numbered = at.1; wrong = apart }))

    -- the calls at the first places are a legal history
    legal_to : (count : ℕ) → count ≤ length order → IsLegalFrom fin.empty (history_of calls (take count order))
    legal_to zero within = tt
    legal_to (suc count) within =
        let under : count < length order = omega arith in
        let place = count + 1 in
        let there : IsPlace order place = (omega arith, omega arith) in
        let at = entry_at place there in
        let back : place - 1 ≡ count = omega arith in
        let right = right_at place there in
        let more : take (suc count) order ≡ take count order ++ slice_index order count ∷ [] = take-suc order count 0 under in
        let numbered : entry_numbered calls (slice_index order count) ≡ Some at.0 = ap
        (λ (n : ℕ). entry_numbered calls (slice_index order n)) (sym back) ∙ at.1 in
        let history : history_of calls (take (suc count) order) ≡ history_of calls (take count order) ++ at.0 ∷ [] =
        ap (history_of calls) more ∙ history_of-append calls (take count order) (slice_index order count ∷ [])
        ∙ ap (λ (o : Option Entry). history_of calls (take count order) ++ (option_to_list o ++ [])) numbered in
        let answered : at.0.answer ≡ answer_of at.0.call at.0.key (set_after fin.empty (history_of calls (take count order))) =
        right ∙ ap (λ (n : ℕ). answer_of at.0.call at.0.key (set_after fin.empty (history_of calls (take n order)))) back in
        subst (IsLegalFrom fin.empty) (sym history)
        ((IsLegalFrom-append fin.empty (history_of calls (take count order)) (at.0 ∷ [])).1 (legal_to count (omega arith), (answered, tt)))

    legal_when_fine : StandBelow order (length calls + 1) → IsLegalOrder calls order
    legal_when_fine stand = record {
      known = λ place there. known_number (number_at order place) (fine_at place there).known;
      once = once;
      each = λ number some within. place_of_all order number (stand number some (omega arith));
      callers = in_order;
      legal = subst (λ (numbers : List ℕ). IsLegalFrom fin.empty (history_of calls numbers)) (take-length order)
          (legal_to (length order) (omega arith));
    }

  module _ (legal : IsLegalOrder calls order) where
    never_unknown : (place : ℕ) → IsPlace order place → ¬ IsUnknown calls (number_at order place)
    never_unknown place there unknown =
        let known = legal.known place there in
        let some = known.0 in let within = known.1 in
        elim unknown [ inl none ↦ absurd (omega arith) | inr past ↦ absurd (omega arith) ]

    never_repeated : (place : ℕ) → IsPlace order place → ¬ IsRepeated (numbers_before order place) (number_at order place)
    never_repeated place there repeated =
        let at = earlier_place order place (number_at order place) there repeated in
        let same = legal.once at.0 place at.1 there at.3 in
        let first = at.2 in
        absurd (omega arith)

    never_early : (place : ℕ) → IsPlace order place → ¬ IsEarly calls (numbers_before order place) (number_at order place)
    never_early place there early =
        let within = (legal.known place there).1 in
        let below = early.below in
        let at = legal.each early.smaller early.some (omega arith) in
        elim (cases_lt at.0 place) [
          | inl before ↦
              let among : is_in (numbers_before order place) early.smaller ≡ true =
              ap (is_in (numbers_before order place)) (sym at.2) ∙ among_earlier order place at.0 there at.1 before in
              let absent = early.absent in
              cc
          | inr behind ↦ elim (cases_eq at.0 place) [
            | inl here ↦
                let same : number_at order place ≡ early.smaller = ap (number_at order) (sym here) ∙ at.2 in
                absurd (omega arith)
            | inr apart ↦
                let rises = legal.callers place at.0 there at.1 (omega arith)
                (sym early.caller ∙ ap (caller_of calls) (sym at.2)) in
                let is = at.2 in
                absurd (omega arith)
          ]
        ]

    never_wrong : (place : ℕ) → IsPlace order place → ¬ IsWrong calls (numbers_before order place) (number_at order place)
    never_wrong place there wrong =
        let some = there.0 in let within = there.1 in
        let index = place - 1 in
        let under : index < length order = omega arith in
        let cut : order ≡ take index order ++ slice_index order index ∷ drop (suc index) order =
        sym (take-append-drop index order) ∙ ap (λ (tail : List ℕ). take index order ++ tail) (drop-cons order index 0 under) in
        let history : history_of calls order ≡ history_of calls (take index order) ++
        (wrong.entry ∷ history_of calls (drop (suc index) order)) =
        ap (history_of calls) cut ∙ history_of-append calls (take index order) (slice_index order index ∷ drop (suc index) order)
        ∙ ap (λ (o : Option Entry). history_of calls (take index order) ++
        (option_to_list o ++ history_of calls (drop (suc index) order))) wrong.numbered in
        wrong.wrong ((IsLegalFrom-append fin.empty (history_of calls (take index order))
        (wrong.entry ∷ history_of calls (drop (suc index) order))).0
        (subst (IsLegalFrom fin.empty) history legal.legal)).1.0

    legal_verdict : (v : Verdict) → IsVerdict calls order v → v ≡ Legal
    legal_verdict Legal is = refl
    legal_verdict (Unknown place) is = absurd (never_unknown place is.0.0 is.1)
    legal_verdict (Repeated place) is = absurd (never_repeated place is.0.0 is.1.1)
    legal_verdict (Early place) is = absurd (never_early place is.0.0 is.1.2)
    legal_verdict (Wrong place) is = absurd (never_wrong place is.0.0 is.1.3)
    legal_verdict (Missing number) is =
        let at = legal.each number is.2 is.3 in
        let among : is_in order number ≡ true = ap (is_in order) (sym at.2) ∙ among_all order at.0 at.1 in
        let absent = is.4 in
        cc

  -- the verdict is legal exactly where the order is
  pub legal_exactly : (v : Verdict) → IsVerdict calls order v → (v ≡ Legal) ↔ IsLegalOrder calls order
  legal_exactly v is = (
    λ equal. let all : IsVerdict calls order Legal = rw equal at is in legal_when_fine all.0 all.1,
    λ legal. legal_verdict legal v is,
  )
