-- A number at its place: why it is fine, and what is kept with it.
use Rattle.std.proofs.Common.{◌≡◌, ◌≢◌, ℕ, zero, suc, ◌+◌, ◌-◌, ◌<◌, ◌≤◌, ◌==◌, nat_eq, Bool, true, false, not, get_or, ◌||◌, List, [], ◌∷◌, ◌++◌, length, take, slice_index, slice_index_or, set, Option, Some, inl, inr, refl, sym, ap, ◌∙◌, append_assoc, arith, get_or-set_other, get_or-set_same}
use mathlib.Core.Bool.{beq}
use Rattle.std.specs.List.{slice_get}
use Rattle.std.specs.Option.{option_to_list}
use Rattle.std.specs.HashSet.{HashSet, contains}
use Rattle.std.specs.declared.hash.FoldHasher.{FoldHasher}
use Rattle.std.specs.declared.hash.BuildHasherDefault.{BuildHasherDefault}
use Rattle.std.specs.FinSet as fin
use Rattle.std.specs.Ordering.{nat_cmp}
use Rattle.std.proofs.lemmas.Bool.Decides.{nat_tests}
use Rattle.std.proofs.lemmas.Bool.{cases_eq, cases_lt}
use Rattle.std.proofs.lemmas.Option.{slice_get-get_or}
use Rattle.std.proofs.lemmas.List.Folds.{list_any-append}
use Rattle.set_model.specs.Call.{answer_where, answer_of, members_after_call}
use Rattle.set_model.specs.History.{set_after}
use Rattle.set_model.specs.Keys.{is_in, IsTestOf}
use Rattle.set_model.specs.declared.entry.Entry.{Entry}
use Rattle.set_model.proofs.LawHistory.{set_after-push}
use Rattle.set_model.proofs.LawMembers.{IsTestOf-after_call}
use Rattle.certify.specs.Place.{IsUnknown, IsRepeated, IsEarly, IsWrong, IsFine, IsLast, callers, caller_of, entry_claimed, entry_numbered, history_of}
use Rattle.certify.specs.Judging.{HasJudged}
use Rattle.certify.specs.declared.claimed.Claimed.{Claimed}

-- the call at an index
pub claimed_at : (calls : List Claimed) (k : ℕ) (blank : Claimed) → k < length calls → slice_get calls k ≡ Some (get_or calls k blank)
claimed_at calls k blank within = slice_get-get_or calls k blank within

pub same_answer : (made told : Bool) → not (beq made told) ≡ false → made ≡ told
same_answer true true equal = refl
same_answer true false equal = cc
same_answer false true equal = cc
same_answer false false equal = refl

pub other_answer : (made told : Bool) → not (beq made told) ≡ true → made ≡ told → ⊥
other_answer true true differ same = cc
other_answer true false differ same = cc
other_answer false true differ same = cc
other_answer false false differ same = cc

-- a history with one number more
pub history_of-append : (calls : List Claimed) (first second : List ℕ)
    → history_of calls (first ++ second) ≡ history_of calls first ++ history_of calls second
history_of-append calls [] second = refl
history_of-append calls (number ∷ first) second =
    ap (λ rest. option_to_list (entry_numbered calls number) ++ rest) (history_of-append calls first second)
    ∙ sym (append_assoc (option_to_list (entry_numbered calls number)) (history_of calls first) (history_of calls second))

module _ (calls : List Claimed) (earlier : List ℕ) (seen : List Bool) (members : HashSet ℕ (BuildHasherDefault FoldHasher))
    (judged : HasJudged calls earlier seen members) where
  -- the flag of a call by its number
  pub flag : (number : ℕ) → 0 < number → number ≤ length calls → slice_index_or seen (number - 1) false ≡ is_in earlier number
  flag number some within =
      judged.flags (number - 1) (omega arith) ∙ ap (is_in earlier) (let e : (number - 1) + 1 ≡ number = omega arith in e)

  -- an earlier call of its caller stands at an earlier place, since the last one does
  pub not_early : (number before : ℕ) → number ≤ length calls → IsLast (callers calls) (number - 1) (caller_of calls number) before
      → (0 < before → slice_index_or seen (before - 1) false ≡ true) → ¬ IsEarly calls earlier number
  not_early number before within last stands early = true_and_false (sym (flag early.smaller early.some few) ∙ shown) where
    few : early.smaller ≤ length calls
    few = let b = early.below in omega arith

    true_and_false : is_in earlier early.smaller ≡ true → ⊥
    true_and_false h = let absent = early.absent in cc

    shown : slice_index_or seen (early.smaller - 1) false ≡ true
    shown = elim (cases_lt (early.smaller - 1) before) [
      | inl under ↦ elim (cases_eq (early.smaller - 1) (before - 1)) [
        | inl here ↦ rw here (stands (omega arith))
        | inr apart ↦
            let most = last.within in
            judged.callers (early.smaller - 1) (before - 1) (omega arith) (omega arith)
            (early.caller ∙ sym (last.made_by (omega arith))) (stands (omega arith))
      ]
      | inr over ↦ let b = early.below in let s = early.some in
          absurd (last.none (early.smaller - 1) over (omega arith) early.caller)
    ]

  -- a call is early where the last one of its caller stands at no earlier place
  pub is_early : (number before : ℕ) → 0 < number → number ≤ length calls
      → IsLast (callers calls) (number - 1) (caller_of calls number) before
      → (0 < before) × (slice_index_or seen (before - 1) false ≡ false) → IsEarly calls earlier number
  is_early number before some within last unseen = record {
    smaller = before;
    some = unseen.0;
    below = let most = last.within in omega arith;
    caller = last.made_by unseen.0;
    absent = let most = last.within in sym (flag before unseen.0 (omega arith)) ∙ unseen.1;
  }

  pub known_once : (number : ℕ) → 0 < number → number ≤ length calls → slice_index_or seen (number - 1) false ≡ false
      → (¬ IsUnknown calls number) × (¬ IsRepeated earlier number)
  known_once number some within new = (
    (λ unknown. elim unknown [ inl none ↦ absurd (omega arith) | inr past ↦ absurd (omega arith) ]),
    (λ repeated. let f = flag number some within in cc),
  )

-- the entry of a call by its number
pub entry_numbered-Some : (calls : List Claimed) (number : ℕ) (claimed : Claimed) → 0 < number
    → slice_get calls (number - 1) ≡ Some claimed
    → entry_numbered calls number ≡ Some (entry_claimed (take (number - 1) calls) claimed)
entry_numbered-Some calls zero claimed some h = absurd (omega arith)
entry_numbered-Some calls (suc index) claimed some h =
    let e : suc index - 1 ≡ index = omega arith in
    let h' : slice_get calls index ≡ Some claimed = rw e at h in
    rw (e, h') refl

-- a number among some and one more
pub is_in-push : (earlier : List ℕ) (number other : ℕ)
    → is_in (earlier ++ number ∷ []) other ≡ (is_in earlier other || (number == other || false))
is_in-push earlier number other = list_any-append (λ y. nat_eq y other) earlier (number ∷ [])

or_true : (b : Bool) → (b || true) ≡ true
or_true true = refl
or_true false = refl

or_false : (b : Bool) → (b || false) ≡ b
or_false true = refl
or_false false = refl

module _ (calls : List Claimed) (earlier : List ℕ) (seen : List Bool) (members : HashSet ℕ (BuildHasherDefault FoldHasher))
    (judged : HasJudged calls earlier seen members) (number : ℕ) (claimed : Claimed) (some : 0 < number) (within : number ≤ length calls)
    (there : slice_get calls (number - 1) ≡ Some claimed) where
  abbrev entry : Entry
  entry = entry_claimed (take (number - 1) calls) claimed

  numbered : entry_numbered calls number ≡ Some entry
  numbered = entry_numbered-Some calls number claimed some there

  -- what the members answer is what the plain set does
  answered : (answer : Bool) → answer ≡ answer_where claimed.call (contains nat_eq members claimed.key)
      → answer ≡ answer_of entry.call entry.key (set_after fin.empty (history_of calls earlier))
  answered answer is = is ∙ ap (answer_where claimed.call) (sym (judged.held claimed.key))

  pub not_wrong : (answer : Bool) → answer ≡ answer_where claimed.call (contains nat_eq members claimed.key)
      → answer ≡ claimed.answer → ¬ IsWrong calls earlier number
  not_wrong answer is equal wrong =
      let same : Some wrong.entry ≡ Some entry = sym wrong.numbered ∙ numbered in
      let entries : wrong.entry ≡ entry = cc in
      wrong.wrong (rw entries (sym equal ∙ answered answer is))

  pub is_wrong : (answer : Bool) → answer ≡ answer_where claimed.call (contains nat_eq members claimed.key)
      → (answer ≡ claimed.answer → ⊥) → IsWrong calls earlier number
  is_wrong answer is differ = record { entry = entry; numbered = numbered; wrong = λ equal. differ (answered answer is ∙ sym equal) }

  -- the number is fine
  pub fine : (answer : Bool) → answer ≡ answer_where claimed.call (contains nat_eq members claimed.key)
      → answer ≡ claimed.answer → slice_index_or seen (number - 1) false ≡ false → ¬ IsEarly calls earlier number
      → IsFine calls earlier number
  fine answer is equal new ready = record {
    known = (known_once calls earlier seen members judged number some within new).0;
    once = (known_once calls earlier seen members judged number some within new).1;
    ready = ready;
    right = not_wrong answer is equal;
  }

  module _ (after : HashSet ℕ (BuildHasherDefault FoldHasher))
      (made : (other : ℕ) → contains nat_eq after other ≡ members_after_call claimed.call claimed.key (contains nat_eq members) other)
      (ready : ¬ IsEarly calls earlier number) (size : length seen ≡ length calls) where
    abbrev flags : List Bool
    flags = set seen (number - 1) true

    abbrev more : List ℕ
    more = earlier ++ number ∷ []

    at_number : slice_index_or flags (number - 1) false ≡ true
    at_number = let lt : number - 1 < length seen = omega arith in rw get_or-set_same refl

    beside : (k : ℕ) → k ≢ number - 1 → slice_index_or flags k false ≡ slice_index_or seen k false
    beside k apart = rw get_or-set_other refl

    flags_go_on : (k : ℕ) → k < length calls → slice_index_or flags k false ≡ is_in more (k + 1)
    flags_go_on k under = elim (cases_eq k (number - 1)) [
      | inl here ↦
          let is : number ≡ k + 1 = omega arith in
          let equal : (number == k + 1) ≡ true = grind (arith, nat_tests) in
          rw here at_number ∙ sym (is_in-push earlier number (k + 1) ∙ ap (λ b. is_in earlier (k + 1) || (b || false)) equal
          ∙ or_true (is_in earlier (k + 1)))
      | inr apart ↦
          let equal : (number == k + 1) ≡ false = grind (arith, nat_tests) in
          beside k apart ∙ judged.flags k under
          ∙ sym (is_in-push earlier number (k + 1) ∙ ap (λ b. is_in earlier (k + 1) || (b || false)) equal
          ∙ or_false (is_in earlier (k + 1)))
    ]

    -- an earlier call of its caller has its flag
    has_flag : (k : ℕ) → k < number - 1 → slice_index (callers calls) k ≡ caller_of calls number → slice_index_or seen k false ≡ true
    has_flag k under same = go (slice_index_or seen k false) refl where
      go : (b : Bool) → slice_index_or seen k false ≡ b → slice_index_or seen k false ≡ true
      go true e = e
      go false e =
          let back : (k + 1) - 1 ≡ k = omega arith in
          absurd (ready (record {
            smaller = k + 1;
            some = omega arith;
            below = omega arith;
            caller = rw back same;
            absent = sym (judged.flags k (omega arith)) ∙ e;
          }))

    kept : (k : ℕ) → slice_index_or seen k false ≡ true → slice_index_or flags k false ≡ true
    kept k h = elim (cases_eq k (number - 1)) [ inl here ↦ rw here at_number | inr apart ↦ beside k apart ∙ h ]

    callers_go_on : (k j : ℕ) → k < j → j < length calls → slice_index (callers calls) k ≡ slice_index (callers calls) j
        → slice_index_or flags j false ≡ true → slice_index_or flags k false ≡ true
    callers_go_on k j under within_calls same h = elim (cases_eq j (number - 1)) [
      | inl here ↦ kept k (has_flag k (omega arith) (rw here at same))
      | inr apart ↦ kept k (judged.callers k j under within_calls same (sym (beside j apart) ∙ h))
    ]

    held_goes_on : IsTestOf (contains nat_eq after) (set_after fin.empty (history_of calls more))
    held_goes_on other =
        let before : fin.FinSet nat_cmp = set_after fin.empty (history_of calls earlier) in
        let history : history_of calls more ≡ history_of calls earlier ++ entry ∷ [] =
        history_of-append calls earlier (number ∷ [])
        ∙ ap (λ (o : Option Entry). history_of calls earlier ++ (option_to_list o ++ [])) numbered in
        ap (λ (h : List Entry). fin.contains (set_after fin.empty h) other) history
        ∙ ap (λ s. fin.contains s other) (set_after-push fin.empty (history_of calls earlier) entry)
        ∙ IsTestOf-after_call claimed.call claimed.key (contains nat_eq members) before judged.held other
        ∙ sym (made other)

    pub goes_on : HasJudged calls more flags after
    goes_on = record { flags = flags_go_on; callers = callers_go_on; held = held_goes_on }
