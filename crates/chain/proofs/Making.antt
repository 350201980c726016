-- What a worker did with its pass stays told: as the round begins it made no call, and an insert more was answered or refused.
use Rattle.std.proofs.Common.{◌≡◌, ◌≢◌, ◌⊎◌, ℕ, ◌+◌, ◌<◌, Bool, true, false, not, if◌then◌else◌, Option, Some, None, is_some, List, [], ◌∷◌, ◌++◌, length, map, slice_index, inl, inr, refl, sym, ap, ap₂, ◌∙◌, subst, arith}
use Rattle.std.specs.List.{All, Any, filter}
use Rattle.std.proofs.lemmas.Bool.{cases_lt}
use Rattle.std.proofs.lemmas.List.{get_or_append_left, get_or_push, length-append, length_push, map_push, take_all}
use Rattle.std.proofs.lemmas.List.Elements.{All-filter, All-head, All-nil, All-push, All-same, All-tail, All-weaker, filter-append}
use Rattle.std.proofs.lemmas.List.Quantifiers.{Any-push}
use mathlib.Core.List.{IsPrefix}
use Rattle.set_model.specs.History.{members_after}
use Rattle.set_model.specs.Keys.{is_in}
use Rattle.set_model.specs.declared.call.Call.TheVariants.{Insert}
use Rattle.set_model.specs.declared.entry.Entry.{Entry}
use Rattle.step_core.specs.declared.views.PassView.{PassView}
use Rattle.cells.specs.Tokens.{IsSamePass, PassValue, RoundValue, fresh_pass}
use Rattle.fset.specs.declared.outcomes.Answered.{Answered}
use Rattle.fset.specs.Content.{front_has}
use Rattle.fset.specs.Frames.{KeepsOwn}
use Rattle.fset.specs.Standing.{Enters, ReadsSet, TriedStands, entry_for}
use Rattle.hash_set.specs.Calls.{AnswersCall, BeginsCall, LosesCall, RefusesCall}
use Rattle.rounds.specs.Closings.{account_of}
use Rattle.chain.specs.Chain.{Asked, ShowsCause, WasReading, asked_at}
use Rattle.chain.specs.Changing.{is_changing}
use Rattle.chain.specs.Workers.{HasMade, IsMine, WasAnswered}
use Rattle.chain.proofs.Filtering.{reading_begins}

-- as its round begins a pass made no call
pub made_none : (asked : List Asked) (turns : ℕ) (round : RoundValue) (number : ℕ)
    → HasMade asked turns [] [] false (fresh_pass round number)
made_none asked turns round number = record {
  calls = refl;
  mine = All-nil (IsMine asked [] (fresh_pass round number));
  changing = refl;
  answered = λ serial below. absurd (omega (arith, below));
  refusal = λ is. absurd (cc);
}

-- beside its calls a pass may do what makes no entry: what it did with them stays told where its front only grew
pub made_stays : (asked : List Asked) (turns : ℕ) (made changed : List ℕ) (old new : PassValue) → HasMade asked turns made changed false old
    → IsSamePass old new → IsPrefix old.view.front new.view.front → KeepsOwn old.view new.view → HasMade asked turns made changed false new
made_stays asked turns made changed old new before same grows own = record {
  calls = same.calls ∙ before.calls;
  mine = All-same (IsMine asked made new) new.view.mine old.view.mine own.mine
      (All-weaker (IsMine asked made old) (IsMine asked made new)
      (λ entry is. record { who = is.who ∙ sym same.number; begun = is.begun; call = is.call; key = is.key }) old.view.mine before.mine);
  changing = before.changing ∙ sym (ap (λ entries. map (λ entry. slice_index made entry.serial) (filter is_changing entries)) own.mine);
  answered = λ serial below. elim (before.answered serial below) as (λ _. WasAnswered asked made new serial) [
    | inl any ↦ inl (subst (Any (λ entry. entry.serial ≡ serial)) (sym own.mine) any)
    | inr was ↦ inr (subst (λ facts. WasReading (is_in facts.keys) new.view.front (asked_at asked (slice_index made serial)))
        (sym same.facts) (reading_begins (is_in old.view.facts.keys) old.view.front new.view.front
        (asked_at asked (slice_index made serial)) grows was))
  ];
  refusal = λ is. absurd (cc);
}

-- an insert that found its key in the set after the whole history is a reading
whole_reading : (view : PassView) (key : ℕ) → front_has view key ≡ true
    → WasReading (is_in view.facts.keys) view.front (record { call = Insert; key = key })
whole_reading view key present = record {
  place = length view.front;
  within = omega arith;
  reading = subst (λ entries. members_after (is_in view.facts.keys) entries key ≡ true)
      (sym (take_all (length view.front) view.front (omega arith))) present;
}

found : (present : Bool) → false ≡ not present → present ≡ true
found true is = refl
found false is = absurd (cc)

module _ (asked : List Asked) (made : List ℕ) (number : ℕ) where
  -- the call of a serial from before is the same in the longer list
  same_number : (serial : ℕ) → serial < length made → slice_index (made ++ number ∷ []) serial ≡ slice_index made serial
  same_number serial below = get_or_append_left made (number ∷ []) 0 serial below

  same_numbers : (old : PassValue) (entries : List Entry) → All (IsMine asked made old) entries
      → map (λ entry. slice_index (made ++ number ∷ []) entry.serial) entries ≡ map (λ entry. slice_index made entry.serial) entries
  same_numbers old [] all = refl
  same_numbers old (entry ∷ rest) all =
      ap₂ ◌∷◌ (same_number entry.serial (All-head (IsMine asked made old) entry rest all).begun)
      (same_numbers old rest (All-tail (IsMine asked made old) entry rest all))

  module _ (old new : PassValue) (begins : BeginsCall old new) where
    still_mine : (entry : Entry) → IsMine asked made old entry → IsMine asked (made ++ number ∷ []) new entry
    still_mine entry is =
        let same = sym (same_number entry.serial is.begun) in
        record {
          who = is.who ∙ sym begins.number;
          begun = omega (arith, is.begun, length_push made number);
          call = is.call ∙ ap (λ n. (asked_at asked n).call) same;
          key = is.key ∙ ap (λ n. (asked_at asked n).key) same;
        }

    -- a call that was answered stays so where the pass has its entries still, and its front grew
    still_answered : (serial : ℕ) → serial < length made → IsPrefix old.view.front new.view.front
        → (Any (λ entry. entry.serial ≡ serial) old.view.mine → Any (λ entry. entry.serial ≡ serial) new.view.mine)
        → WasAnswered asked made old serial → WasAnswered asked (made ++ number ∷ []) new serial
    still_answered serial below grows keeps (inl any) = inl (keeps any)
    still_answered serial below grows keeps (inr was) = inr
        (subst (λ n. WasReading (is_in new.view.facts.keys) new.view.front (asked_at asked n)) (sym (same_number serial below))
        (subst (λ facts. WasReading (is_in facts.keys) new.view.front (asked_at asked (slice_index made serial))) (sym begins.facts)
        (reading_begins (is_in old.view.facts.keys) old.view.front new.view.front (asked_at asked (slice_index made serial)) grows was)))

any_stays : (serial : ℕ) (entries more : List Entry) → Any (λ entry. entry.serial ≡ serial) entries
    → Any (λ entry. entry.serial ≡ serial) (entries ++ more)
any_stays serial entries more any = (
  any.0,
  any.1,
  omega (arith, any.2, length-append entries more),
  get_or_append_left entries more any.1 any.0 any.2 ∙ any.3,
  any.4,
)

is_some-not_none : (place : Option ℕ) → place ≢ None → is_some place ≡ true
is_some-not_none None some = absurd (some refl)
is_some-not_none (Some at) some = refl

-- a call that lost all its turns shows it
loses_shows : (turns key : ℕ) (old new : PassValue) → LosesCall turns Insert key old.view new.view
    → ShowsCause turns (account_of new)
loses_shows turns key old new loses = inr (omega (arith, loses.tries.spends.grows.lost))

-- and where no block was to be had the pass is spent
refuses_shows : (turns key : ℕ) (old new : PassValue) → RefusesCall turns Insert key old.view new.view
    → ShowsCause turns (account_of new)
refuses_shows turns key old new refuses = inl (elim refuses.full as (λ _. is_some new.view.spent ≡ true) [
  | inl was ↦ ap is_some was.still ∙ is_some-not_none old.view.spent was.before
  | inr over ↦ ap is_some over.spent
])

module _ (asked : List Asked) (turns : ℕ) (made changed : List ℕ) (number : ℕ) (old new : PassValue)
    (before : HasMade asked turns made changed false old) (begins : BeginsCall old new) where
  -- the entries from before, and what the changing ones are
  still_all : All (IsMine asked (made ++ number ∷ []) new) old.view.mine
  still_all =
      All-weaker (IsMine asked made old) (IsMine asked (made ++ number ∷ []) new) (still_mine asked made number old new begins)
      old.view.mine before.mine

  still_changing : map (λ entry. slice_index (made ++ number ∷ []) entry.serial) (filter is_changing old.view.mine) ≡ changed
  still_changing =
      same_numbers asked made number old (filter is_changing old.view.mine)
      (All-filter is_changing (IsMine asked made old) old.view.mine before.mine)
      ∙ sym before.changing

  -- an insert that changed the set has its entry
  by_entry : (key : ℕ) → asked_at asked number ≡ record { call = Insert; key = key } → IsPrefix old.view.front new.view.front
      → Enters (entry_for old.view.number old.calls Insert key true) old.view new.view
      → HasMade asked turns (made ++ number ∷ []) (changed ++ number ∷ []) false new
  by_entry key asks grows enters =
      let longer = made ++ number ∷ [] in
      let entry = entry_for old.view.number old.calls Insert key true in
      let its = λ (entry : Entry). slice_index longer entry.serial in
      let at : slice_index longer old.calls ≡ number = get_or_push made number 0 old.calls (sym before.calls) in
      record {
        calls = omega (arith, begins.calls, before.calls, length_push made number);
        mine = All-same (IsMine asked longer new) new.view.mine (old.view.mine ++ entry ∷ []) enters.mine
            (All-push (IsMine asked longer new) old.view.mine entry still_all (record {
              who = sym begins.number;
              begun = omega (arith, before.calls, length_push made number);
              call = sym (ap (λ n. (asked_at asked n).call) at ∙ ap (λ one. one.call) asks);
              key = sym (ap (λ n. (asked_at asked n).key) at ∙ ap (λ one. one.key) asks);
            }));
        changing = sym (ap (λ entries. map its (filter is_changing entries)) enters.mine
            ∙ ap (map its) (filter-append is_changing old.view.mine (entry ∷ []))
            ∙ map_push its (filter is_changing old.view.mine) entry
            ∙ ap₂ (λ numbers n. numbers ++ n ∷ []) still_changing at);
        answered = λ serial below. elim (cases_lt serial (length made)) as (λ _. WasAnswered asked longer new serial) [
          | inl less ↦
              still_answered asked made number old new begins serial less grows
              (λ any. subst (Any (λ entry. entry.serial ≡ serial)) (sym enters.mine) (any_stays serial old.view.mine (entry ∷ []) any))
              (before.answered serial (omega (arith, less)))
          | inr last ↦
              let same : old.calls ≡ serial = omega (arith, below, last, before.calls, length_push made number) in
              inl (subst (Any (λ entry. entry.serial ≡ serial)) (sym enters.mine)
              (Any-push (λ entry. entry.serial ≡ serial) old.view.mine entry same))
        ];
        refusal = λ is. absurd (cc);
      }

  -- one that changed nothing was a reading
  by_reading : (key : ℕ) → asked_at asked number ≡ record { call = Insert; key = key } → IsPrefix old.view.front new.view.front
      → ReadsSet Insert key false old.view new.view → HasMade asked turns (made ++ number ∷ []) changed false new
  by_reading key asks grows reads =
      let longer = made ++ number ∷ [] in
      let at : slice_index longer old.calls ≡ number = get_or_push made number 0 old.calls (sym before.calls) in
      record {
        calls = omega (arith, begins.calls, before.calls, length_push made number);
        mine = All-same (IsMine asked longer new) new.view.mine old.view.mine reads.own.mine still_all;
        changing = sym (ap (λ entries. map (λ entry. slice_index longer entry.serial) (filter is_changing entries)) reads.own.mine
            ∙ still_changing);
        answered = λ serial below. elim (cases_lt serial (length made)) as (λ _. WasAnswered asked longer new serial) [
          | inl less ↦
              still_answered asked made number old new begins serial less grows
              (subst (Any (λ entry. entry.serial ≡ serial)) (sym reads.own.mine)) (before.answered serial (omega (arith, less)))
          | inr last ↦
              let same : old.calls ≡ serial = omega (arith, below, last, before.calls, length_push made number) in
              let asks_it = ap (λ s. asked_at asked (slice_index longer s)) (sym same) ∙ ap (asked_at asked) at ∙ asks in
              inr (subst (WasReading (is_in new.view.facts.keys) new.view.front) (sym asks_it)
              (whole_reading new.view key (found (front_has new.view key) reads.answer_is)))
        ];
        refusal = λ is. absurd (cc);
      }

  by_answer : (key : ℕ) (changes : Bool) → asked_at asked number ≡ record { call = Insert; key = key }
      → IsPrefix old.view.front new.view.front → TriedStands old.calls Insert key changes old.view new.view
      → HasMade asked turns (made ++ number ∷ []) (if changes then changed ++ number ∷ [] else changed) false new
  by_answer key true asks grows stands = by_entry key asks grows stands
  by_answer key false asks grows stands = by_reading key asks grows stands

  -- an insert more was answered
  pub made_answered : (fast serial key : ℕ) (answered : Answered) → serial ≡ old.calls
      → asked_at asked number ≡ record { call = Insert; key = key }
      → AnswersCall fast serial Insert key answered old.view new.view
      → HasMade asked turns (made ++ number ∷ []) (if answered.changed then changed ++ number ∷ [] else changed) false new
  made_answered fast serial key answered is asks answers =
      by_answer key answered.changed asks answers.tries.spends.grows.front
      (subst (λ s. TriedStands s Insert key answered.changed old.view new.view) is answers.tried)

  by_refusal : IsPrefix old.view.front new.view.front → KeepsOwn old.view new.view → ShowsCause turns (account_of new)
      → HasMade asked turns (made ++ number ∷ []) changed true new
  by_refusal grows own cause =
      let longer = made ++ number ∷ [] in
      record {
        calls = omega (arith, begins.calls, before.calls, length_push made number);
        mine = All-same (IsMine asked longer new) new.view.mine old.view.mine own.mine still_all;
        changing = sym (ap (λ entries. map (λ entry. slice_index longer entry.serial) (filter is_changing entries)) own.mine
            ∙ still_changing);
        answered = λ serial below.
            let less : serial < length made = omega (arith, below, length_push made number) in
            still_answered asked made number old new begins serial less grows
            (subst (Any (λ entry. entry.serial ≡ serial)) (sym own.mine)) (before.answered serial (omega (arith, less)));
        refusal = λ is. record {
          some = omega (arith, length_push made number);
          absent = All-same (λ entry. entry.serial + 1 < length longer) new.view.mine old.view.mine own.mine
              (All-weaker (IsMine asked made old) (λ entry. entry.serial + 1 < length longer)
              (λ entry is. omega (arith, is.begun, length_push made number)) old.view.mine before.mine);
          cause = cause;
        };
      }

  -- or refused, all its turns lost or no block to be had
  pub made_refused : (key : ℕ)
      → LosesCall turns Insert key old.view new.view ⊎ RefusesCall turns Insert key old.view new.view
      → HasMade asked turns (made ++ number ∷ []) changed true new
  made_refused key (inl loses) = by_refusal loses.tries.spends.grows.front loses.own (loses_shows turns key old new loses)
  made_refused key (inr refuses) = by_refusal refuses.tries.spends.grows.front refuses.own (refuses_shows turns key old new refuses)
