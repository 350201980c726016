-- A round with one worker ends as its ledger makes it, and so does what it leaves.
use Rattle.std.proofs.Common.{◌≡◌, ◌+◌, ◌-◌, ◌<◌, ℕ, Bool, true, false, cond, List, [], ◌∷◌, ◌++◌, append-nil, drop, flat_map, length, map, slice_index, slice_index_or, None, inl, inr, refl, sym, ap, ◌∙◌, subst, arith}
use Rattle.std.specs.FinSet as set
use Rattle.std.specs.Ordering.{nat_cmp}
use Rattle.std.specs.List.{All, range_with_len}
use Rattle.std.specs.List.Sorted.{IsStrictlyIncreasing}
use Rattle.std.proofs.lemmas.Bool.{cases_Bool}
use Rattle.std.proofs.lemmas.List.{get_or_append_left, get_or_default, length-append, same_lists}
use Rattle.std.proofs.lemmas.List.Elements.{All-head}
use Rattle.std.proofs.lemmas.List.FromFn.{get_or-map-range_with_len, length-map-range_with_len}
use Rattle.std.proofs.Math.Seq.{drop-append_seam}
use Rattle.set_model.specs.Call.{answer_where}
use Rattle.set_model.specs.History.{set_after}
use Rattle.set_model.specs.Keys.{is_in, keys_set}
use Rattle.set_model.specs.declared.call.Call.TheVariants.{Insert}
use Rattle.set_model.specs.declared.entry.Entry.{Entry}
use Rattle.set_model.proofs.LawHistory.{sets_and_tests_agree}
use Rattle.step_core.specs.Openings.{exponent_for, opening_facts, opening_words}
use Rattle.step_core.specs.Rising.{keys_after}
use Rattle.step_core.specs.States.{fresh_view}
use Rattle.step_core.specs.declared.views.RoundFacts.{RoundFacts}
use Rattle.step_core.proofs.lists.Histories.{IsStrictlyIncreasing-after, is_in-after, same_members_are_one}
use Rattle.cells.specs.Lone.{ledger_of}
use Rattle.cells.specs.Tokens.{PassValue, RoundValue, fresh_pass}
use Rattle.rounds.specs.Closings.{ClosesLedger, ClosingValue}
use Rattle.chain.specs.Chain.{Asked, RoundEnd, asked_at, no_call}
use Rattle.chain.specs.Workers.{AreSettled, RefusedCall, call_answered}
use Rattle.idfiles.specs.declared.id_record.IdRecord.{IdRecord}
use Rattle.dedup.specs.Crews.{HasPart, HaveDone, rest_of}
use Rattle.dedup.specs.LoneRun.{EndsLone, IsLoneRound, IsLoneRun, Serving, ids_left, keys_left, opened, refused_entry, served, serving_none, settled_where}
use Rattle.dedup.specs.Records.{asked_of, ids_at, ids_of, no_record, records_at}
use Rattle.dedup.specs.Rounds.{LeavesLone, SettlesRound, round_ended}
use Rattle.dedup.specs.Settling.{handed_in}
use Rattle.dedup.specs.Workers.{HasDone, Serves, is_refused, part_of, serving_of}
use Rattle.dedup.specs.declared.one_round.EndedRound.{EndedRound}
use Rattle.dedup.specs.declared.worker.Hand.{Hand}
use Rattle.dedup.specs.declared.worker.Stop.TheVariants.{Finished}
use Rattle.dedup.specs.declared.worker.Worker.{Worker}
use Rattle.dedup.proofs.LawRecords.{asked_at-record, asks, ids_at-append, ids_at-place, length-ids_at}
use Rattle.dedup.proofs.LawRests.{rest_is}
use Rattle.dedup.proofs.LawServing.{served-append, served-none, served-refused}

-- the ledger of a pass as its round begins, where it is the only one
ledger-fresh : (seats room number : ℕ) (keys : List ℕ) → seats ≡ 1
    → ledger_of (fresh_view (opening_facts seats (opening_words seats keys + room) keys) number) ≡ opened room keys
unfolding ledger_of
ledger-fresh seats room number keys one =
    let first : opening_words seats keys + 0 ≡ opening_words seats keys = omega arith in
    let next : opening_words seats keys + 0 ≡ opening_words 1 keys = first ∙ ap (λ (s : ℕ). opening_words s keys) one in
    λ i. record {
      keys = keys;
      exponent = exponent_for (length keys);
      untouched = λ bucket. false;
      next = next i;
      cap = opening_words (one i) keys + room;
      spent = None;
    }

-- it made no insert yet
pub serves_none : (records : List IdRecord) (round : RoundValue) (hand : Hand) (pass : PassValue) (number : ℕ)
    → round.facts ≡ opening_facts round.plan.seats (opening_words round.plan.seats round.facts.keys + round.plan.room) round.facts.keys
    → pass ≡ fresh_pass round number → hand.made.items ≡ [] → Serves records round Finished hand pass
serves_none records round hand pass number opening fresh none one =
    let room = round.plan.room in
    let keys = round.facts.keys in
    let seats : round.plan.seats ≡ 1 = sym (ap (λ (facts : RoundFacts). facts.seats) opening) ∙ one in
    let ledger : ledger_of pass.view ≡ opened room keys =
    ap (λ (p : PassValue). ledger_of p.view) fresh
    ∙ ap (λ (facts : RoundFacts). ledger_of (fresh_view facts number)) opening
    ∙ ledger-fresh round.plan.seats room number keys seats in
    let count : 0 ≡ length hand.made.items = sym (ap length none) in
    ap (λ (numbers : List ℕ). served room (ids_at records numbers) (serving_none room keys)) none
    ∙ served-none room (serving_none room keys)
    ∙ (λ i. record { ledger = sym ledger i; begun = count i; refused = false })

-- of an only worker at most the last call is settled
abbrev last_answered : (asked : List Asked) (made : List ℕ) (members : ℕ → Bool) → Entry
last_answered asked made members =
    let call = asked_at asked (slice_index made (length made - 1)) in
    record { who = 0; serial = length made - 1; call = call.call; key = call.key; answer = answer_where call.call (members call.key) }

no_refused : RefusedCall
no_refused = record { who = 0; serial = 0; asked = no_call }

settled_one : (asked : List Asked) (made : List ℕ) (refused : Bool) (members : ℕ → Bool) (settled : List Entry)
    → AreSettled asked (record { made = made; refused = refused } ∷ []) members settled
    → settled ≡ cond refused (last_answered asked made members ∷ []) []
settled_one asked made true members [] are = absurd (omega (arith, ap length are.calls))
settled_one asked made true members (entry ∷ []) are =
    let call = asked_at asked (slice_index made (length made - 1)) in
    let same : call_answered entry ≡ record { who = 0; serial = length made - 1; asked = call } =
    ap (λ (calls : List RefusedCall). slice_index_or calls 0 no_refused) are.calls in
    let its : call_answered entry ≡ record { who = 0; serial = length made - 1; asked = call } = same in
    let answer : entry.answer ≡ answer_where call.call (members call.key) =
    are.legal.0
    ∙ ap (λ (c : RefusedCall). answer_where c.asked.call (members c.asked.key)) its in
    λ i. record {
      who = (its i).who;
      serial = (its i).serial;
      call = (its i).asked.call;
      key = (its i).asked.key;
      answer = answer i;
    } ∷ []
settled_one asked made true members (entry ∷ other ∷ settled) are = absurd (omega (arith, ap length are.calls))
settled_one asked made false members [] are = refl
settled_one asked made false members (entry ∷ settled) are = absurd (omega (arith, ap length are.calls))

same_where : (refused : Bool) (entry : Entry) (ids : List ℕ) (serving : Serving) → (refused ≡ true → entry ≡ refused_entry ids serving)
    → cond refused (entry ∷ []) [] ≡ settled_where refused ids serving
same_where true entry ids serving same = ap (λ (e : Entry). e ∷ []) (same refl)
same_where false entry ids serving same = refl

module _ (records : List IdRecord) (round : RoundValue) (left : List ℕ) (worker : Worker) (one : round.facts.seats ≡ 1)
    (done : HasDone records round left worker) (whole : part_of left worker ≡ left) where
  abbrev room : ℕ
  room = round.plan.room

  abbrev keys : List ℕ
  keys = round.facts.keys

  abbrev ids : List ℕ
  ids = ids_at records left

  abbrev made : List ℕ
  made = worker.hand.made.items

  abbrev serving : Serving
  serving = serving_of worker.hand.stop worker.hand worker.pass

  split : left ≡ made ++ done.rest
  split = sym whole ∙ done.front

  split_ids : ids ≡ ids_at records made ++ ids_at records done.rest
  split_ids = ap (ids_at records) split ∙ ids_at-append records made done.rest

  -- what is left wouldn't be begun
  stays : served room (ids_at records done.rest) serving ≡ serving
  stays = elim (cases_Bool (is_refused worker.hand.stop)) [
    | inl refused ↦ served-refused room (ids_at records done.rest) serving refused
    | inr finished ↦ ap (λ (rest : List ℕ). served room (ids_at records rest) serving) (done.all finished) ∙ served-none room serving
  ]

  -- the ledger of all ids is that of the worker's pass
  serves : served room ids (serving_none room keys) ≡ serving
  serves =
      ap (λ (all : List ℕ). served room all (serving_none room keys)) split_ids
      ∙ served-append room (ids_at records made) (ids_at records done.rest) (serving_none room keys)
      ∙ ap (served room (ids_at records done.rest)) (done.begun.serves one) ∙ stays

  -- and what it leaves is the rest
  rest_left : ids_at records done.rest ≡ ids_left room keys ids
  rest_left =
      sym (drop-append_seam (ids_at records made) (ids_at records done.rest))
      ∙ ap (λ (n : ℕ). drop n (ids_at records made ++ ids_at records done.rest)) (length-ids_at records made)
      ∙ ap (drop (length made)) (sym split_ids)
      ∙ ap (λ (s : Serving). drop s.begun ids) (sym serves)

  module _ (closing : ClosingValue) (closes : ClosesLedger closing worker.pass) (settled : List Entry)
      (are : AreSettled (asked_of records) (handed_in worker.hand ∷ []) (set.contains (keys_set closing.keys)) settled) where
    -- the refused insert, as a plain set with the ledger's keys answers it
    last_is : is_refused worker.hand.stop ≡ true
        → last_answered (asked_of records) made (set.contains (keys_set closing.keys)) ≡ refused_entry ids serving
    last_is refused =
        let some : 0 < length made = (done.begun.did.refusal refused).some in
        let last = length made - 1 in
        let number = slice_index made last in
        let call : asked_at (asked_of records) number ≡ asks (slice_index_or records number no_record) = asked_at-record records number in
        let within : last < length made = omega (arith, some) in
        let inside : last < length left = omega (arith, within, ap length split, length-append made done.rest) in
        let place : slice_index left last ≡ number =
        ap (λ (all : List ℕ). slice_index all last) split ∙ get_or_append_left made done.rest 0 last within in
        let key : (asked_at (asked_of records) number).key ≡ slice_index ids last =
        ap (λ (c : Asked). c.key) call
        ∙ ap (λ (n : ℕ). (slice_index_or records n no_record).id) (sym place)
        ∙ sym (ids_at-place records left last inside) in
        let insert : (asked_at (asked_of records) number).call ≡ Insert = ap (λ (c : Asked). c.call) call in
        let test : set.contains (keys_set closing.keys) (asked_at (asked_of records) number).key
        ≡ is_in (ledger_of worker.pass.view).keys (slice_index ids last) =
        set.contains-from_list_nat closing.keys (asked_at (asked_of records) number).key
        ∙ (λ i. is_in (closes.keys i) (key i)) in
        λ i. record {
          who = 0;
          serial = last;
          call = insert i;
          key = key i;
          answer = answer_where (insert i) (test i);
        }

    settled_is : settled ≡ settled_where (is_refused worker.hand.stop) ids serving
    settled_is =
        settled_one (asked_of records) made (is_refused worker.hand.stop) (set.contains (keys_set closing.keys)) settled are
        ∙ same_where (is_refused worker.hand.stop) (last_answered (asked_of records) made (set.contains (keys_set closing.keys))) ids serving
        last_is

-- the keys of the set after settled calls are those of the rising list
keys_after_settled : (keys others : List ℕ) (settled : List Entry) → IsStrictlyIncreasing keys → IsStrictlyIncreasing others
    → keys_set others ≡ set_after (keys_set keys) settled → others ≡ keys_after keys settled
keys_after_settled keys others settled rises other_rises same =
    same_members_are_one others (keys_after keys settled) other_rises (IsStrictlyIncreasing-after keys settled rises) (λ key.
    sym (set.contains-from_list_nat others key)
    ∙ ap (λ (all : set.FinSet nat_cmp). set.contains all key) same
    ∙ (sets_and_tests_agree (is_in keys) (keys_set keys) settled (set.contains-from_list_nat keys)).0 key
    ∙ sym (is_in-after keys settled rises key))

-- So a round with one worker ends.
pub leaves_lone : (records : List IdRecord) (round : RoundValue) (left : List ℕ) (workers : List Worker) (closing : ClosingValue)
    (rests : List ℕ) (ended : EndedRound) → round.facts.seats ≡ 1 → length workers ≡ 1 → HaveDone records round left workers
    → All (ClosesLedger closing) (map (λ (worker : Worker). worker.pass) workers) → IsStrictlyIncreasing closing.keys
    → SettlesRound records closing (map (λ (worker : Worker). worker.hand) workers) rests ended → rests ≡ flat_map (rest_of left) workers
    → LeavesLone records round.plan.room round.facts.keys left ended
leaves_lone records round left [] closing rests ended one single done closes rises settles are = absurd (omega (arith, single))
leaves_lone records round left (worker ∷ []) closing rests ended one single done closes rises settles are =
    let its : HasDone records round left worker = All-head (HasDone records round left) worker [] done.each in
    let part : HasPart left worker = All-head (HasPart left) worker [] done.parts in
    let whole : part_of left worker ≡ left = sym (append-nil (part_of left worker)) ∙ done.tiles in
    let ledger : ClosesLedger closing worker.pass = All-head (ClosesLedger closing) worker.pass [] closes in
    let all_serves = serves records round left worker one its whole in
    let rest : ended.left.items ≡ its.rest =
    settles.left_is ∙ are ∙ append-nil (rest_of left worker) ∙ sym (rest_is left worker its.rest part its.front) in
    let ends = serving_of worker.hand.stop worker.hand worker.pass in
    record {
      round = subst (λ (s : Serving). EndsLone (ids_at records left) s (round_ended ended)) (sym all_serves) (record {
        keys = ap (λ (c : ClosingValue). c.keys) settles.closing_is ∙ ledger.keys;
        exponent = ap (λ (c : ClosingValue). c.exponent) settles.closing_is ∙ ledger.exponent;
        next = ap (λ (c : ClosingValue). c.next) settles.closing_is ∙ ledger.next;
        settled = settled_is records round left worker one its whole closing ledger ended.settled.items settles.settled;
      });
      keys_are = keys_after_settled closing.keys ended.keys.items ended.settled.items rises settles.rising settles.keys_are
          ∙ ap (λ (c : ClosingValue). keys_after c.keys ended.settled.items) (sym settles.closing_is);
      left_are = ap (ids_at records) rest ∙ rest_left records round left worker one its whole;
    }
leaves_lone records round left (worker ∷ other ∷ workers) closing rests ended one single done closes rises settles are =
    absurd (omega (arith, single))

-- one round more
pub lone_run-push : (room : ℕ) (first ids : List ℕ) (rounds : List RoundEnd) (keys left : List ℕ) (round : RoundEnd)
    → IsLoneRun room first ids rounds keys left → 0 < length left → IsLoneRound room keys left round
    → IsLoneRun room first ids (rounds ++ round ∷ []) (keys_left round) (ids_left room keys left)
unfolding IsLoneRun
lone_run-push room first ids [] keys left round run some ends = (
  subst (λ (all : List ℕ). 0 < length all) run.1 some,
  subst (λ (all : List ℕ). IsLoneRound room all ids round) run.0 (subst (λ (all : List ℕ). IsLoneRound room keys all round) run.1 ends),
  (refl, λ i. ids_left room (run.0 i) (run.1 i)),
)
lone_run-push room first ids (earlier ∷ rounds) keys left round run some ends = (
  run.0,
  run.1,
  lone_run-push room (keys_left earlier) (ids_left room first ids) rounds keys left round run.2 some ends,
)

-- before the first round all ids are still to come
all_records : (records : List IdRecord) → records_at records (range_with_len 0 (length records)) ≡ records
all_records records =
    let at : ℕ → IdRecord = λ number. slice_index_or records number no_record in
    let count = length records in
    same_lists (records_at records (range_with_len 0 count)) records (length-map-range_with_len at 0 count) (λ k d within.
    let inside : k < count = omega (arith, within, length-map-range_with_len at 0 count) in
    get_or-map-range_with_len at 0 count k k d inside (let same : 0 + k ≡ k = omega arith in same)
    ∙ get_or_default records k no_record d inside)

pub lone_run-none : (room : ℕ) (records : List IdRecord)
    → IsLoneRun room [] (ids_of records) [] [] (ids_at records (range_with_len 0 (length records)))
unfolding IsLoneRun
lone_run-none most records = (refl, ap ids_of (all_records records))
