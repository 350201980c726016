-- A crew that has done its parts hands in its round: it ends as one of a chain.
use Rattle.std.proofs.Common.{◌≡◌, ◌-◌, ◌<◌, ◌≤◌, ℕ, Bool, List, ◌++◌, drop, flat_map, length, map, slice_index_or, take, None, inl, inr, sym, ap, ◌∙◌, subst, arith}
use Rattle.std.specs.FinSet as set
use Rattle.std.specs.List.{All, filter, range_with_len}
use Rattle.std.specs.List.Sorted.{IsPermutation}
use Rattle.std.proofs.lemmas.Bool.{cases_Bool}
use Rattle.std.proofs.lemmas.List.{get_or-map, length-append, length-map}
use Rattle.std.proofs.lemmas.List.Elements.{All-drop, All-map, All-same, All-take}
use Rattle.std.proofs.lemmas.List.FromFn.{length-range_with_len}
use Rattle.std.proofs.lemmas.List.Folds.{flat_map-map}
use Rattle.std.proofs.lemmas.List.Sorted.{IsPermutation-refl}
use Rattle.std.proofs.lemmas.Simd.{map-map}
use Rattle.std.proofs.Math.Seq.{take-append_seam}
use Rattle.set_model.specs.History.{members_after, set_after}
use Rattle.set_model.specs.Keys.{is_in, keys_set}
use Rattle.set_model.proofs.LawHistory.{sets_and_tests_agree, set_after-append}
use Rattle.cells.specs.Ends.{AreAllPasses}
use Rattle.cells.specs.Tokens.{IsPassOf, PassValue, RoundValue}
use Rattle.rounds.specs.Closings.{ClosesLedger, ClosingValue}
use Rattle.step_core.specs.declared.views.RoundFacts.{RoundFacts}
use Rattle.rounds.specs.Halts.{AreAtRest, number_of}
use Rattle.chain.specs.Chain.{IsRunRound, RoundEnd, entries_of, number_of_entry, numbers_in}
use Rattle.chain.specs.Changing.{changing_in, is_changing}
use Rattle.chain.specs.Workers.{AreSettled, HandedIn, HasMade, HaveWorked}
use Rattle.chain.proofs.Changed.{changing_is}
use Rattle.chain.proofs.Rounding.{round_is}
use Rattle.idfiles.specs.declared.id_record.IdRecord.{IdRecord}
use Rattle.step_core.specs.Limits.{max_passes}
use Rattle.dedup.specs.Crews.{HaveDone, rest_of}
use Rattle.dedup.specs.Records.{asked_of}
use Rattle.dedup.specs.Rounds.{AddsRound, ClosesRound, SettlesRound, lists_in, round_ended}
use Rattle.dedup.specs.Settling.{CanSettle, handed_in, lists_of}
use Rattle.dedup.specs.Workers.{HasDone, IsJob, is_refused, part_of}
use Rattle.dedup.specs.declared.one_round.EndedRound.{EndedRound}
use Rattle.dedup.specs.declared.worker.Hand.{Hand}
use Rattle.dedup.specs.declared.worker.Worker.{Worker}
use Rattle.dedup.proofs.LawLists.{element, numbered_is_one}
use Rattle.dedup.proofs.LawLone.{leaves_lone}
use Rattle.dedup.proofs.LawParts.{HasSplit, begun_and_rest, rest-less}
use Rattle.dedup.proofs.LawRests.{begun_by, rest_is}

module _ (records : List IdRecord) (round : RoundValue) (left : List ℕ) (workers : List Worker) (job : IsJob records round left)
    (done : HaveDone records round left workers) where
  abbrev passes : List PassValue
  passes = map (λ (worker : Worker). worker.pass) workers

  abbrev hands : List Hand
  hands = map (λ (worker : Worker). worker.hand) workers

  abbrev handed : List HandedIn
  handed = map handed_in hands

  abbrev changed : List (List ℕ)
  changed = map (λ (hand : Hand). hand.changed.items) hands

  count : length workers ≡ round.facts.seats
  count =
      sym (length-map workers (λ (worker : Worker). worker.pass.view.number)) ∙ ap length done.numbered
      ∙ length-range_with_len 0 round.facts.seats

  planned : round.facts.seats ≡ round.plan.seats
  planned = ap (λ (facts : RoundFacts). facts.seats) job.opened

  numbers : map number_of passes ≡ range_with_len 0 round.facts.seats
  numbers = map-map number_of (λ (worker : Worker). worker.pass) workers ∙ done.numbered

  -- the passes are all of the round
  pub all_passes : AreAllPasses round passes
  all_passes = record {
    ours = All-map (IsPassOf round) (λ (worker : Worker). worker.pass) workers (λ k d within. (done.each k d within).begun.ours);
    once = subst (IsPermutation (map number_of passes)) numbers (IsPermutation-refl (map number_of passes));
  }

  -- and at rest
  pub all_at_rest : AreAtRest passes
  all_at_rest =
      All-map (λ (pass : PassValue). pass.view.flight ≡ None) (λ (worker : Worker). worker.pass) workers
      (λ k d within. (done.each k d within).begun.idle)

  -- there are few hands
  pub few_hands : length hands ≤ max_passes
  few_hands = omega (arith, length-map workers (λ (worker : Worker). worker.hand), count, job.few_passes)

  -- each began the inserts of records
  made_below : (worker : Worker) → HasDone records round left worker
      → All (λ (number : ℕ). number < length records) (begun_by worker)
  made_below worker its =
      let Is : ℕ → Type 0 = λ number. number < length records in
      let begun = begun_by worker in
      let part = part_of left worker in
      All-same Is begun (take (length begun) part) (sym (ap (take (length begun)) its.front ∙ take-append_seam begun its.rest))
      (All-take Is (length begun) part
      (All-take Is (worker.to - worker.from) (drop worker.from left) (All-drop Is worker.from left job.numbers)))

  -- what they were refused can be settled
  pub can_settle : All (CanSettle records) hands
  can_settle =
      All-map (CanSettle records) (λ (worker : Worker). worker.hand) workers (λ k d within.
      let worker = slice_index_or workers k d in
      let its = done.each k d within in
      record {
        some = λ refused. (its.begun.did.refusal refused).some;
        numbers = made_below worker its;
      })

  -- what each began of its part and left of it
  splits : All (HasSplit (part_of left) begun_by (rest_of left)) workers
  splits k d within =
      let worker = slice_index_or workers k d in
      let its = done.each k d within in
      let rest = rest_is left worker its.rest (done.parts k d within) its.front in
      record {
        front = its.front ∙ ap (λ (ns : List ℕ). begun_by worker ++ ns) rest;
        some = λ has. elim (cases_Bool (is_refused worker.hand.stop)) as (λ _. 0 < length (begun_by worker)) [
          | inl refused ↦ (its.begun.did.refusal refused).some
          | inr finished ↦
              omega (
                arith,
                has,
                ap length its.front,
                length-append (begun_by worker) its.rest,
                ap length (its.all finished),
              )
        ];
      }

  begun_all : numbers_in (lists_of hands) ≡ flat_map begun_by workers
  begun_all =
      flat_map-map (λ (numbers : List ℕ). numbers) (λ (hand : Hand). hand.made.items) hands
      ∙ flat_map-map (λ (hand : Hand). hand.made.items) (λ (worker : Worker). worker.hand) workers

  lists : lists_of hands ≡ map (λ (hand : HandedIn). hand.made) handed
  lists = sym (map-map (λ (hand : HandedIn). hand.made) handed_in hands)

  module _ (closing : ClosingValue) (closes : ClosesRound round passes closing) where
    same_passes : passes ≡ closes.halted.passes
    same_passes =
        numbered_is_one number_of passes closes.halted.passes round.facts.seats numbers closes.halts.numbered closes.halts.same

    -- each worker did with its pass what it handed in
    have_worked : HaveWorked (asked_of records) round.plan.fast closes.halted handed changed
    have_worked = record {
      count = length-map hands handed_in
          ∙ length-map workers (λ (worker : Worker). worker.hand)
          ∙ sym (length-map workers (λ (worker : Worker). worker.pass))
          ∙ ap length same_passes;
      lists = length-map hands (λ (hand : Hand). hand.changed.items) ∙ sym (length-map hands handed_in);
      each = λ k hand numbers pass within.
          let few : k < length hands = omega (arith, within, length-map hands handed_in) in
          let inside : k < length workers = omega (arith, few, length-map workers (λ (worker : Worker). worker.hand)) in
          let its = element workers k inside in
          let worker = its.0 in
          let same_hand : slice_index_or hands k worker.hand ≡ worker.hand =
          get_or-map (λ (worker : Worker). worker.hand) workers k worker worker.hand inside
          ∙ ap (λ (w : Worker). w.hand) (its.1 worker) in
          let same_handed : slice_index_or handed k hand ≡ handed_in worker.hand =
          get_or-map handed_in hands k worker.hand hand few ∙ ap handed_in same_hand in
          let same_changed : slice_index_or changed k numbers ≡ worker.hand.changed.items =
          get_or-map (λ (hand : Hand). hand.changed.items) hands k worker.hand numbers few
          ∙ ap (λ (h : Hand). h.changed.items) same_hand in
          let same_pass : slice_index_or closes.halted.passes k pass ≡ worker.pass =
          ap (λ (ps : List PassValue). slice_index_or ps k pass) (sym same_passes)
          ∙ get_or-map (λ (worker : Worker). worker.pass) workers k worker pass inside
          ∙ ap (λ (w : Worker). w.pass) (its.1 worker) in
          let did = (subst (HasDone records round left) (its.1 worker) (done.each k worker inside)).begun.did in
          subst (λ (p : PassValue). HasMade (asked_of records) round.plan.fast (slice_index_or handed k hand).made
          (slice_index_or changed k numbers) (slice_index_or handed k hand).refused p) (sym same_pass)
          (subst (λ (h : HandedIn). HasMade (asked_of records) round.plan.fast h.made
          (slice_index_or changed k numbers) h.refused worker.pass) (sym same_handed)
          (subst (λ (ns : List ℕ). HasMade (asked_of records) round.plan.fast worker.hand.made.items
          ns (is_refused worker.hand.stop) worker.pass) (sym same_changed) did));
    }

    abbrev opening : List ℕ
    opening = closes.halted.round.facts.keys

    -- the keys of the closing, as a test
    keys_test : set.contains (keys_set closing.keys) ≡ members_after (is_in opening) closing.front
    keys_test =
        ap set.contains closes.closes.keys
        ∙ (λ i key. (sets_and_tests_agree (is_in opening) (keys_set opening) closing.front (set.contains-from_list_nat opening)).0 key i)

    module _ (rests : List ℕ) (ended : EndedRound) (settles : SettlesRound records closing hands rests ended) where
      settled_are : AreSettled (asked_of records) handed (members_after (is_in opening) closing.front) ended.settled.items
      settled_are =
          subst (λ (members : ℕ → Bool). AreSettled (asked_of records) handed members ended.settled.items) keys_test settles.settled

      abbrev as_made : RoundEnd
      as_made = record {
        closing = closing;
        settled = ended.settled.items;
        made = map (λ (hand : HandedIn). hand.made) handed;
      }

      same_round : as_made ≡ round_ended ended
      same_round = λ i. record {
        closing = sym settles.closing_is i;
        settled = ended.settled.items;
        made = sym (settles.made_is ∙ lists) i;
      }

      same_keys : opening ≡ round.facts.keys
      same_keys = ap (λ (r : RoundValue). r.facts.keys) closes.halts.round

      keys_after : (key : ℕ) → is_in ended.keys.items key ≡ members_after (is_in opening) (entries_of as_made) key
      keys_after key =
          let front = closing.front in
          let settled = ended.settled.items in
          sym (set.contains-from_list_nat ended.keys.items key)
          ∙ ap (λ keys. set.contains keys key)
          (settles.keys_are ∙ ap (λ keys. set_after keys settled) closes.closes.keys ∙ sym (set_after-append (keys_set opening) front settled))
          ∙ (sets_and_tests_agree (is_in opening) (keys_set opening) (front ++ settled) (set.contains-from_list_nat opening)).0 key

      changed_are : IsPermutation (changing_in as_made) ended.changed.items
      changed_are =
          subst (IsPermutation (changing_in as_made))
          (ap (λ (ns : List ℕ). ns ++ map (number_of_entry (map (λ (hand : HandedIn). hand.made) handed))
          (filter is_changing ended.settled.items)) (flat_map-map (λ (list : List ℕ). list) (λ (hand : Hand). hand.changed.items) hands)
          ∙ ap (λ (all : List (List ℕ)). flat_map (λ (hand : Hand). hand.changed.items) hands
          ++ map (number_of_entry all) (filter is_changing ended.settled.items)) (sym lists)
          ∙ sym settles.changed_is)
          (changing_is (asked_of records) round.plan.fast closes.halted closing handed changed closes.closes have_worked
          ended.settled.items)

      -- the round is one of a chain, and leaves its keys and what its workers didn't come to
      pub ends_round : rests ≡ flat_map (rest_of left) workers → 0 < length left
          → AddsRound records round.plan round.facts.keys left ended
      ends_round are some =
          let left_is : ended.left.items ≡ flat_map (rest_of left) workers = settles.left_is ∙ are in
          let begun : numbers_in (lists_in ended.made) ≡ flat_map begun_by workers = ap numbers_in settles.made_is ∙ begun_all in
          let tiles = done.tiles in
          record {
            round = subst (λ (keys : List ℕ). IsRunRound (asked_of records) round.plan.fast (is_in keys) (round_ended ended)) same_keys
                (subst (IsRunRound (asked_of records) round.plan.fast (is_in opening)) same_round
                (round_is (asked_of records) round.plan.fast closes.halted closing handed changed ended.settled.items closes.closes
                have_worked settled_are));
            keys_are = λ key. keys_after key
                ∙ ap (λ (keys : List ℕ). members_after (is_in keys) (entries_of as_made) key) same_keys
                ∙ ap (λ (r : RoundEnd). members_after (is_in round.facts.keys) (entries_of r) key) same_round;
            rising = settles.rising;
            left_are = subst (λ (list : List ℕ). IsPermutation list (numbers_in (lists_in ended.made) ++ ended.left.items)) tiles
                (subst (IsPermutation (flat_map (part_of left) workers))
                ((λ i. sym begun i ++ sym left_is i))
                (begun_and_rest (part_of left) begun_by (rest_of left) workers splits));
            fewer = omega (
              arith,
              ap length left_is,
              ap length tiles,
              rest-less (part_of left) begun_by (rest_of left) workers splits (omega (arith, some, ap length tiles)),
            );
            changing = subst (λ (r : RoundEnd). IsPermutation (changing_in r) ended.changed.items) same_round changed_are;
            workers = ap length settles.made_is ∙ length-map hands (λ (hand : Hand). hand.made.items)
                ∙ length-map workers (λ (worker : Worker). worker.hand) ∙ count ∙ planned;
            lone = λ one.
                let single : round.facts.seats ≡ 1 = planned ∙ one in
                leaves_lone records round left workers closing rests ended single (count ∙ single) done
                (subst (All (ClosesLedger closing)) (sym same_passes)
                (closes.closes.alone (ap (λ (r : RoundValue). r.facts.seats) closes.halts.round ∙ single)))
                closes.closes.rising settles are;
          }
