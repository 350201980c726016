-- The refused calls of the hands so far are settled, and those of one hand more.
use Rattle.std.proofs.Common.{◌≡◌, ◌+◌, ◌-◌, ◌<◌, ℕ, Bool, true, List, [], ◌∷◌, ◌++◌, append_assoc, append-nil, length, map, slice_index, slice_index_or, refl, sym, ap, ◌∙◌, subst, arith}
use Rattle.std.specs.FinSet as set
use Rattle.std.specs.List.{All}
use Rattle.std.specs.Ordering.{nat_cmp}
use Rattle.std.proofs.Math.ListN.{get_or-map}
use Rattle.std.proofs.lemmas.List.{length-map, map-append}
use Rattle.std.proofs.lemmas.List.Elements.{All-map}
use Rattle.std.proofs.lemmas.Simd.{map-map}
use Rattle.set_model.specs.History.{IsLegal, members_after, set_after}
use Rattle.set_model.specs.declared.entry.Entry.{Entry}
use Rattle.set_model.proofs.LawHistory.{IsLegal-append, sets_and_tests_agree, set_after-append}
use Rattle.chain.specs.Chain.{Asked, numbers_by}
use Rattle.chain.specs.Changing.{is_insert}
use Rattle.chain.specs.Workers.{AreSettled, HandedIn, RefusedCall, call_answered, refused_by, refused_from}
use Rattle.chain.proofs.Recorded.{asks_insert}
use Rattle.chain.proofs.Refusing.{hand_at, no_hand, settled_answer}
use Rattle.idfiles.specs.declared.id_record.IdRecord.{IdRecord}
use Rattle.dedup.specs.Records.{asked_of}
use Rattle.dedup.specs.Settling.{CanSettle, HasCall, SettlesHand, handed_in, lists_of}
use Rattle.dedup.specs.declared.worker.Hand.{Hand}
use Rattle.dedup.proofs.LawRecords.{ask_inserts}

-- a hand more has its refused call behind the others
refused_from-push : (asked : List Asked) (first : ℕ) (hands : List HandedIn) (hand : HandedIn)
    → refused_from asked first (hands ++ hand ∷ []) ≡ refused_from asked first hands ++ refused_by asked (first + length hands) hand
refused_from-push asked first [] hand =
    append-nil (refused_by asked first hand)
    ∙ ap (λ who. refused_by asked who hand) (let same : first ≡ first + 0 = omega arith in same)
refused_from-push asked first (other ∷ hands) hand =
    let same : first + 1 + length hands ≡ first + length (other ∷ hands) = omega arith in
    ap (λ rest. refused_by asked first other ++ rest)
    (refused_from-push asked (first + 1) hands hand
    ∙ ap (λ who. refused_from asked (first + 1) hands ++ refused_by asked who hand) same)
    ∙ sym (append_assoc (refused_by asked first other) (refused_from asked (first + 1) hands)
    (refused_by asked (first + length (other ∷ hands)) hand))

-- what a set has after a history, its test has
contains-after : (keys : set.FinSet nat_cmp) (history : List Entry)
    → set.contains (set_after keys history) ≡ members_after (set.contains keys) history
contains-after keys history = λ i key. (sets_and_tests_agree (set.contains keys) keys history (λ k. refl)).0 key i

-- no hand is settled by no entry
pub settled_none : (asked : List Asked) (keys : set.FinSet nat_cmp) → AreSettled asked [] (set.contains keys) []
settled_none asked keys = record { calls = refl; legal = tt }

-- one hand more is settled
pub settled_more : (asked : List Asked) (hands : List HandedIn) (hand : HandedIn) (old now new : set.FinSet nat_cmp)
    (entries more : List Entry) → AreSettled asked hands (set.contains old) entries → now ≡ set_after old entries
    → SettlesHand asked (length hands) hand now new more
    → AreSettled asked (hands ++ hand ∷ []) (set.contains old) (entries ++ more) × (new ≡ set_after old (entries ++ more))
settled_more asked hands hand old now new entries more so_far is settles = (
  record {
    calls = map-append call_answered entries more
        ∙ (λ i. so_far.calls i ++ settles.calls i)
        ∙ sym (refused_from-push asked 0 hands hand
        ∙ ap (λ who. refused_from asked 0 hands ++ refused_by asked who hand)
        (let same : 0 + length hands ≡ length hands = omega arith in same));
    legal = (IsLegal-append (set.contains old) entries more).1 (
      so_far.legal,
      subst (λ members. IsLegal members more) (ap set.contains is ∙ contains-after old entries) settles.legal,
    );
  },
  settles.after ∙ ap (λ keys. set_after keys more) is ∙ sym (set_after-append old entries more),
)

-- each settled entry is an insert that its worker began
pub settled_calls : (records : List IdRecord) (hands : List Hand) (members : ℕ → Bool) (settled : List Entry)
    → All (CanSettle records) hands → AreSettled (asked_of records) (map handed_in hands) members settled
    → All (HasCall hands) settled
settled_calls records hands members settled can are k d within =
    let handed = map handed_in hands in
    let entry = slice_index_or settled k d in
    let its = settled_answer (asked_of records) handed members settled are k d within in
    let last = hand_at handed entry.who in
    let lists : lists_of hands ≡ map (λ (hand : HandedIn). hand.made) handed =
    sym (map-map (λ (hand : HandedIn). hand.made) handed_in hands) in
    let numbers : numbers_by (lists_of hands) entry.who ≡ last.made =
    ap (λ all. numbers_by all entry.who) lists ∙ get_or-map (λ (hand : HandedIn). hand.made) handed entry.who no_hand in
    let some = All-map (λ (hand : HandedIn). hand.refused ≡ true → 0 < length hand.made) handed_in hands
    (λ j e less. (can j e less).some) entry.who no_hand its.worker its.refused in
    let serial : entry.serial ≡ length last.made - 1 = ap (λ (call : RefusedCall). call.serial) its.same in
    record {
      insert = ap is_insert (ap (λ (call : RefusedCall). call.asked.call) its.same
          ∙ asks_insert (asked_of records) (slice_index last.made (length last.made - 1)) (ask_inserts records));
      begun = record {
        worker = omega (arith, its.worker, length-map hands handed_in, length-map hands (λ (hand : Hand). hand.made.items));
        begun = omega (arith, serial, some, ap length numbers);
      };
    }
