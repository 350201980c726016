use Rattle.std.proofs.Common.{◌≡◌, List, map, sym, subst}
use Rattle.std.specs.FinSet as set
use Rattle.std.specs.List.{All}
use Rattle.set_model.specs.declared.entry.Entry.{Entry}
use Rattle.chain.specs.Workers.{AreSettled}
use Rattle.dedup.specs.Records.{asked_of}
use Rattle.dedup.specs.Settling.{HasCall, handed_in}
use Rattle.dedup.specs.declared.worker.Hand.{Hand}
use Rattle.dedup.proofs.LawSettling.{settled_calls}
use Rattle.dedup.proofs.one_round.settled_round.Goals as goal

-- each settled entry is an insert that its worker began
pub append_changed-requires : goal.append_changed-requires
append_changed-requires c =
    let records = c.args.records.now in
    let hands : List Hand = c.args.hands.items in
    let entries : List Entry = c.in_ok-settled.settled.items in
    let same : c.deref-3.result.now ≡ entries = c.deref-3.ensures.value in
    let of_hands : c.deref-4.result.now ≡ hands = c.deref-4.ensures.value in
    let are : AreSettled (asked_of records) (map handed_in hands) (set.contains c.from_sorted-plain.result) entries =
    subst (λ (hs : List Hand). AreSettled (asked_of records) (map handed_in hs) (set.contains c.from_sorted-plain.result) entries)
    c.deref.ensures.value c.in_ok-settled.ensures.settled in
    let calls : All (HasCall hands) entries =
    settled_calls records hands (set.contains c.from_sorted-plain.result) entries c.requires.hands are in
    subst (λ (hs : List Hand). All (HasCall hs) c.deref-3.result.now) (sym of_hands)
    (subst (λ (es : List Entry). All (HasCall hands) es) (sym same) calls)
