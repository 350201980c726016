use Rattle.std.proofs.Common.{◌≡◌, ◌+◌, ◌∷◌, ◌++◌, [], length, map, option_to_list, take, append-nil, sym, ap, ◌∙◌, subst, arith}
use Rattle.std.proofs.lemmas.List.{length-map, length-take-le, map_push, take_more}
use Rattle.std.specs.FinSet as set
use Rattle.chain.specs.Workers.{AreSettled}
use Rattle.set_model.specs.History.{set_after}
use Rattle.dedup.specs.Records.{asked_of}
use Rattle.dedup.specs.Settling.{SettlesHand, handed_in}
use Rattle.dedup.proofs.LawSettling.{settled_more}
use Rattle.dedup.proofs.settle.settle.Goals as goal
use Rattle.dedup.proofs.settle.settle.Goals.{in-Some+in_ok-push, in_default}

-- the next hand is settled
pub loop-who-preserved : goal.loop-who-preserved
loop-who-preserved c =
    let asked = asked_of c.args.records.now in
    let hands = c.args.hands.now in
    let who = c.loop-who.who in
    let hand = c.index-hands-who.result in
    let before = map handed_in (take who hands) in
    let items = c.loop-who.settled.items in
    let more = option_to_list c.in_ok-entry.field-0 in
    let long : length before ≡ who =
    length-map (take who hands) handed_in ∙ length-take-le who hands (omega (arith, c.loop-who-test.true)) in
    let step = settled_more asked before (handed_in hand) c.args.plain.now c.loop-who.plain c.settle_last.new.plain items more
    c.loop-who.invariant.settled c.loop-who.invariant.after
    (subst (λ w. SettlesHand asked w (handed_in hand) c.loop-who.plain c.settle_last.new.plain more) (sym long) c.in_ok-entry.ensures) in
    let longer : map handed_in (take (who + 1) hands) ≡ before ++ handed_in hand ∷ [] =
    ap (map handed_in) (take_more hands who hand c.loop-who-test.true ∙ ap (λ h. take who hands ++ h ∷ []) (sym c.index-hands-who.is))
    ∙ map_push handed_in (take who hands) hand in
    let now : c.match-branch-2.settled.items ≡ items ++ more = elim c.match-branch-2.branch [
      | in-Some+in_ok-push w ↦
          ap (λ v. v.items) w.settled-is ∙ w.in_ok-push.ensures.items ∙ ap (λ o. items ++ option_to_list o) (sym w.in-Some.is)
      | in_default w ↦
          ap (λ v. v.items) w.settled-is ∙ sym (append-nil items) ∙ ap (λ o. items ++ option_to_list o) (sym w.in_default.is)
    ] in
    let before_set = set.contains c.args.plain.now in
    record {
      settled = subst (λ handed. AreSettled asked handed before_set c.match-branch-2.settled.items) (sym longer)
          (subst (AreSettled asked (before ++ handed_in hand ∷ []) before_set) (sym now) step.0);
      after = step.1 ∙ ap (set_after c.args.plain.now) (sym now);
    }
