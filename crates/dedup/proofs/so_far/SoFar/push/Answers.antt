use Rattle.std.proofs.Common.{◌≡◌, ◌∷◌, ◌++◌, [], ap, ◌∙◌}
use Rattle.dedup.specs.Rounds.{round_of, rounds_of}
use Rattle.dedup.proofs.LawRounds.{rounds_of-push}
use Rattle.dedup.proofs.so_far.SoFar.push.Goals as goal

-- one of each is one round more
pub returns-clause-round : goal.returns-clause-round
returns-clause-round c =
    let inside = c.self.inside in
    let closings : c.push.new.self.items ≡ inside.closings.items ++ c.args.closing ∷ [] =
    c.in_ok-push.ensures.items ∙ ap (λ all. all ++ c.args.closing ∷ []) c.reserve.ensures.items in
    let settled : c.push-2.new.self.items ≡ inside.settled.items ++ c.args.settled ∷ [] =
    c.in_ok-push-2.ensures.items ∙ ap (λ all. all ++ c.args.settled ∷ []) c.reserve-2.ensures.items in
    let made : c.push-3.new.self.items ≡ inside.made.items ++ c.args.made ∷ [] =
    c.in_ok-push-3.ensures.items ∙ ap (λ all. all ++ c.args.made ∷ []) c.reserve-3.ensures.items in
    (λ i. rounds_of (closings i) (settled i) (made i))
    ∙ rounds_of-push inside.closings.items inside.settled.items inside.made.items c.args.closing c.args.settled c.args.made
    c.self.invariant.settled c.self.invariant.made
    ∙ ap (λ rounds. rounds ++ round_of c.args.closing c.args.settled c.args.made ∷ []) c.self.view_is
