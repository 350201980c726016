use Rattle.std.proofs.Common.{◌-◌, ℕ, List, [], ◌∷◌, ◌++◌, sym, ap, ◌∙◌, append_assoc}
use Rattle.std.specs.List.{range_with_len}
use Rattle.claims.proofs.LawPlaces.{places_before-more}
use Rattle.claims.proofs.tests.worker.do_places.Goals as goal

-- one place more is done
pub loop-place-preserved : goal.loop-place-preserved
loop-place-preserved c =
    let from = c.args.claim.from in
    let place = c.loop-place.place in
    let old = c.args.done.now.items in
    c.in_ok-push.ensures.items
    ∙ ap (λ (list : List ℕ). list ++ place ∷ []) c.loop-place.invariant
    ∙ append_assoc old (range_with_len from (place - from)) (place ∷ [])
    ∙ ap (λ (list : List ℕ). old ++ list) (sym (places_before-more from place c.loop-place.auto.place))
