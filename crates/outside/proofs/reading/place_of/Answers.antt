use Rattle.std.proofs.Common.{◌≡◌, true, get_or, List, ℕ, ap, sym, ◌∙◌, arith, bytes_eq}
use Rattle.outside.proofs.LawFiles.{first_named, none_named, named}
use Rattle.outside.proofs.reading.place_of.Goals as goal

-- the first file of the name
pub returns-then-eq : goal.returns-then-eq
returns-then-eq c =
    let file = c.index-files-place.result in
    let here : named c.args.name.now (get_or c.args.files.now c.loop-place.place file) ≡ true =
    sym (ap (named c.args.name.now) c.index-files-place.is)
    ∙ ap (λ (text : List ℕ). bytes_eq text c.args.name.now) (sym c.as_str.ensures.value)
    ∙ sym c.if-eq.ensures in
    first_named c.args.files.now c.args.name.now c.loop-place.place file c.loop-place-test.true
    (λ k below. c.loop-place.invariant k file below) here

-- no file has the name
pub returns : goal.returns
returns c =
    none_named c.args.files.now c.args.name.now (λ k d below. c.loop-place.invariant k d (omega (arith, c.loop-place-test.false)))
