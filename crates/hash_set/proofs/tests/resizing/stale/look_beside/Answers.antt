use Rattle.std.proofs.Common.{◌≡◌, List, [], ◌∷◌, ◌++◌, sym, ap, ◌∙◌, subst, arith}
use Rattle.cells.specs.Ends.{AreAllPasses}
use Rattle.cells.specs.Tokens.{PassValue}
use Rattle.hash_set.specs.Tests.{KeepEach}
use Rattle.cells.proofs.laws.Fresh.{written_back}
use Rattle.hash_set.proofs.laws.Playing.{all_with_last}
use Rattle.hash_set.proofs.tests.resizing.stale.look_beside.Goals as goal

-- the reader and the others are all of the round
pub returns : goal.returns
returns c =
    let round = c.args.round.now in
    let items = c.args.passes.items in
    let others = c.pop.new.self.items in
    let new = c.look_often-looks.new.others in
    let reader = c.in-Some.reader in
    let after = c.look_often-looks.new.reader in
    let split : items ≡ others ++ reader ∷ [] = c.in-Some.ensures.items in
    let same : c.as_mut_slice.result.now ≡ others = c.as_mut_slice.ensures.value in
    let kept : KeepEach round others new =
    subst (λ (old : List PassValue). KeepEach round old new) same c.look_often-looks.ensures.others in
    let back = written_back others new c.pop.new.self.len kept.long (omega (arith, c.pop.new.self.ok)) in
    let pushed : c.push.new.self.items ≡ new ++ after ∷ [] =
    c.in_ok-push.ensures.items ∙ ap (λ (list : List PassValue). list ++ after ∷ []) back in
    subst (AreAllPasses round) (sym pushed)
    (all_with_last round others new reader after (subst (AreAllPasses round) split c.requires.passes.all) kept c.look_often-looks.ensures.reader)
