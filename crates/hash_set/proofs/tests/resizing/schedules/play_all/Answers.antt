use Rattle.std.proofs.Common.{◌≡◌, List, sym, subst, arith}
use Rattle.cells.specs.Tokens.{PassValue}
use Rattle.hash_set.specs.Tests.{AreIdle, KeepEach}
use Rattle.cells.proofs.laws.Fresh.{written_back}
use Rattle.hash_set.proofs.laws.Playing.{all_idle}
use Rattle.hash_set.proofs.tests.resizing.schedules.play_all.Goals as goal

-- each is idle still
pub returns : goal.returns
returns c =
    let round = c.args.round.now in
    let items = c.args.passes.items in
    let new = c.play.new.passes in
    let same : c.as_mut_slice.result.now ≡ items = c.as_mut_slice.ensures.value in
    let kept : KeepEach round items new = subst (λ (old : List PassValue). KeepEach round old new) same c.play.ensures in
    subst (AreIdle round) (sym (written_back items new c.args.passes.len kept.long (omega (arith, c.args.passes.ok))))
    (all_idle round items new (omega (arith, c.requires.some)) kept c.requires.passes)
