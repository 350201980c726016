use Rattle.std.proofs.Common.{◌≡◌, List, length, sym, ap, ◌∙◌, subst, arith}
use Rattle.cells.specs.Tokens.{PassValue}
use Rattle.hash_set.specs.Tests.{AreIdle}
use Rattle.cells.proofs.laws.Fresh.{written_back}
use Rattle.hash_set.proofs.laws.Idle.{EachIdle, first_plan, still_idle}
use Rattle.rounds.proofs.tests.large.call_together.Goals as goal

-- each was left idle
pub returns-clause-passes : goal.returns-clause-passes
returns-clause-passes g c =
    let round = c.args.round.now in
    let items = c.args.passes.items in
    let new = c.call_each.new.passes in
    let same : c.as_mut_slice.result.now ≡ items = c.as_mut_slice.ensures.value in
    let each = c.call_each.ensures in
    let long : length new ≡ length items = each.long ∙ ap length same in
    subst (AreIdle round) (sym (written_back items new c.args.passes.len long (omega (arith, c.args.passes.ok))))
    (still_idle round items new (first_plan round items c.requires.passes.idle (omega (arith, c.requires.some.0)))
    (subst (λ (old : List PassValue). EachIdle round old new) same (record {
      long = each.long;
      tables = each.tables;
      facts = each.facts;
      flights = each.flights;
      numbers = each.numbers;
    }))
    c.requires.passes)
