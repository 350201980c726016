use Rattle.std.proofs.Common.{◌≡◌, List, length, sym, ap, ◌∙◌, subst, arith}
use Rattle.cells.specs.Ends.{AreAllPasses}
use Rattle.cells.specs.Tokens.{PassValue}
use Rattle.cells.proofs.laws.Fresh.{EachStays, still_all, written_back}
use Rattle.buckets.proofs.tests.threads.resize_together.Goals as goal

-- each is still of the round, and that of its number
pub returns : goal.returns
returns g c =
    let round = c.args.round.now in
    let items = c.args.passes.items in
    let new = c.resize_each.new.passes in
    let same : c.as_mut_slice.result.now ≡ items = c.as_mut_slice.ensures.value in
    let each = c.resize_each.ensures in
    let long : length new ≡ length items = each.long ∙ ap length same in
    record {
      passes = subst (AreAllPasses round) (sym (written_back items new c.args.passes.len long (omega (arith, c.args.passes.ok))))
          (still_all round items new
          (subst (λ (old : List PassValue). EachStays round old new) same (record {
            long = each.long;
            tables = each.tables;
            facts = each.facts;
            numbers = each.numbers;
          }))
          c.requires.passes);
    }
