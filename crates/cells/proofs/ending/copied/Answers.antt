use Rattle.std.proofs.Common.{ℕ, List, [], ◌∷◌, ◌++◌, sym, ap, ◌∙◌, arith}
use Rattle.std.specs.Mem.Slots.{slots_items}
use Rattle.cells.proofs.laws.Ends.{take-more_at}
use Rattle.cells.proofs.ending.copied.Goals as goal

-- one word more is there
pub loop-at-preserved : goal.loop-at-preserved
loop-at-preserved c =
    let words = slots_items c.args.closed.now.words in
    let at = c.loop-at.at in (
      c.in-Ok.ensures.items
          ∙ ap (λ (list : List ℕ). list ++ c.word.result ∷ []) c.loop-at.invariant.0
          ∙ sym (take-more_at words at c.word.result c.word.ensures),
      omega (arith, c.loop-at.invariant.1, c.in-Ok.ensures.capacity),
    )
