use Rattle.std.proofs.Common.{length, ◌∙◌, arith}
use Rattle.step_core.proofs.tables.Rows.{generation_front-more, row_start-place}
use Rattle.step_core.proofs.openings.push_generation.Goals as goal

pub loop-bucket-preserved : goal.loop-bucket-preserved
loop-bucket-preserved c =
    let old = c.args.words.now.items in
    let loop = c.loop-bucket in
    record {
      start = c.bucket_end-first.ensures.end;
      words = c.in_ok-push.ensures.items
          ∙ generation_front-more old loop.words.items (length old) c.args.exponent c.args.keys.now loop.bucket _ loop.invariant.words
          (omega (arith, row_start-place (length old) c.args.exponent c.args.keys.now loop.bucket loop.first loop.invariant.start));
    }
