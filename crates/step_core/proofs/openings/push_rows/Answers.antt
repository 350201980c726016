use Rattle.std.proofs.Common.{sym, ◌∙◌}
use Rattle.step_core.proofs.tables.Buckets.{class_keys-part}
use Rattle.step_core.proofs.tables.Rows.{rows_of-written, rows_of-none, bucket_start-first}
use Rattle.step_core.proofs.openings.push_rows.Goals as goal

pub loop-bucket-init : goal.loop-bucket-init
loop-bucket-init c = record {
  start = bucket_start-first c.args.exponent c.args.keys.now;
  words = rows_of-none c.args.words.now.items c.args.exponent c.args.keys.now;
}

pub loop-bucket-preserved : goal.loop-bucket-preserved
loop-bucket-preserved c =
    let keys = c.args.keys.now in
    let loop = c.loop-bucket in
    let next = c.bucket_end-end in
    record {
      start = next.ensures.end;
      words = c.in_ok-push_row.ensures
          ∙ rows_of-written c.args.words.now.items loop.words.items c.args.exponent keys loop.bucket _ loop.invariant.words
          (sym (class_keys-part c.args.exponent keys loop.bucket loop.first next.result loop.invariant.start next.ensures.end
          next.ensures.behind));
    }
