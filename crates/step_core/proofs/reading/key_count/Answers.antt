use Rattle.std.proofs.Common.{◌+◌, length, sym, ap, arith}
use Rattle.step_core.proofs.tables.Live.{keys_before-none}
use Rattle.step_core.proofs.tables.LiveCount.{length-keys_before-more, collected_few}
use Rattle.step_core.proofs.reading.key_count.Goals as goal

pub loop-class-init : goal.loop-class-init
loop-class-init c = sym (ap length (keys_before-none c.args.words.now))

pub overflow_add-count : goal.overflow_add-count
overflow_add-count c =
    let words = c.args.words.now in
    let class = c.loop-class.class in
    omega (
      arith,
      length-keys_before-more words class,
      c.class_count-count.ensures,
      collected_few words c.requires (class + 1),
    )

pub loop-class-preserved : goal.loop-class-preserved
loop-class-preserved c =
    omega (arith, length-keys_before-more c.args.words.now c.loop-class.class, c.class_count-count.ensures)
