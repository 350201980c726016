use Rattle.std.proofs.Common.{◌++◌, sym, ◌∙◌}
use Rattle.step_core.specs.Plain.{live_class_keys}
use Rattle.step_core.proofs.tables.Live.{keys_before-none, keys_before-more}
use Rattle.step_core.proofs.reading.collected.Goals as goal

pub loop-class-init : goal.loop-class-init
loop-class-init c = c.in_ok-keys.ensures.items ∙ sym (keys_before-none c.args.words.now)

pub loop-class-preserved : goal.loop-class-preserved
loop-class-preserved c =
    c.in_ok-push_class.ensures
    ∙ (λ i. c.loop-class.invariant i ++ live_class_keys c.args.words.now c.loop-class.class)
    ∙ sym (keys_before-more c.args.words.now c.loop-class.class)
