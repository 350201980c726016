use Rattle.std.proofs.Common.{◌∙◌, ap₂}
use Rattle.std.proofs.lemmas.Result.{IfOk-weaker}
use Rattle.clap.specs.Words.{with_rule}
use Rattle.dedup.specs.Words.{dedup_app}
use Rattle.dedup.proofs.words.dedup_command.Goals as goal

-- the five arguments are those of the command
pub returns : goal.returns
unfolding dedup_app
returns c =
    let workers = c.in_ok-arg.ensures.shape c.option.ensures.local ∙ ap₂ with_rule c.new.ensures.app c.option.ensures.rule in
    let way = c.in_ok-arg-2.ensures.shape c.option-2.ensures.local ∙ ap₂ with_rule workers c.option-2.ensures.rule in
    let room = c.in_ok-arg-3.ensures.shape c.option-3.ensures.local ∙ ap₂ with_rule way c.option-3.ensures.rule in
    let list = c.in_ok-arg-4.ensures.shape c.option-4.ensures.local ∙ ap₂ with_rule room c.option-4.ensures.rule in
    IfOk-weaker c.arg-5.result _ _
    (λ command added. added.shape c.files.ensures.local ∙ ap₂ with_rule list c.files.ensures.rule) c.arg-5.ensures
