use Rattle.std.proofs.Common.{sym, ap, ◌∙◌, subst}
use Rattle.set_model.specs.Keys.{is_in}
use Rattle.step_core.specs.Rising.{ChangesKeys}
use Rattle.step_core.specs.declared.views.PassView.{PassView}
use Rattle.cells.specs.Known.{keys_at, row_at}
use Rattle.fset.proofs.laws.Reading.{seen_content-plain, seen_keys-plain}
use Rattle.fset.proofs.laws.Turning.{changes_keys}
use Rattle.fset.proofs.tests.turns.built.Goals as goal

-- the call changes the content, by the search for its key
pub build_changed-block-requires-clause-changes : goal.build_changed-block-requires-clause-changes
build_changed-block-requires-clause-changes c =
    let old = c.args.pass.now.view in
    let new = c.find-found.new.pass.view in
    let seen = c.args.seen.now in
    let plain = c.requires.knows.op ∙ c.sound.ensures.view.no_op seen.at (row_at old.known seen.at) c.requires.knows.known in
    let found = c.find-found.ensures.answer ∙ seen_content-plain old seen c.args.key plain
    ∙ sym (ap (λ (view : PassView). is_in (keys_at view seen.at) c.args.key) c.find-found.ensures.view) in
    subst (ChangesKeys c.args.call c.args.key) (sym (seen_keys-plain new seen plain))
    (changes_keys c.args.call c.args.key (keys_at new seen.at) c.find-found.result c.requires.call found (sym c.if-not-answer.ensures))
