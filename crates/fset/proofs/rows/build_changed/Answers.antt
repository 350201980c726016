use Rattle.std.proofs.Common.{ℕ, List, sym, subst}
use Rattle.std.proofs.lemmas.Result.{IfErr-weaker, IfOk-weaker}
use Rattle.step_core.specs.Rising.{ChangesKeys, keys_after_call}
use Rattle.step_core.specs.declared.views.PassView.{PassView}
use Rattle.cells.specs.Known.{keys_at}
use Rattle.cells.specs.Tokens.{BlockValue}
use Rattle.fset.specs.Content.{loads_to_find}
use Rattle.fset.specs.Rows.{Builds, RefusesRow, changed_keys}
use Rattle.fset.proofs.laws.Built.{built_after_reads, refused_after_reads}
use Rattle.fset.proofs.laws.Reading.{seen_keys_are}
use Rattle.fset.proofs.rows.build_changed.Goals as goal

-- no operation is published yet, so the content is the keys
pub build_at-requires-clause-changes : goal.build_at-requires-clause-changes
build_at-requires-clause-changes c =
    let old = c.args.pass.now.view in
    let loads = loads_to_find (keys_at old c.args.seen.now.at) c.args.key in
    subst (ChangesKeys c.args.call c.args.key) (seen_keys_are loads old c.place_among-place.new.pass.view c.args.seen.now
    c.sound.ensures.view c.requires.knows c.place_among-place.ensures.view) c.requires.changes

-- the row is built
pub returns-clause-answer : goal.returns-clause-answer
returns-clause-answer c =
    let old = c.args.pass.now.view in
    let new = c.build_at.new.pass.view in
    let loads = loads_to_find (keys_at old c.args.seen.now.at) c.args.key in
    let same = seen_keys_are loads old c.place_among-place.new.pass.view c.args.seen.now c.sound.ensures.view c.requires.knows
    c.place_among-place.ensures.view in
    IfOk-weaker c.build_at.result _ (λ (block : BlockValue). Builds (changed_keys c.args.call c.args.key old c.args.seen.now) block old new)
    (λ (block : BlockValue) builds. built_after_reads (changed_keys c.args.call c.args.key old c.args.seen.now) block loads old new
    (subst (λ (z : PassView × List ℕ). Builds (keys_after_call c.args.call c.args.key z.1) block z.0 new)
    (λ i. (c.place_among-place.ensures.view i, sym same i)) builds))
    c.build_at.ensures.answer

-- or refused
pub returns-clause-full : goal.returns-clause-full
returns-clause-full c =
    let old = c.args.pass.now.view in
    let new = c.build_at.new.pass.view in
    let loads = loads_to_find (keys_at old c.args.seen.now.at) c.args.key in
    let same = seen_keys_are loads old c.place_among-place.new.pass.view c.args.seen.now c.sound.ensures.view c.requires.knows
    c.place_among-place.ensures.view in
    IfErr-weaker c.build_at.result _ (λ _. RefusesRow (changed_keys c.args.call c.args.key old c.args.seen.now) old new)
    (λ _ refuses. refused_after_reads (changed_keys c.args.call c.args.key old c.args.seen.now) loads old new
    (subst (λ (z : PassView × List ℕ). RefusesRow (keys_after_call c.args.call c.args.key z.1) z.0 new)
    (λ i. (c.place_among-place.ensures.view i, sym same i)) refuses))
    c.build_at.ensures.full
