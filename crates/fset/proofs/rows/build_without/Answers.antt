use Rattle.std.proofs.Common.{◌≡◌, ℕ, ◌+◌, ◌-◌, List, slice_range, sym, ◌∙◌, subst, arith}
use Rattle.std.proofs.lemmas.List.Edits.{length-remove}
use Rattle.std.specs.List.{remove}
use Rattle.step_core.specs.declared.format.TheConstants.{FIRST_KEY}
use Rattle.cells.specs.Frames.{after_reads}
use Rattle.cells.specs.Known.{keys_at}
use Rattle.cells.specs.Steps.{Writes}
use Rattle.cells.specs.Tokens.{BlockValue}
use Rattle.fset.specs.Rows.{Builds}
use Rattle.fset.proofs.laws.Copying.{writes_keys}
use Rattle.fset.proofs.laws.Built.{started_keys, row_refused, row_room, without_built}
use Rattle.fset.proofs.rows.build_without.Goals as goal

-- the row with one key less fits into one draw
pub start_row-requires-clause-fits : goal.start_row-requires-clause-fits
start_row-requires-clause-fits c =
    let room = row_room c.args.pass.now.view c.args.seen.now c.sound.ensures.view c.requires.knows in omega (arith, room)

-- its draw was refused
pub returns-in_default-clause-full : goal.returns-in_default-clause-full
returns-in_default-clause-full c =
    let old = c.args.pass.now.view in
    let keys = keys_at old c.args.seen.now.at in
    let fewer = length-remove keys c.args.before (omega (arith, c.requires.within, c.requires.knows.count)) in
    row_refused (remove keys c.args.before) (c.args.seen.now.count - 1) old c.start_row.new.pass.view
    (omega (arith, fewer, c.requires.knows.count)) c.in_default.ensures.full

-- the others stand in it
pub returns-clause-answer : goal.returns-clause-answer
returns-clause-answer c =
    let old = c.args.pass.now.view in
    let at = c.args.seen.now.at in
    let keys = keys_at old at in
    let block = c.in-Ok.block in
    let v1 = c.start_row.new.pass.view in
    let v2 = c.copy_keys.new.pass.view in
    let v3 = c.copy_keys-2.new.pass.view in
    let before = c.args.before in
    let count = c.args.seen.now.count in
    let copied : c.copy_keys.new.block ≡ block = c.copy_keys.ensures.block in
    let started = started_keys (count - 1) at block old v1 c.in-Ok.ensures.answer in
    let known : keys_at v2 at ≡ keys =
    writes_keys block.at FIRST_KEY at (slice_range (keys_at v1 at) 0 before) (after_reads (before - 0) v1) v2 c.copy_keys.ensures.writes
    ∙ started in
    subst (λ (last : BlockValue). Builds (remove keys before) last old v3) (sym (c.copy_keys-2.ensures.block ∙ copied))
    (without_built keys before count c.requires.knows.count block old v1 v2 (omega (arith, c.requires.within))
    (subst (λ (list : List ℕ). Writes block.at FIRST_KEY (slice_range list 0 before) (after_reads (before - 0) v1) v2) started
    c.copy_keys.ensures.writes)
    v3 c.requires.within c.in-Ok.ensures.answer
    (subst (λ (z : BlockValue × List ℕ). Writes z.0.at (FIRST_KEY + before) (slice_range z.1 (before + 1) count)
    (after_reads (count - (before + 1)) v2) v3) (λ i. (copied i, known i)) c.copy_keys-2.ensures.writes))
