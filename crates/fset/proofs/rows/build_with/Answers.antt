use Rattle.std.proofs.Common.{◌≡◌, ℕ, ◌+◌, ◌-◌, List, [], ◌∷◌, slice_range, sym, ◌∙◌, subst, arith}
use Rattle.step_core.specs.Rising.{with_key}
use Rattle.step_core.specs.declared.format.TheConstants.{FIRST_KEY}
use Rattle.step_core.proofs.lists.Places.{length-with_key}
use Rattle.cells.specs.Frames.{after_reads}
use Rattle.cells.specs.Known.{keys_at}
use Rattle.cells.specs.Steps.{Writes}
use Rattle.cells.specs.Tokens.{BlockValue}
use Rattle.fset.specs.Rows.{Builds}
use Rattle.fset.proofs.laws.Copying.{writes_keys}
use Rattle.fset.proofs.laws.Built.{started_keys, row_refused, row_room, with_built}
use Rattle.fset.proofs.rows.build_with.Goals as goal

-- the row with one key more fits into one draw
pub overflow_add-seen : goal.overflow_add-seen
overflow_add-seen c =
    let room = row_room c.args.pass.now.view c.args.seen.now c.sound.ensures.view c.requires.knows in omega (arith, room)

pub start_row-requires-clause-fits : goal.start_row-requires-clause-fits
start_row-requires-clause-fits c =
    let room = row_room c.args.pass.now.view c.args.seen.now c.sound.ensures.view c.requires.knows in omega (arith, room)

-- its draw was refused
pub returns-in_default-clause-full : goal.returns-in_default-clause-full
returns-in_default-clause-full c =
    let keys = keys_at c.args.pass.now.view c.args.seen.now.at in
    row_refused (with_key c.args.key keys) (c.args.seen.now.count + 1) c.args.pass.now.view c.start_row.new.pass.view
    (omega (arith, length-with_key c.args.key keys c.requires.absent, c.requires.knows.count)) c.in_default.ensures.full

-- the key stands among the others
pub returns-clause-answer : goal.returns-clause-answer
returns-clause-answer c =
    let old = c.args.pass.now.view in
    let at = c.args.seen.now.at in
    let keys = keys_at old at in
    let block = c.in-Ok.block in
    let v1 = c.start_row.new.pass.view in
    let v2 = c.copy_keys.new.pass.view in
    let v3 = c.write.new.pass.view in
    let v4 = c.copy_keys-2.new.pass.view in
    let before = c.args.before in
    let count = c.args.seen.now.count in
    let copied : c.copy_keys.new.block ≡ block = c.copy_keys.ensures.block in
    let put : c.write.new.block ≡ block = c.write.ensures.block ∙ copied in
    let started = started_keys (count + 1) at block old v1 c.in-Ok.ensures.answer in
    let known : keys_at v3 at ≡ keys =
    writes_keys c.copy_keys.new.block.at (FIRST_KEY + before) at (c.args.key ∷ []) v2 v3 c.write.ensures.writes
    ∙ writes_keys block.at FIRST_KEY at (slice_range (keys_at v1 at) 0 before) (after_reads (before - 0) v1) v2 c.copy_keys.ensures.writes
    ∙ started in
    subst (λ (last : BlockValue). Builds (with_key c.args.key keys) last old v4) (sym (c.copy_keys-2.ensures.block ∙ put))
    (with_built keys before count c.requires.knows.count block old v1 v2 c.requires.within
    (subst (λ (list : List ℕ). Writes block.at FIRST_KEY (slice_range list 0 before) (after_reads (before - 0) v1) v2) started
    c.copy_keys.ensures.writes)
    c.args.key v3 v4 c.requires.before c.requires.absent c.in-Ok.ensures.answer
    (subst (λ (block : BlockValue). Writes block.at (FIRST_KEY + before) (c.args.key ∷ []) v2 v3) copied c.write.ensures.writes)
    (subst (λ (z : BlockValue × List ℕ). Writes z.0.at (FIRST_KEY + before + 1) (slice_range z.1 before count)
    (after_reads (count - before) v3) v4) (λ i. (put i, known i)) c.copy_keys-2.ensures.writes))
