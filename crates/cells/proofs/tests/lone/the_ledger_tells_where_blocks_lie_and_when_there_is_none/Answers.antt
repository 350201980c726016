use Rattle.std.proofs.Common.{◌≡◌, ℕ, ◌+◌, ◌≤◌, length, Bool, false, is_err, ap, ◌∙◌}
use Rattle.step_core.specs.Ledger.{Ledger, drawing}
use Rattle.cells.specs.Lone.{ledger_of, EndsAs}
use Rattle.cells.specs.Tokens.{PassValue, RoundValue, fresh_pass}
use Rattle.step_core.specs.declared.views.PassView.{PassView}
use Rattle.step_core.proofs.ledgers.Kept.{drawing-untouched}
use Rattle.cells.proofs.tests.lone.the_ledger_tells_where_blocks_lie_and_when_there_is_none.Goals as goal

-- an opening has no untouched bucket,
begun : (round : RoundValue) (pass : PassValue) → pass ≡ fresh_pass round 0 → (ledger_of pass.view).untouched 0 ≡ false
unfolding ledger_of
begun round pass is = ap (λ (pass : PassValue). (ledger_of pass.view).untouched 0) is

-- and no draw makes one
drawn : (len : ℕ) (full : Bool) (old new : PassView) → EndsAs (drawing len (ledger_of old)) full new
    → (ledger_of old).untouched 0 ≡ false → (ledger_of new).untouched 0 ≡ false
drawn len full old new ends touched =
    ap (λ (l : Ledger). l.untouched 0) ends.ledger
    ∙ ap (λ (untouched : ℕ → Bool). untouched 0) (drawing-untouched len (ledger_of old)) ∙ touched

-- so the bucket isn't untouched as the round begins,
pub load_first_bucket-requires-clause-filled : goal.load_first_bucket-requires-clause-filled
load_first_bucket-requires-clause-filled g c = begun c.in_ok-round.round c.in_ok-round.pass c.in_ok-round.ensures.pass

-- nor after the draws
pub load_first_bucket-requires-2-clause-filled : goal.load_first_bucket-requires-2-clause-filled
load_first_bucket-requires-2-clause-filled g c =
    let first = c.load_first_bucket.new.pass.view in
    let one = c.draw_as_told.new.pass.view in
    let two = c.draw_as_told-2.new.pass.view in
    let start = ap (λ (l : Ledger). l.untouched 0) c.load_first_bucket.ensures.ledger
    ∙ begun c.in_ok-round.round c.in_ok-round.pass c.in_ok-round.ensures.pass in
    drawn 1 (is_err c.draw_as_told-3.result) two c.draw_as_told-3.new.pass.view c.draw_as_told-3.ensures.ends
    (drawn 2 (is_err c.draw_as_told-2.result) one two c.draw_as_told-2.ensures.ends
    (drawn 3 (is_err c.draw_as_told.result) first one c.draw_as_told.ensures.ends start))
