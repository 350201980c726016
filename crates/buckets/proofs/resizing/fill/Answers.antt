use Rattle.std.proofs.Common.{◌+◌, true, false, is_err, OnErr, Result, sym, subst, arith}
use Rattle.std.proofs.lemmas.Result.{err_from_is_err_and}
use Rattle.cells.specs.declared.block.Full.{Full}
use Rattle.buckets.specs.Alone.{FillsOneAlone}
use Rattle.buckets.specs.Filling.{RefusesOne}
use Rattle.step_core.specs.declared.format.TheConstants.{FIRST_BUCKET}
use Rattle.cells.proofs.laws.Within.{bucket_within}
use Rattle.buckets.proofs.laws.AloneFilling.{fill_touches, load_touches}
use Rattle.buckets.proofs.laws.Filling.{nil_filled, nil_refused, not_nil}
use Rattle.buckets.proofs.resizing.fill.Goals as goal

-- the place lies in the arena
pub overflow_add-at : goal.overflow_add-at
overflow_add-at c =
    let within = bucket_within c.args.pass.now.view c.sound.ensures.view (c.args.at + FIRST_BUCKET + c.args.bucket)
    (c.args.at, c.args.bucket, c.requires.knows.0, c.requires.knows.1) in
    omega (arith, within.small)

pub overflow_add-at-2 : goal.overflow_add-at-2
overflow_add-at-2 c =
    let within = bucket_within c.args.pass.now.view c.sound.ensures.view (c.args.at + FIRST_BUCKET + c.args.bucket)
    (c.args.at, c.args.bucket, c.requires.knows.0, c.requires.knows.1) in
    omega (arith, within.small)

-- no block for its row was to be had
pub returns-in_err-ensure-clause-full : goal.returns-in_err-ensure-clause-full
returns-in_err-ensure-clause-full c =
    let p = err_from_is_err_and c.from_residual.result c.from_residual.ensures.1 in
    subst (λ (result : Result Unit Full). OnErr result (RefusesOne c.args.pass.now.view c.ensure.new.pass.view)) (sym p.1)
    (nil_refused c.args.at c.args.bucket c.load_bucket.result c.args.pass.now.view c.load_bucket.new.pass.view c.load_bucket.ensures.answer
    c.requires.knows.0 c.requires.knows.1 c.sound.ensures.view c.if-load_bucket-eq0.true c.ensure.new.pass.view c.in_err-ensure.ensures.full)

pub returns-in_err-ensure-clause-ledger : goal.returns-in_err-ensure-clause-ledger
returns-in_err-ensure-clause-ledger c =
    let p = err_from_is_err_and c.from_residual.result c.from_residual.ensures.1 in
    subst (λ (result : Result Unit Full).
    FillsOneAlone c.args.at c.args.bucket (is_err result) c.args.pass.now.view c.ensure.new.pass.view) (sym p.1)
    (fill_touches c.args.at c.args.bucket c.load_bucket.result c.args.pass.now.view c.load_bucket.new.pass.view c.load_bucket.ensures.answer
    c.requires.knows.0 c.requires.knows.1 c.sound.ensures.view true c.ensure.new.pass.view c.if-load_bucket-eq0.true
    c.in_err-ensure.ensures.ledger)

-- it was nil, and is filled
pub returns-in_ok-ensure-clause-answer : goal.returns-in_ok-ensure-clause-answer
returns-in_ok-ensure-clause-answer c =
    nil_filled c.args.at c.args.bucket c.load_bucket.result c.args.pass.now.view c.load_bucket.new.pass.view c.load_bucket.ensures.answer
    c.requires.knows.0 c.requires.knows.1 c.sound.ensures.view c.if-load_bucket-eq0.true c.ensure.new.pass.view c.in_ok-ensure.ensures.answer
    c.sound-then-load_bucket-eq0.ensures.view

pub returns-in_ok-ensure-clause-ledger : goal.returns-in_ok-ensure-clause-ledger
returns-in_ok-ensure-clause-ledger c =
    fill_touches c.args.at c.args.bucket c.load_bucket.result c.args.pass.now.view c.load_bucket.new.pass.view c.load_bucket.ensures.answer
    c.requires.knows.0 c.requires.knows.1 c.sound.ensures.view false c.ensure.new.pass.view c.if-load_bucket-eq0.true
    c.in_ok-ensure.ensures.ledger

-- it wasn't nil
pub returns-else-load_bucket-eq0-clause-answer : goal.returns-else-load_bucket-eq0-clause-answer
returns-else-load_bucket-eq0-clause-answer c =
    not_nil c.args.at c.args.bucket c.load_bucket.result c.args.pass.now.view c.load_bucket.new.pass.view c.load_bucket.ensures.answer
    c.requires.knows.0 c.requires.knows.1 c.sound.ensures.view c.if-load_bucket-eq0.false

pub returns-else-load_bucket-eq0-clause-ledger : goal.returns-else-load_bucket-eq0-clause-ledger
returns-else-load_bucket-eq0-clause-ledger c =
    load_touches c.args.at c.args.bucket c.load_bucket.result c.args.pass.now.view c.load_bucket.new.pass.view c.load_bucket.ensures.answer
    c.requires.knows.0 c.requires.knows.1 c.sound.ensures.view c.if-load_bucket-eq0.false
