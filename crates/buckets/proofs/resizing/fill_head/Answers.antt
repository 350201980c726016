use Rattle.std.proofs.Common.{rules, ◌≡◌, ℕ, ◌<◌, false, is_err, OnErr, Result, sym, subst, arith}
use Rattle.std.proofs.lemmas.Result.{err_from_is_err_and}
use Rattle.cells.specs.Tokens.{IsSamePass}
use Rattle.cells.specs.declared.block.Full.{Full}
use Rattle.buckets.specs.Alone.{FillsFirstAlone}
use Rattle.buckets.specs.Filling.{FillsFirst, RefusesFirst, buckets_of}
use Rattle.buckets.proofs.laws.AloneFilling.{first_touched, next_touched, touch_refused}
use Rattle.buckets.proofs.laws.Filling.{first_none, first_refused, first_then, knows_bucket}
use Rattle.buckets.proofs.resizing.fill_head.Goals as goal

-- a bucket below their number is one of the generation's
within : (bucket end exponent : ℕ) → bucket < end → end ≡ buckets_of exponent → bucket < buckets_of exponent
within bucket end exponent below count = omega (arith, below, count)

-- the exponent of a known generation is at most 24
pub bucket_count-bucket-end-requires : goal.bucket_count-bucket-end-requires
bucket_count-bucket-end-requires c =
    let small = c.sound.ensures.view.generations c.args.head.at c.requires.head.generation c.requires.head.known in
    omega (arith, small, c.requires.head.here)

-- no bucket was loaded yet
pub loop-bucket-init : goal.loop-bucket-init
loop-bucket-init c =
    let same : IsSamePass c.args.pass.now c.args.pass.now = search rules in
    record {
      same = same;
      first = first_none c.args.head.at c.args.head.exponent c.args.pass.now.view c.requires.head;
      alone = first_touched c.args.head.at c.args.pass.now.view;
    }

-- the next one is of the generation
pub fill-requires-clause-knows : goal.fill-requires-clause-knows
fill-requires-clause-knows c =
    knows_bucket c.args.head.at c.args.head.exponent c.loop-bucket.bucket c.args.pass.now.view c.loop-bucket.pass.view c.loop-bucket.pass.view
    c.loop-bucket.invariant.first (within c.loop-bucket.bucket c.bucket_count-bucket-end.result c.args.head.exponent c.loop-bucket-test.true
    c.bucket_count-bucket-end.ensures.count)

-- it can't be filled
pub returns-in_err-fill-clause-full : goal.returns-in_err-fill-clause-full
returns-in_err-fill-clause-full c =
    let p = err_from_is_err_and c.from_residual.result c.from_residual.ensures.1 in
    subst (λ (result : Result Unit Full). OnErr result (RefusesFirst c.args.head.exponent c.args.pass.now.view c.fill.new.pass.view)) (sym p.1)
    (first_refused c.args.head.at c.args.head.exponent c.loop-bucket.bucket c.args.pass.now.view c.loop-bucket.pass.view c.fill.new.pass.view
    c.loop-bucket.invariant.first (within c.loop-bucket.bucket c.bucket_count-bucket-end.result c.args.head.exponent c.loop-bucket-test.true
    c.bucket_count-bucket-end.ensures.count) c.in_err-fill.ensures.full)

pub returns-in_err-fill-clause-ledger : goal.returns-in_err-fill-clause-ledger
returns-in_err-fill-clause-ledger c =
    let all = within c.loop-bucket.bucket c.bucket_count-bucket-end.result c.args.head.exponent c.loop-bucket-test.true
    c.bucket_count-bucket-end.ensures.count in
    let first = c.loop-bucket.invariant.first in
    let p = err_from_is_err_and c.from_residual.result c.from_residual.ensures.1 in
    subst (λ (result : Result Unit Full).
    FillsFirstAlone c.args.head.at (buckets_of c.args.head.exponent) (is_err result) c.args.pass.now.view c.fill.new.pass.view) (sym p.1)
    (touch_refused c.args.head.at c.loop-bucket.bucket c.args.pass.now.view c.loop-bucket.pass.view c.fill.new.pass.view
    c.loop-bucket.invariant.same.facts first.fills.heads c.loop-bucket.invariant.alone (buckets_of c.args.head.exponent) all
    c.in_err-fill.ensures.ledger)

-- it is filled
pub loop-bucket-preserved : goal.loop-bucket-preserved
loop-bucket-preserved c =
    let same : IsSamePass c.args.pass.now c.fill.new.pass = search rules in
    record {
      same = same;
      first = first_then c.args.head.at c.args.head.exponent c.loop-bucket.bucket c.args.pass.now.view c.loop-bucket.pass.view c.fill.new.pass.view
          c.loop-bucket.invariant.first c.in_ok-fill.ensures.answer;
      alone = next_touched c.args.head.at c.loop-bucket.bucket c.args.pass.now.view c.loop-bucket.pass.view c.fill.new.pass.view
          c.loop-bucket.invariant.same.facts c.loop-bucket.invariant.first.fills.heads c.loop-bucket.invariant.alone false
          c.in_ok-fill.ensures.ledger;
    }

-- all are
pub returns-clause-answer : goal.returns-clause-answer
returns-clause-answer c =
    let all : c.loop-bucket.bucket ≡ buckets_of c.args.head.exponent =
    omega (arith, c.loop-bucket-test.false, c.loop-bucket.auto.bucket-end, c.bucket_count-bucket-end.ensures.count) in
    subst (λ (count : ℕ). FillsFirst c.args.head.at c.args.head.exponent count c.args.pass.now.view c.loop-bucket.pass.view) all
    c.loop-bucket.invariant.first

pub returns-clause-ledger : goal.returns-clause-ledger
returns-clause-ledger c =
    let all : c.loop-bucket.bucket ≡ buckets_of c.args.head.exponent =
    omega (arith, c.loop-bucket-test.false, c.loop-bucket.auto.bucket-end, c.bucket_count-bucket-end.ensures.count) in
    subst (λ (count : ℕ). FillsFirstAlone c.args.head.at count false c.args.pass.now.view c.loop-bucket.pass.view) all
    c.loop-bucket.invariant.alone
