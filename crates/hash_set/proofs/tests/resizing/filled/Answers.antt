use Rattle.std.proofs.Common.{◌≡◌, ℕ, ◌+◌, ◌^◌, ◌<◌, ◌≤◌, refl, sym, subst, arith}
use Rattle.step_core.specs.declared.format.TheConstants.{FIRST_BUCKET}
use Rattle.step_core.specs.declared.views.PassView.{PassView}
use Rattle.cells.specs.Sound.{IsSound}
use Rattle.cells.proofs.laws.Within.{IsPlace, bucket_within}
use Rattle.buckets.specs.Filling.{KnowsExponent}
use Rattle.hash_set.proofs.tests.resizing.filled.Goals as goal

-- the bucket's word lies in the arena
place : (view : PassView) (at exponent bucket : ℕ) → IsSound view → KnowsExponent view at exponent → bucket < 2 ^ exponent
    → IsPlace view (at + FIRST_BUCKET + bucket)
place view at exponent bucket sound knows within =
    bucket_within view sound (at + FIRST_BUCKET + bucket) (
      at,
      bucket,
      knows.generation,
      record {
        known = knows.known;
        within = subst (λ (e : ℕ). bucket < 2 ^ e) (sym knows.here) within;
        here = refl;
      },
    )

pub overflow_add-head : goal.overflow_add-head
overflow_add-head c =
    let within = place c.find_head-head.new.pass.view c.find_head-head.result.at c.find_head-head.result.exponent c.args.bucket
    c.sound.ensures.view c.find_head-head.ensures.knows
    (omega (arith, c.if-bucket-bucket_count.false, c.bucket_count.ensures.count)) in
    omega (arith, within.small)

pub overflow_add-head-2 : goal.overflow_add-head-2
overflow_add-head-2 c =
    let within = place c.find_head-head.new.pass.view c.find_head-head.result.at c.find_head-head.result.exponent c.args.bucket
    c.sound.ensures.view c.find_head-head.ensures.knows
    (omega (arith, c.if-bucket-bucket_count.false, c.bucket_count.ensures.count)) in
    omega (arith, within.small)
