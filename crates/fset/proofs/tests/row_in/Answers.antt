use Rattle.std.proofs.Common.{◌≡◌, ℕ, ◌+◌, ◌<◌, ◌≤◌, ◌^◌, ap, arith}
use Rattle.step_core.specs.declared.format.TheConstants.{FIRST_BUCKET}
use Rattle.step_core.specs.declared.published.Published.TheVariants.{Generation}
use Rattle.step_core.specs.declared.views.PassView.{PassView}
use Rattle.cells.specs.Known.{KnowsBucket}
use Rattle.cells.specs.Sound.{IsSound}
use Rattle.cells.specs.Steps.{LoadsHead, LoadsSealed}
use Rattle.cells.proofs.laws.Known.{knows_more}
use Rattle.cells.proofs.laws.HeadLoads.{load_head_knows, load_sealed_known}
use Rattle.cells.proofs.laws.Sealed.{knows_exponent, exponent_word, knows_bucket}
use Rattle.cells.proofs.laws.Within.{generation_within}
use Rattle.fset.proofs.tests.row_in.Goals as goal

-- the head with this exponent lies in the arena, and its buckets may be loaded
record IsHead (head exponent : ℕ) (view : PassView) : Type 0 where
  small : exponent ≤ 24
  within : head + FIRST_BUCKET + 2 ^ exponent ≤ 2 ^ 28
  buckets : (bucket : ℕ) → bucket < 2 ^ exponent → KnowsBucket view (head + FIRST_BUCKET + bucket)

is_head : (old between new : PassView) (head exponent : ℕ) → IsSound new → LoadsHead old head between
    → LoadsSealed head between exponent new → IsHead head exponent new
is_head old between new head exponent sound first second =
    let knows = load_head_knows old head between first in
    let more = load_sealed_known head between exponent new second in
    let known = knows_more second.learned between new more head (Generation first.generation) knows in
    let inside = generation_within new sound head first.generation known in
    let is : exponent ≡ first.generation.exponent = exponent_word between head first.generation knows exponent second.reads in
    let same : 2 ^ exponent ≡ 2 ^ first.generation.exponent = ap (λ (e : ℕ). 2 ^ e) is in
    record {
      small = omega (arith, is, inside.1);
      within = omega (arith, same, inside.0.small);
      buckets = λ bucket lt. knows_bucket new head first.generation known bucket (omega (arith, same, lt));
    }

-- the head's exponent may be loaded
pub load_sealed-exponent-requires-clause-knows : goal.load_sealed-exponent-requires-clause-knows
load_sealed-exponent-requires-clause-knows c =
    let loads = c.load_head-head.ensures.answer in
    let view = c.load_head-head.new.pass.view in
    knows_exponent view c.load_head-head.result loads.generation (load_head_knows c.args.pass.now.view c.load_head-head.result view loads)

-- it is at most 24
pub overflow_shl-exponent : goal.overflow_shl-exponent
overflow_shl-exponent c =
    let head = is_head c.args.pass.now.view c.load_head-head.new.pass.view c.load_sealed-exponent.new.pass.view c.load_head-head.result
    c.load_sealed-exponent.result c.sound.ensures.view c.load_head-head.ensures.answer c.load_sealed-exponent.ensures.answer in
    omega (arith, head.small)

-- the head lies in the arena
pub overflow_add-head : goal.overflow_add-head
overflow_add-head c =
    let head = is_head c.args.pass.now.view c.load_head-head.new.pass.view c.load_sealed-exponent.new.pass.view c.load_head-head.result
    c.load_sealed-exponent.result c.sound.ensures.view c.load_head-head.ensures.answer c.load_sealed-exponent.ensures.answer in
    omega (arith, head.within)

-- with its buckets
pub overflow_add-head-2 : goal.overflow_add-head-2
overflow_add-head-2 c =
    let head = is_head c.args.pass.now.view c.load_head-head.new.pass.view c.load_sealed-exponent.new.pass.view c.load_head-head.result
    c.load_sealed-exponent.result c.sound.ensures.view c.load_head-head.ensures.answer c.load_sealed-exponent.ensures.answer in
    omega (arith, head.within, c.if-bucket-exponent.false)

-- they may be loaded
pub load_bucket-word-requires-clause-knows : goal.load_bucket-word-requires-clause-knows
load_bucket-word-requires-clause-knows c =
    let head = is_head c.args.pass.now.view c.load_head-head.new.pass.view c.load_sealed-exponent.new.pass.view c.load_head-head.result
    c.load_sealed-exponent.result c.sound.ensures.view c.load_head-head.ensures.answer c.load_sealed-exponent.ensures.answer in
    head.buckets c.args.bucket (omega (arith, c.if-bucket-exponent.false))
