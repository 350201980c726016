use Rattle.std.proofs.Common.{ℕ, ◌+◌, sym, ap, subst, arith}
use Rattle.step_core.specs.Format.{row_address}
use Rattle.step_core.specs.declared.format.TheConstants.{FIRST_BUCKET}
use Rattle.cells.specs.Known.{KnowsRow}
use Rattle.cells.proofs.laws.BucketLoads.{load_bucket_knows}
use Rattle.cells.proofs.laws.Known.{row_at-known}
use Rattle.fset.specs.Seen.{KnowsRowAt}
use Rattle.fset.proofs.laws.Looking.{buckets_within, key_bucket_small, knows_key_bucket}
use Rattle.hash_set.proofs.tests.resizing.pairs.end_look_up.Goals as goal

-- the head's buckets lie in the arena, and its exponent is at most 24
pub overflow_add-place : goal.overflow_add-place
overflow_add-place c =
    let inside = buckets_within c.args.pass.now.view c.load_sealed-exponent.new.pass.view c.args.head c.load_sealed-exponent.result
    c.requires.knows.0 c.requires.knows.1 c.load_sealed-exponent.ensures.answer c.sound.ensures.view in
    omega (arith, inside.0)

pub overflow_cast-exponent : goal.overflow_cast-exponent
overflow_cast-exponent c =
    let inside = buckets_within c.args.pass.now.view c.load_sealed-exponent.new.pass.view c.args.head c.load_sealed-exponent.result
    c.requires.knows.0 c.requires.knows.1 c.load_sealed-exponent.ensures.answer c.sound.ensures.view in
    omega (arith, inside.1)

pub bucket_of-requires : goal.bucket_of-requires
bucket_of-requires c =
    let inside = buckets_within c.args.pass.now.view c.load_sealed-exponent.new.pass.view c.args.head c.load_sealed-exponent.result
    c.requires.knows.0 c.requires.knows.1 c.load_sealed-exponent.ensures.answer c.sound.ensures.view in
    omega (arith, inside.1)

pub overflow_add-place-2 : goal.overflow_add-place-2
overflow_add-place-2 c =
    let inside = buckets_within c.args.pass.now.view c.load_sealed-exponent.new.pass.view c.args.head c.load_sealed-exponent.result
    c.requires.knows.0 c.requires.knows.1 c.load_sealed-exponent.ensures.answer c.sound.ensures.view in
    omega (arith, inside.0, c.bucket_of.ensures, key_bucket_small c.load_sealed-exponent.result c.args.key)

-- the key's bucket may be loaded
pub load_bucket-word-requires-clause-knows : goal.load_bucket-word-requires-clause-knows
load_bucket-word-requires-clause-knows c =
    knows_key_bucket c.args.pass.now.view c.load_sealed-exponent.new.pass.view c.args.head c.load_sealed-exponent.result
    c.requires.knows.0 c.requires.knows.1 c.load_sealed-exponent.ensures.answer c.args.key (c.args.head + FIRST_BUCKET + c.bucket_of.result)
    (ap (λ (bucket : ℕ). c.args.head + FIRST_BUCKET + bucket) c.bucket_of.ensures)

-- its row is known
pub read_row-row-requires-clause-knows : goal.read_row-row-requires-clause-knows
read_row-row-requires-clause-knows c =
    let new = c.load_bucket-word.new.pass.view in
    let loads = c.load_bucket-word.ensures.answer in
    let at = row_address c.load_bucket-word.result in
    let known = load_bucket_knows (c.args.head + FIRST_BUCKET + c.bucket_of.result) c.load_sealed-exponent.new.pass.view
    c.load_bucket-word.result new loads c.if-word-eq0.false in
    subst (KnowsRowAt new) (sym c.row_address.ensures)
    (subst (KnowsRow new at) (sym (row_at-known new at loads.row c.sound-2.ensures.view known)) known)
