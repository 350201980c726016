use Rattle.std.proofs.Common.{ℕ, ◌+◌, ap, arith}
use Rattle.step_core.specs.declared.format.TheConstants.{FIRST_BUCKET}
use Rattle.cells.proofs.laws.Sealed.{knows_exponent}
use Rattle.fset.proofs.laws.Looking.{bucket_loaded, buckets_within, key_bucket_small, knows_key_bucket}
use Rattle.hash_set.proofs.tests.resizing.stale.load_key_bucket.Goals as goal

-- the generation's exponent may be loaded
pub load_sealed-exponent-requires-clause-knows : goal.load_sealed-exponent-requires-clause-knows
load_sealed-exponent-requires-clause-knows c =
    knows_exponent c.args.pass.now.view c.args.at c.requires.knows.0 c.requires.knows.1

-- the generation lies in the arena
pub overflow_add-place : goal.overflow_add-place
overflow_add-place c =
    let inside = buckets_within c.args.pass.now.view c.load_sealed-exponent.new.pass.view c.args.at c.load_sealed-exponent.result
    c.requires.knows.0 c.requires.knows.1 c.load_sealed-exponent.ensures.answer c.sound-2.ensures.view in
    omega (arith, inside.0)

-- its exponent is at most 24
pub overflow_cast-exponent : goal.overflow_cast-exponent
overflow_cast-exponent c =
    let inside = buckets_within c.args.pass.now.view c.load_sealed-exponent.new.pass.view c.args.at c.load_sealed-exponent.result
    c.requires.knows.0 c.requires.knows.1 c.load_sealed-exponent.ensures.answer c.sound-2.ensures.view in
    omega (arith, inside.1)

pub bucket_of-bucket-requires : goal.bucket_of-bucket-requires
bucket_of-bucket-requires c =
    let inside = buckets_within c.args.pass.now.view c.load_sealed-exponent.new.pass.view c.args.at c.load_sealed-exponent.result
    c.requires.knows.0 c.requires.knows.1 c.load_sealed-exponent.ensures.answer c.sound-2.ensures.view in
    omega (arith, inside.1)

-- with its buckets
pub overflow_add-place-2 : goal.overflow_add-place-2
overflow_add-place-2 c =
    let inside = buckets_within c.args.pass.now.view c.load_sealed-exponent.new.pass.view c.args.at c.load_sealed-exponent.result
    c.requires.knows.0 c.requires.knows.1 c.load_sealed-exponent.ensures.answer c.sound-2.ensures.view in
    omega (arith, inside.0, c.bucket_of-bucket.ensures, key_bucket_small c.load_sealed-exponent.result c.args.key)

-- the key's bucket may be loaded
pub load_bucket-word-requires-clause-knows : goal.load_bucket-word-requires-clause-knows
load_bucket-word-requires-clause-knows c =
    knows_key_bucket c.args.pass.now.view c.load_sealed-exponent.new.pass.view c.args.at c.load_sealed-exponent.result
    c.requires.knows.0 c.requires.knows.1 c.load_sealed-exponent.ensures.answer c.args.key (c.args.at + FIRST_BUCKET + c.bucket_of-bucket.result)
    (ap (λ (bucket : ℕ). c.args.at + FIRST_BUCKET + bucket) c.bucket_of-bucket.ensures)

-- it is loaded
pub returns-clause-answer : goal.returns-clause-answer
returns-clause-answer c =
    bucket_loaded c.args.pass.now.view c.load_sealed-exponent.new.pass.view c.args.at c.load_sealed-exponent.result
    c.requires.knows.0 c.requires.knows.1 c.load_sealed-exponent.ensures.answer c.args.key (c.args.at + FIRST_BUCKET + c.bucket_of-bucket.result)
    (ap (λ (bucket : ℕ). c.args.at + FIRST_BUCKET + bucket) c.bucket_of-bucket.ensures) c.bucket_of-bucket.result c.load_bucket-word.result
    c.load_bucket-word.new.pass.view c.bucket_of-bucket.ensures c.load_bucket-word.ensures.answer
