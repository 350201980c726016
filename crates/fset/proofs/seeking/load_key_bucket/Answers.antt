use Rattle.std.proofs.Common.{true, false}
use Rattle.cells.proofs.laws.HeadLoads.{load_head_knows}
use Rattle.fset.proofs.laws.AloneRows.{still_alone}
use Rattle.fset.proofs.laws.AloneSeeking.{fills_nil, head_still, loaded_head, loads_again, loads_filled}
use Rattle.fset.proofs.laws.Seeking.{filled_then, finds_nil, key_bucket_loaded, knows_head_still, nil_known, starts_at_head, starts_by_filling}
use Rattle.fset.proofs.seeking.load_key_bucket.Goals as goal

-- the head is known
pub load_bucket_of-bucket-requires-clause-knows : goal.load_bucket_of-bucket-requires-clause-knows
load_bucket_of-bucket-requires-clause-knows c =
    let loads = c.load_head-head.ensures.answer in
    (loads.generation, load_head_knows c.args.pass.now.view c.load_head-head.result c.load_head-head.new.pass.view loads)

-- the key's bucket is loaded
pub returns-then-bucket-ne0-clause-answer : goal.returns-then-bucket-ne0-clause-answer
returns-then-bucket-ne0-clause-answer c =
    let head = c.load_head-head.result in
    let v0 = c.args.pass.now.view in
    let v1 = c.load_head-head.new.pass.view in
    key_bucket_loaded head c.args.key v0 v1 c.load_bucket_of-bucket.new.pass.view c.load_bucket_of-bucket.result
    (starts_at_head head v0 v1 c.load_head-head.ensures.answer) c.load_bucket_of-bucket.ensures.answer c.if-bucket-ne0.true c.sound.ensures.view

-- it is nil, and one of the head
pub ensure-requires-clause-knows : goal.ensure-requires-clause-knows
ensure-requires-clause-knows c =
    nil_known c.load_head-head.result c.args.key c.args.pass.now.view c.load_head-head.new.pass.view c.load_bucket_of-bucket.new.pass.view
    c.load_bucket_of-bucket.result c.load_head-head.ensures.answer c.load_bucket_of-bucket.ensures.answer c.if-bucket-ne0.false
    c.sound.ensures.view

-- it can't be filled
pub returns-in_default-clause-full : goal.returns-in_default-clause-full
returns-in_default-clause-full c =
    finds_nil c.load_head-head.result c.args.key c.args.pass.now.view c.load_head-head.new.pass.view c.load_bucket_of-bucket.new.pass.view
    c.load_bucket_of-bucket.result c.load_head-head.ensures.answer c.load_bucket_of-bucket.ensures.answer c.if-bucket-ne0.false
    c.sound.ensures.view c.ensure.new.pass.view c.in_default.ensures.full

-- it is filled, and loaded again
pub load_bucket_of-bucket-requires-2-clause-knows : goal.load_bucket_of-bucket-requires-2-clause-knows
load_bucket_of-bucket-requires-2-clause-knows c =
    knows_head_still c.load_head-head.result c.args.key c.args.pass.now.view c.load_head-head.new.pass.view
    c.load_bucket_of-bucket.new.pass.view c.load_bucket_of-bucket.result c.load_head-head.ensures.answer
    c.load_bucket_of-bucket.ensures.answer c.if-bucket-ne0.false c.sound.ensures.view c.ensure.new.pass.view c.in-Ok.ensures.answer

pub returns-clause-answer : goal.returns-clause-answer
returns-clause-answer c =
    let head = c.load_head-head.result in
    let v0 = c.args.pass.now.view in
    let v1 = c.load_head-head.new.pass.view in
    let v2 = c.load_bucket_of-bucket.new.pass.view in
    let v3 = c.ensure.new.pass.view in
    let v4 = c.load_bucket_of-bucket-2.new.pass.view in
    key_bucket_loaded head c.args.key v0 v3 v4 c.load_bucket_of-bucket-2.result
    (starts_by_filling head c.args.key v0 v1 v2 c.load_bucket_of-bucket.result c.load_head-head.ensures.answer
    c.load_bucket_of-bucket.ensures.answer c.if-bucket-ne0.false c.sound.ensures.view v3 c.in-Ok.ensures.answer)
    c.load_bucket_of-bucket-2.ensures.answer
    (filled_then head c.args.key v0 v1 v2 c.load_bucket_of-bucket.result c.load_head-head.ensures.answer
    c.load_bucket_of-bucket.ensures.answer c.if-bucket-ne0.false c.sound.ensures.view v3 c.in-Ok.ensures.answer v4
    c.load_bucket_of-bucket-2.result c.load_bucket_of-bucket-2.ensures.answer c.sound-3.ensures.view)
    c.sound-3.ensures.view

-- For the only pass: a bucket that isn't nil is what the ledger says,
pub returns-then-bucket-ne0-clause-ledger : goal.returns-then-bucket-ne0-clause-ledger
returns-then-bucket-ne0-clause-ledger c =
    let head = c.load_head-head.result in
    let v0 = c.args.pass.now.view in
    let v1 = c.load_head-head.new.pass.view in
    let v2 = c.load_bucket_of-bucket.new.pass.view in
    let heads = c.load_head-head.ensures.answer in
    λ alone. loads_filled head c.args.key v1 v2 c.load_bucket_of-bucket.result c.load_bucket_of-bucket.ensures.answer c.sound.ensures.view
    (still_alone v0 v1 c.load_head-head.ensures.pass.facts alone) (loaded_head v0 head v1 heads) v0 (heads.alone alone).same
    c.if-bucket-ne0.true c.sound-2.ensures.view

-- a nil one is filled so,
pub returns-in_default-clause-ledger_full : goal.returns-in_default-clause-ledger_full
returns-in_default-clause-ledger_full c =
    let head = c.load_head-head.result in
    let v0 = c.args.pass.now.view in
    let v1 = c.load_head-head.new.pass.view in
    let v2 = c.load_bucket_of-bucket.new.pass.view in
    let heads = c.load_head-head.ensures.answer in
    λ alone. fills_nil head c.args.key v1 v2 c.load_bucket_of-bucket.result c.load_bucket_of-bucket.ensures.answer c.sound.ensures.view
    (still_alone v0 v1 c.load_head-head.ensures.pass.facts alone) (loaded_head v0 head v1 heads) v0 c.ensure.new.pass.view true
    (heads.alone alone).same c.if-bucket-ne0.false c.in_default.ensures.ledger

-- and loaded again
pub returns-clause-ledger : goal.returns-clause-ledger
returns-clause-ledger c =
    let head = c.load_head-head.result in
    let v0 = c.args.pass.now.view in
    let v1 = c.load_head-head.new.pass.view in
    let v2 = c.load_bucket_of-bucket.new.pass.view in
    let v3 = c.ensure.new.pass.view in
    let v4 = c.load_bucket_of-bucket-2.new.pass.view in
    let nil = c.load_bucket_of-bucket.result in
    let bucket = c.load_bucket_of-bucket-2.result in
    let heads = c.load_head-head.ensures.answer in
    let finds = c.load_bucket_of-bucket.ensures.answer in
    let again = c.load_bucket_of-bucket-2.ensures.answer in
    let ensured = c.in-Ok.ensures.answer in
    λ alone.
    let alone1 = still_alone v0 v1 c.load_head-head.ensures.pass.facts alone in
    let alone2 = still_alone v1 v2 c.load_bucket_of-bucket.ensures.pass.facts alone1 in
    let alone3 = still_alone v2 v3 c.ensure.ensures.pass.facts alone2 in
    let here = loaded_head v0 head v1 heads in
    loads_again head c.args.key v3 v4 bucket again c.sound-3.ensures.view alone3
    (head_still head c.args.key v1 v2 nil finds v3 here ensured) v0
    (fills_nil head c.args.key v1 v2 nil finds c.sound.ensures.view alone1 here v0 v3 false (heads.alone alone).same c.if-bucket-ne0.false
    c.in-Ok.ensures.ledger)
    (filled_then head c.args.key v0 v1 v2 nil heads finds c.if-bucket-ne0.false c.sound.ensures.view v3 ensured v4 bucket again
    c.sound-3.ensures.view)
    c.sound-4.ensures.view
