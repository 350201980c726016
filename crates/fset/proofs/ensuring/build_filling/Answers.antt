use Rattle.std.proofs.Common.{◌≡◌, ℕ, ◌+◌, ◌%◌, ◌^◌, [], ◌∷◌, is_err, refl, sym, subst}
use Rattle.std.proofs.lemmas.Result.{IfOk-weaker, IfErr-weaker}
use Rattle.step_core.specs.declared.published.Published.TheVariants.{Row}
use Rattle.cells.specs.Known.{known_block}
use Rattle.cells.specs.Tokens.{BlockValue}
use Rattle.fset.specs.Alone.{ClosesAlone}
use Rattle.fset.specs.Ensuring.{BuildsFilling, ClosesBucket, IsSource, RefusesFilling}
use Rattle.fset.specs.Joining.{joined_keys}
use Rattle.fset.specs.Splitting.{split_keys}
use Rattle.fset.proofs.laws.AloneRows.{builds_end, still_alone}
use Rattle.fset.proofs.laws.AloneSources.{joint_ends, split_ends}
use Rattle.fset.proofs.laws.FilledByOne.{split_fills, split_refused}
use Rattle.fset.proofs.laws.FilledByTwo.{joint_fills, joint_refused, low_still}
use Rattle.fset.proofs.laws.Filling.{exponents_small, fewer_exponent, filling_within, is_source, more_bits}
use Rattle.fset.proofs.laws.Sources.{sources_within}
use Rattle.fset.proofs.ensuring.build_filling.Goals as goal

-- an exponent is at most 24
pub bucket_count-requires : goal.bucket_count-requires
bucket_count-requires c = (exponents_small c.args.filling.now c.args.pass.now.view c.requires.knows c.sound.ensures.view).1

pub build_split-built-requires-clause-exponent : goal.build_split-built-requires-clause-exponent
build_split-built-requires-clause-exponent c =
    (exponents_small c.args.filling.now c.args.pass.now.view c.requires.knows c.sound.ensures.view).0

-- after a growth the row of the one source may fill the bucket
pub returns-then-filling-clause-answer : goal.returns-then-filling-clause-answer
returns-then-filling-clause-answer c =
    let filling = c.args.filling.now in
    let v0 = c.args.pass.now.view in
    let v1 = c.close_bucket-row.new.pass.view in
    let v2 = c.build_split-built.new.pass.view in
    let row = c.close_bucket-row.result in
    let closes = subst (λ (size : ℕ). ClosesBucket filling.predecessor (filling.bucket % size) v0 row v1) c.bucket_count.ensures.count
    c.close_bucket-row.ensures.answer in
    IfOk-weaker c.build_split-built.result _ (λ (block : BlockValue). BuildsFilling filling block v0 v2)
    (split_fills filling v0 c.requires.knows c.sound.ensures.view
    (more_bits filling v0 c.requires.knows c.sound.ensures.view c.if-filling.true) row v1 v2 closes c.sound-then-filling.ensures.view
    c.sound-then-filling-2.ensures.view) c.build_split-built.ensures.answer

pub returns-then-filling-clause-full : goal.returns-then-filling-clause-full
returns-then-filling-clause-full c =
    let filling = c.args.filling.now in
    let v0 = c.args.pass.now.view in
    let v1 = c.close_bucket-row.new.pass.view in
    let v2 = c.build_split-built.new.pass.view in
    let row = c.close_bucket-row.result in
    let closes = subst (λ (size : ℕ). ClosesBucket filling.predecessor (filling.bucket % size) v0 row v1) c.bucket_count.ensures.count
    c.close_bucket-row.ensures.answer in
    IfErr-weaker c.build_split-built.result _ (λ _. RefusesFilling filling.head filling.bucket v0 v2)
    (λ _ refuses. split_refused filling v0 c.requires.knows c.sound.ensures.view
    (more_bits filling v0 c.requires.knows c.sound.ensures.view c.if-filling.true) row v1 v2 closes c.sound-then-filling.ensures.view
    c.sound-then-filling-2.ensures.view refuses) c.build_split-built.ensures.full

-- for the only pass, it has the bucket's keys
pub returns-then-filling-clause-ledger : goal.returns-then-filling-clause-ledger
returns-then-filling-clause-ledger c =
    let filling = c.args.filling.now in
    let v0 = c.args.pass.now.view in
    let v1 = c.close_bucket-row.new.pass.view in
    let v2 = c.build_split-built.new.pass.view in
    let row = c.close_bucket-row.result in
    let closes = subst (λ (size : ℕ). ClosesBucket filling.predecessor (filling.bucket % size) v0 row v1) c.bucket_count.ensures.count
    c.close_bucket-row.ensures.answer in
    let closed = subst (λ (size : ℕ). v0.facts.seats ≡ 1 → ClosesAlone filling.predecessor (filling.bucket % size) v0 row v1)
    c.bucket_count.ensures.count c.close_bucket-row.ensures.ledger in
    λ nil alone. split_ends filling v0 c.requires.knows c.sound.ensures.view nil alone
    (more_bits filling v0 c.requires.knows c.sound.ensures.view c.if-filling.true) row v1 closes (closed alone) c.sound-then-filling.ensures.view
    (is_err c.build_split-built.result) v2
    (builds_end (split_keys filling.exponent filling.bucket v1 row) v1 v2 c.build_split-built.result c.build_split-built.ensures.answer
    c.build_split-built.ensures.full)

-- after a shrink the bucket and another are the sources
pub close_bucket-low-requires-clause-knows : goal.close_bucket-low-requires-clause-knows
close_bucket-low-requires-clause-knows c =
    let filling = c.args.filling.now in
    let v0 = c.args.pass.now.view in
    let sound = c.sound.ensures.view in
    let two = fewer_exponent filling v0 c.requires.knows sound c.if-filling.false in
    is_source filling v0 c.requires.knows sound [] v0 refl filling.bucket
    (sources_within filling.exponent filling.before filling.bucket two (filling_within filling v0 c.requires.knows sound)).0

pub bucket_count-requires-2 : goal.bucket_count-requires-2
bucket_count-requires-2 c = (exponents_small c.args.filling.now c.args.pass.now.view c.requires.knows c.sound.ensures.view).0

pub close_bucket-high-requires-clause-knows : goal.close_bucket-high-requires-clause-knows
close_bucket-high-requires-clause-knows c =
    let filling = c.args.filling.now in
    let v0 = c.args.pass.now.view in
    let v1 = c.close_bucket-low.new.pass.view in
    let sound = c.sound.ensures.view in
    let two = fewer_exponent filling v0 c.requires.knows sound c.if-filling.false in
    let low = c.close_bucket-low.ensures.answer in
    subst (λ (size : ℕ). IsSource v1 filling.predecessor (filling.bucket + size)) (sym c.bucket_count-2.ensures.count)
    (is_source filling v0 c.requires.knows sound (known_block c.close_bucket-low.result.at (Row low.row) ∷ []) v1 low.grows.known
    (filling.bucket + 2 ^ filling.exponent)
    (sources_within filling.exponent filling.before filling.bucket two (filling_within filling v0 c.requires.knows sound)).1)

-- the first row is as it was
pub build_joined-built-requires-clause-low : goal.build_joined-built-requires-clause-low
build_joined-built-requires-clause-low c =
    let filling = c.args.filling.now in
    let v0 = c.args.pass.now.view in
    let v1 = c.close_bucket-low.new.pass.view in
    let v2 = c.close_bucket-high.new.pass.view in
    let sound = c.sound.ensures.view in
    let high = c.close_bucket-high.result in
    let second = subst (λ (size : ℕ). ClosesBucket filling.predecessor (filling.bucket + size) v1 high v2) c.bucket_count-2.ensures.count
    c.close_bucket-high.ensures.answer in
    low_still filling v0 c.requires.knows sound (fewer_exponent filling v0 c.requires.knows sound c.if-filling.false) c.close_bucket-low.result
    high v1 v2 c.close_bucket-low.ensures.answer second c.sound-3.ensures.view

-- the row of both may fill the bucket
pub returns-clause-answer : goal.returns-clause-answer
returns-clause-answer c =
    let filling = c.args.filling.now in
    let v0 = c.args.pass.now.view in
    let v1 = c.close_bucket-low.new.pass.view in
    let v2 = c.close_bucket-high.new.pass.view in
    let v3 = c.build_joined-built.new.pass.view in
    let sound = c.sound.ensures.view in
    let high = c.close_bucket-high.result in
    let second = subst (λ (size : ℕ). ClosesBucket filling.predecessor (filling.bucket + size) v1 high v2) c.bucket_count-2.ensures.count
    c.close_bucket-high.ensures.answer in
    IfOk-weaker c.build_joined-built.result _ (λ (block : BlockValue). BuildsFilling filling block v0 v3)
    (λ block builds. joint_fills filling v0 c.requires.knows sound (fewer_exponent filling v0 c.requires.knows sound c.if-filling.false)
    c.close_bucket-low.result high v1 v2 c.close_bucket-low.ensures.answer second c.sound-3.ensures.view v3 block builds c.sound-4.ensures.view)
    c.build_joined-built.ensures.answer

pub returns-clause-full : goal.returns-clause-full
returns-clause-full c =
    let filling = c.args.filling.now in
    let v0 = c.args.pass.now.view in
    let v1 = c.close_bucket-low.new.pass.view in
    let v2 = c.close_bucket-high.new.pass.view in
    let v3 = c.build_joined-built.new.pass.view in
    let sound = c.sound.ensures.view in
    let high = c.close_bucket-high.result in
    let second = subst (λ (size : ℕ). ClosesBucket filling.predecessor (filling.bucket + size) v1 high v2) c.bucket_count-2.ensures.count
    c.close_bucket-high.ensures.answer in
    IfErr-weaker c.build_joined-built.result _ (λ _. RefusesFilling filling.head filling.bucket v0 v3)
    (λ _ refuses. joint_refused filling v0 c.requires.knows sound (fewer_exponent filling v0 c.requires.knows sound c.if-filling.false)
    c.close_bucket-low.result high v1 v2 c.close_bucket-low.ensures.answer second c.sound-3.ensures.view v3 refuses)
    c.build_joined-built.ensures.full

-- for the only pass, it has the bucket's keys
pub returns-clause-ledger : goal.returns-clause-ledger
returns-clause-ledger c =
    let filling = c.args.filling.now in
    let v0 = c.args.pass.now.view in
    let v1 = c.close_bucket-low.new.pass.view in
    let v2 = c.close_bucket-high.new.pass.view in
    let v3 = c.build_joined-built.new.pass.view in
    let sound = c.sound.ensures.view in
    let low = c.close_bucket-low.result in
    let high = c.close_bucket-high.result in
    let second = subst (λ (size : ℕ). ClosesBucket filling.predecessor (filling.bucket + size) v1 high v2) c.bucket_count-2.ensures.count
    c.close_bucket-high.ensures.answer in
    let closed = subst (λ (size : ℕ). v1.facts.seats ≡ 1 → ClosesAlone filling.predecessor (filling.bucket + size) v1 high v2)
    c.bucket_count-2.ensures.count c.close_bucket-high.ensures.ledger in
    λ nil alone. joint_ends filling v0 c.requires.knows sound nil alone
    (fewer_exponent filling v0 c.requires.knows sound c.if-filling.false) low high v1 v2 c.close_bucket-low.ensures.answer second
    c.sound-2.ensures.view c.sound-3.ensures.view (c.close_bucket-low.ensures.ledger alone)
    (closed (still_alone v0 v1 c.close_bucket-low.ensures.answer.grows.facts alone)) (is_err c.build_joined-built.result) v3
    (builds_end (joined_keys v2 low high) v2 v3 c.build_joined-built.result c.build_joined-built.ensures.answer c.build_joined-built.ensures.full)
