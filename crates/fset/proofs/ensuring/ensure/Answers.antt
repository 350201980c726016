use Rattle.std.proofs.Common.{ℕ, ◌+◌, true, false, sym, subst, arith}
use Rattle.step_core.specs.declared.format.TheConstants.{FIRST_BUCKET}
use Rattle.cells.specs.Known.{KnowsSealed}
use Rattle.cells.specs.Steps.{LoadsSealed}
use Rattle.cells.proofs.laws.Within.{bucket_within}
use Rattle.step_core.specs.Ledger.{touch}
use Rattle.cells.proofs.laws.Outcomes.{ends_from}
use Rattle.fset.specs.declared.ensuring.Filling.{Filling}
use Rattle.fset.proofs.laws.AloneEnsuring.{filling_full, filling_lost, filling_won, named_alone, named_nil, named_same, never_first}
use Rattle.fset.proofs.laws.Ensuring.{either_way, ensured_first, exponents_fit, filling_ensured, filling_refused, is_filling, knows_link, knows_source, lost_filling, won_filling}
use Rattle.fset.proofs.ensuring.ensure.Goals as goal

-- the generation lies in the arena
pub predecessor_place-requires : goal.predecessor_place-requires
predecessor_place-requires c =
    let within = bucket_within c.args.pass.now.view c.sound.ensures.view (c.args.head + FIRST_BUCKET + c.args.bucket)
    (c.args.head, c.args.bucket, c.requires.knows.0, c.requires.knows.1) in
    omega (arith, within.small)

-- its second word may be loaded
pub load_sealed-predecessor-requires-clause-knows : goal.load_sealed-predecessor-requires-clause-knows
load_sealed-predecessor-requires-clause-knows c =
    let v1 = c.load_sealed-exponent.new.pass.view in
    subst (KnowsSealed v1) (sym c.predecessor_place.ensures)
    (knows_link c.args.head c.args.pass.now.view c.requires.knows.0 c.requires.knows.1.known v1 c.load_sealed-exponent.result
    c.load_sealed-exponent.ensures.answer)

-- there is no generation before
pub returns-then-predecessor-eq0-clause-answer : goal.returns-then-predecessor-eq0-clause-answer
returns-then-predecessor-eq0-clause-answer c =
    let v1 = c.load_sealed-exponent.new.pass.view in
    let v2 = c.load_sealed-predecessor.new.pass.view in
    let predecessor = c.load_sealed-predecessor.result in
    let second = subst (λ (place : ℕ). LoadsSealed place v1 predecessor v2) c.predecessor_place.ensures c.load_sealed-predecessor.ensures.answer in
    ensured_first c.args.head c.args.bucket c.args.pass.now.view c.requires.knows.0 c.requires.knows.1 v1 c.load_sealed-exponent.result
    c.load_sealed-exponent.ensures.answer v2 predecessor second c.if-predecessor-eq0.true

-- there is one
pub load_sealed-before-requires-clause-knows : goal.load_sealed-before-requires-clause-knows
load_sealed-before-requires-clause-knows c =
    let v1 = c.load_sealed-exponent.new.pass.view in
    let v2 = c.load_sealed-predecessor.new.pass.view in
    let predecessor = c.load_sealed-predecessor.result in
    let second = subst (λ (place : ℕ). LoadsSealed place v1 predecessor v2) c.predecessor_place.ensures c.load_sealed-predecessor.ensures.answer in
    knows_source c.args.head c.args.bucket c.args.pass.now.view c.requires.knows.0 c.requires.knows.1 v1 c.load_sealed-exponent.result
    c.load_sealed-exponent.ensures.answer v2 predecessor second c.if-predecessor-eq0.false

-- exponents are at most 24
pub overflow_cast-filling : goal.overflow_cast-filling
overflow_cast-filling c =
    let v1 = c.load_sealed-exponent.new.pass.view in
    let v2 = c.load_sealed-predecessor.new.pass.view in
    let predecessor = c.load_sealed-predecessor.result in
    let second = subst (λ (place : ℕ). LoadsSealed place v1 predecessor v2) c.predecessor_place.ensures c.load_sealed-predecessor.ensures.answer in
    let fit = exponents_fit c.args.head c.args.bucket c.args.pass.now.view c.requires.knows.0 c.requires.knows.1 v1 c.load_sealed-exponent.result
    c.load_sealed-exponent.ensures.answer v2 predecessor second c.if-predecessor-eq0.false c.load_sealed-before.new.pass.view
    c.load_sealed-before.result c.load_sealed-before.ensures.answer c.sound-2.ensures.view in
    omega (arith, fit.0)

pub overflow_cast-filling-2 : goal.overflow_cast-filling-2
overflow_cast-filling-2 c =
    let v1 = c.load_sealed-exponent.new.pass.view in
    let v2 = c.load_sealed-predecessor.new.pass.view in
    let predecessor = c.load_sealed-predecessor.result in
    let second = subst (λ (place : ℕ). LoadsSealed place v1 predecessor v2) c.predecessor_place.ensures c.load_sealed-predecessor.ensures.answer in
    let fit = exponents_fit c.args.head c.args.bucket c.args.pass.now.view c.requires.knows.0 c.requires.knows.1 v1 c.load_sealed-exponent.result
    c.load_sealed-exponent.ensures.answer v2 predecessor second c.if-predecessor-eq0.false c.load_sealed-before.new.pass.view
    c.load_sealed-before.result c.load_sealed-before.ensures.answer c.sound-2.ensures.view in
    omega (arith, fit.1)

-- both generations are known
pub build_filling-requires-clause-knows : goal.build_filling-requires-clause-knows
build_filling-requires-clause-knows c =
    let v1 = c.load_sealed-exponent.new.pass.view in
    let v2 = c.load_sealed-predecessor.new.pass.view in
    let predecessor = c.load_sealed-predecessor.result in
    let second = subst (λ (place : ℕ). LoadsSealed place v1 predecessor v2) c.predecessor_place.ensures c.load_sealed-predecessor.ensures.answer in
    is_filling c.args.head c.args.bucket c.args.pass.now.view c.requires.knows.0 c.requires.knows.1 v1 c.load_sealed-exponent.result
    c.load_sealed-exponent.ensures.answer v2 predecessor second c.if-predecessor-eq0.false c.load_sealed-before.new.pass.view
    c.load_sealed-before.result c.load_sealed-before.ensures.answer

-- no block was to be had
pub returns-in_default-clause-full : goal.returns-in_default-clause-full
returns-in_default-clause-full c =
    let v1 = c.load_sealed-exponent.new.pass.view in
    let v2 = c.load_sealed-predecessor.new.pass.view in
    let predecessor = c.load_sealed-predecessor.result in
    let second = subst (λ (place : ℕ). LoadsSealed place v1 predecessor v2) c.predecessor_place.ensures c.load_sealed-predecessor.ensures.answer in
    filling_refused c.args.head c.args.bucket c.args.pass.now.view c.requires.knows.0 c.requires.knows.1 v1 c.load_sealed-exponent.result
    c.load_sealed-exponent.ensures.answer v2 predecessor second c.if-predecessor-eq0.false c.load_sealed-before.new.pass.view
    c.load_sealed-before.result c.load_sealed-before.ensures.answer c.build_filling.new.pass.view c.in_default.ensures.full

-- the place lies in the arena
pub overflow_add-head : goal.overflow_add-head
overflow_add-head c =
    let within = bucket_within c.args.pass.now.view c.sound.ensures.view (c.args.head + FIRST_BUCKET + c.args.bucket)
    (c.args.head, c.args.bucket, c.requires.knows.0, c.requires.knows.1) in
    omega (arith, within.small)

pub overflow_add-head-2 : goal.overflow_add-head-2
overflow_add-head-2 c =
    let within = bucket_within c.args.pass.now.view c.sound.ensures.view (c.args.head + FIRST_BUCKET + c.args.bucket)
    (c.args.head, c.args.bucket, c.requires.knows.0, c.requires.knows.1) in
    omega (arith, within.small)

-- the bucket is filled, by this pass or another
pub returns-clause-answer : goal.returns-clause-answer
returns-clause-answer c =
    let place = c.args.head + FIRST_BUCKET + c.args.bucket in
    let v1 = c.load_sealed-exponent.new.pass.view in
    let v2 = c.load_sealed-predecessor.new.pass.view in
    let v4 = c.build_filling.new.pass.view in
    let v5 = c.init_bucket.new.pass.view in
    let predecessor = c.load_sealed-predecessor.result in
    let second = subst (λ (place : ℕ). LoadsSealed place v1 predecessor v2) c.predecessor_place.ensures c.load_sealed-predecessor.ensures.answer in
    filling_ensured c.args.head c.args.bucket c.args.pass.now.view c.requires.knows.0 c.requires.knows.1 v1 c.load_sealed-exponent.result
    c.load_sealed-exponent.ensures.answer v2 predecessor second c.if-predecessor-eq0.false c.load_sealed-before.new.pass.view
    c.load_sealed-before.result c.load_sealed-before.ensures.answer c.in-Ok.block v4 v5 c.in-Ok.ensures.answer c.sound-3.ensures.view
    (either_way c.init_bucket.result _ c.init_bucket.ensures.won c.init_bucket.ensures.lost (won_filling place c.in-Ok.block.at v4 v5)
    (λ _ lost. lost_filling place v4 v5 lost.2))

-- For the only pass: the generation of a nil bucket has one before,
pub returns-then-predecessor-eq0-clause-ledger : goal.returns-then-predecessor-eq0-clause-ledger
returns-then-predecessor-eq0-clause-ledger c =
    let v1 = c.load_sealed-exponent.new.pass.view in
    let v2 = c.load_sealed-predecessor.new.pass.view in
    let predecessor = c.load_sealed-predecessor.result in
    let second = subst (λ (place : ℕ). LoadsSealed place v1 predecessor v2) c.predecessor_place.ensures c.load_sealed-predecessor.ensures.answer in
    λ nil alone. absurd (never_first c.args.head c.args.bucket c.args.pass.now.view nil c.requires.knows.0 c.requires.knows.1.known
    c.sound.ensures.view v1 c.load_sealed-exponent.result c.load_sealed-exponent.ensures.answer v2 predecessor second c.if-predecessor-eq0.true)

-- the fill is Full where its draw is,
pub returns-in_default-clause-ledger : goal.returns-in_default-clause-ledger
returns-in_default-clause-ledger c =
    let head = c.args.head in
    let bucket = c.args.bucket in
    let v0 = c.args.pass.now.view in
    let v1 = c.load_sealed-exponent.new.pass.view in
    let v2 = c.load_sealed-predecessor.new.pass.view in
    let v3 = c.load_sealed-before.new.pass.view in
    let v4 = c.build_filling.new.pass.view in
    let exponent = c.load_sealed-exponent.result in
    let predecessor = c.load_sealed-predecessor.result in
    let before = c.load_sealed-before.result in
    let link = c.predecessor_place.result in
    let first = c.load_sealed-exponent.ensures.answer in
    let second = c.load_sealed-predecessor.ensures.answer in
    let third = c.load_sealed-before.ensures.answer in
    λ nil alone. ends_from (touch bucket) true v0 v3 v4
    (named_same head bucket v0 nil alone head link predecessor exponent predecessor before v1 v2 v3 first second third)
    (filling_full (record { head = head; bucket = bucket; exponent = exponent; predecessor = predecessor; before = before }) v3
    (named_nil head bucket v0 nil alone head link predecessor exponent predecessor before v1 v2 v3 first second third)
    (named_alone head bucket v0 nil alone head link predecessor exponent predecessor before v1 v2 v3 first second third)
    v4 c.in_default.ensures.ledger)

-- and else the exchange is won
pub returns-clause-ledger : goal.returns-clause-ledger
returns-clause-ledger c =
    let head = c.args.head in
    let bucket = c.args.bucket in
    let place = head + FIRST_BUCKET + bucket in
    let v0 = c.args.pass.now.view in
    let v1 = c.load_sealed-exponent.new.pass.view in
    let v2 = c.load_sealed-predecessor.new.pass.view in
    let v3 = c.load_sealed-before.new.pass.view in
    let v4 = c.build_filling.new.pass.view in
    let v5 = c.init_bucket.new.pass.view in
    let exponent = c.load_sealed-exponent.result in
    let predecessor = c.load_sealed-predecessor.result in
    let before = c.load_sealed-before.result in
    let link = c.predecessor_place.result in
    let first = c.load_sealed-exponent.ensures.answer in
    let second = c.load_sealed-predecessor.ensures.answer in
    let third = c.load_sealed-before.ensures.answer in
    let filling : Filling = record { head = head; bucket = bucket; exponent = exponent; predecessor = predecessor; before = before } in
    let follows = is_filling head bucket v0 c.requires.knows.0 c.requires.knows.1 v1 exponent first v2 predecessor
    (subst (λ (place : ℕ). LoadsSealed place v1 predecessor v2) c.predecessor_place.ensures second) c.if-predecessor-eq0.false v3 before third in
    λ nil alone.
    let still_nil = named_nil head bucket v0 nil alone head link predecessor exponent predecessor before v1 v2 v3 first second third in
    let still = named_alone head bucket v0 nil alone head link predecessor exponent predecessor before v1 v2 v3 first second third in
    ends_from (touch bucket) false v0 v3 v5
    (named_same head bucket v0 nil alone head link predecessor exponent predecessor before v1 v2 v3 first second third)
    (either_way c.init_bucket.result _ c.init_bucket.ensures.won c.init_bucket.ensures.lost
    (filling_won filling v3 still_nil still follows c.in-Ok.block v4 v5 c.in-Ok.ensures.answer c.in-Ok.ensures.ledger c.sound-3.ensures.view)
    (λ _ lost. filling_lost filling v3 still_nil still follows c.in-Ok.block v4 v5 c.in-Ok.ensures.answer c.in-Ok.ensures.ledger
    c.sound-3.ensures.view lost.2))
