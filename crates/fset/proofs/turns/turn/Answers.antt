use Rattle.std.proofs.Common.{ℕ, ◌-◌, sym, ◌∙◌, subst, arith}
use Rattle.cells.specs.Exchanges.{SwapsRow}
use Rattle.step_core.specs.declared.format.TheConstants.{FIRST_KEY}
use Rattle.cells.specs.Known.{keys_at}
use Rattle.fset.specs.Content.{loads_to_find}
use Rattle.fset.proofs.laws.AloneRows.{still_alone}
use Rattle.fset.proofs.laws.AloneTurning.{full_alone, never_filled, reads_alone, swaps_alone}
use Rattle.fset.proofs.laws.Turning.{answered_by_exchange, answered_by_reading, changed_small, frozen_turn, full_turn, is_change, is_seen_still, lost_turn, may_exchange, nil_turn, row_small}
use Rattle.fset.proofs.turns.turn.Goals as goal

-- the key's bucket was frozen
pub returns-in-Frozen-clause-answer : goal.returns-in-Frozen-clause-answer
returns-in-Frozen-clause-answer c =
    frozen_turn c.args.call c.args.key c.args.pass.now.view c.seek-sought.new.pass.view c.in-Frozen.ensures.answer c.sound.ensures.view

-- it was nil, and no block to fill it with was to be had
pub returns-in-Full-clause-answer : goal.returns-in-Full-clause-answer
returns-in-Full-clause-answer c =
    nil_turn c.args.call c.args.key c.args.pass.now.view c.seek-sought.new.pass.view c.in-Full.ensures.answer

-- a row has fewer keys than the arena has words
pub overflow_cast-result : goal.overflow_cast-result
overflow_cast-result c =
    let v0 = c.args.pass.now.view in
    let v1 = c.seek-sought.new.pass.view in
    let v2 = c.place_among-place.new.pass.view in
    let sought = c.in-Found.sought in
    let place = c.place_among-place in
    let loads = loads_to_find (keys_at v1 sought.row.at) c.args.key in
    let small = row_small c.args.key c.args.call v0 v1 v2 sought c.in-Found.ensures.answer loads place.ensures.view
    c.sound-2.ensures.view place.result.taken place.ensures.taken c.requires.call.0 in
    omega (arith, small)

-- the call wouldn't change the content
pub returns-then-not-answer-clause-answer : goal.returns-then-not-answer-clause-answer
returns-then-not-answer-clause-answer c =
    let v0 = c.args.pass.now.view in
    let v1 = c.seek-sought.new.pass.view in
    let v2 = c.place_among-place.new.pass.view in
    let sought = c.in-Found.sought in
    let place = c.place_among-place in
    let loads = loads_to_find (keys_at v1 sought.row.at) c.args.key in
    answered_by_reading c.args.key c.args.call v0 v1 v2 sought c.in-Found.ensures.answer loads place.ensures.view c.sound-2.ensures.view
    place.result.taken place.ensures.taken c.requires.call.0 (c.args.pass.now.calls - 1) (sym c.if-not-answer.ensures)

-- the row is still as it was read
pub build_at-requires-clause-knows : goal.build_at-requires-clause-knows
build_at-requires-clause-knows c =
    let v0 = c.args.pass.now.view in
    let v1 = c.seek-sought.new.pass.view in
    let v2 = c.place_among-place.new.pass.view in
    let sought = c.in-Found.sought in
    let place = c.place_among-place in
    let loads = loads_to_find (keys_at v1 sought.row.at) c.args.key in
    is_seen_still c.args.key c.args.call v0 v1 v2 sought c.in-Found.ensures.answer loads place.ensures.view c.sound-2.ensures.view
    place.result.taken place.ensures.taken c.requires.call.0

-- no block was to be had
pub returns-in_default-clause-answer : goal.returns-in_default-clause-answer
returns-in_default-clause-answer c =
    let v0 = c.args.pass.now.view in
    let v1 = c.seek-sought.new.pass.view in
    let v2 = c.place_among-place.new.pass.view in
    let sought = c.in-Found.sought in
    let place = c.place_among-place in
    let loads = loads_to_find (keys_at v1 sought.row.at) c.args.key in
    full_turn c.args.key c.args.call v0 v1 v2 sought c.in-Found.ensures.answer loads place.ensures.view c.sound-2.ensures.view
    place.result.taken place.ensures.taken c.requires.call.0 (sym c.if-not-answer.ensures) c.build_at.new.pass.view c.in_default.ensures.full

-- nor is the new row too wide
pub overflow_cast-width : goal.overflow_cast-width
overflow_cast-width c =
    let v0 = c.args.pass.now.view in
    let v1 = c.seek-sought.new.pass.view in
    let v2 = c.place_among-place.new.pass.view in
    let sought = c.in-Found.sought in
    let place = c.place_among-place in
    let loads = loads_to_find (keys_at v1 sought.row.at) c.args.key in
    let small = changed_small c.args.key c.args.call v0 v1 v2 sought c.in-Found.ensures.answer loads place.ensures.view
    c.sound-2.ensures.view place.result.taken place.ensures.taken c.requires.call.0 (sym c.if-not-answer.ensures) c.in-Ok.block
    c.build_at.new.pass.view c.in-Ok.ensures.answer c.sound-3.ensures.view in
    omega (arith, small, c.len.ensures)

-- the exchange may be made
pub swap_row-exchanged-requires-clause-swap : goal.swap_row-exchanged-requires-clause-swap
swap_row-exchanged-requires-clause-swap c =
    let v0 = c.args.pass.now.view in
    let v1 = c.seek-sought.new.pass.view in
    let v2 = c.place_among-place.new.pass.view in
    let sought = c.in-Found.sought in
    let place = c.place_among-place in
    let loads = loads_to_find (keys_at v1 sought.row.at) c.args.key in
    may_exchange c.args.key c.args.call v0 v1 v2 sought c.in-Found.ensures.answer loads place.ensures.view c.sound-2.ensures.view
    place.result.taken place.ensures.taken c.requires.call.0 (sym c.if-not-answer.ensures) c.in-Ok.block
    c.build_at.new.pass.view c.in-Ok.ensures.answer c.sound-3.ensures.view c.requires.idle

-- it was won
pub returns-in-Ok-exchanged-clause-answer : goal.returns-in-Ok-exchanged-clause-answer
returns-in-Ok-exchanged-clause-answer c =
    let v0 = c.args.pass.now.view in
    let v1 = c.seek-sought.new.pass.view in
    let v2 = c.place_among-place.new.pass.view in
    let sought = c.in-Found.sought in
    let place = c.place_among-place in
    let loads = loads_to_find (keys_at v1 sought.row.at) c.args.key in
    answered_by_exchange c.args.key c.args.call v0 v1 v2 sought c.in-Found.ensures.answer loads place.ensures.view c.sound-2.ensures.view
    place.result.taken place.ensures.taken c.requires.call.0 (sym c.if-not-answer.ensures) c.in-Ok.block
    c.build_at.new.pass.view c.in-Ok.ensures.answer c.sound-3.ensures.view c.swap_row-exchanged.new.pass.view (c.args.pass.now.calls - 1)
    (subst (λ (calls : ℕ). SwapsRow (calls - 1) sought.word c.in-Ok.block.at c.build_at.new.pass.view c.swap_row-exchanged.new.pass.view)
    (c.build_at.ensures.pass.calls ∙ place.ensures.pass.calls ∙ c.seek-sought.ensures.pass.calls) c.in-Ok-exchanged.ensures.won)
    (c.len.result - FIRST_KEY) c.sound-4.ensures.view c.requires.idle (omega (arith, c.len.ensures, c.in-Ok.ensures.answer.long))

-- it was lost
pub returns-in-Err-clause-answer : goal.returns-in-Err-clause-answer
returns-in-Err-clause-answer c =
    let v0 = c.args.pass.now.view in
    let v1 = c.seek-sought.new.pass.view in
    let v2 = c.place_among-place.new.pass.view in
    let sought = c.in-Found.sought in
    let place = c.place_among-place in
    let loads = loads_to_find (keys_at v1 sought.row.at) c.args.key in
    lost_turn c.args.key c.args.call v0 v1 v2 sought c.in-Found.ensures.answer loads place.ensures.view c.sound-2.ensures.view
    place.result.taken place.ensures.taken c.requires.call.0 (sym c.if-not-answer.ensures) c.in-Ok.block
    c.build_at.new.pass.view c.in-Ok.ensures.answer c.sound-3.ensures.view c.swap_row-exchanged.new.pass.view c.in-Err.ensures.lost.2

-- For the only pass: the bucket isn't frozen,
pub returns-in-Frozen-clause-ledger : goal.returns-in-Frozen-clause-ledger
returns-in-Frozen-clause-ledger c = λ alone. c.in-Frozen.ensures.ledger alone

-- a nil bucket can't be filled where the ledger says so,
pub returns-in-Full-clause-ledger : goal.returns-in-Full-clause-ledger
returns-in-Full-clause-ledger c =
    λ alone. never_filled c.args.call c.args.key c.args.pass.now.view c.seek-sought.new.pass.view (c.in-Full.ensures.ledger alone)

-- what is read is the ledger's answer,
pub returns-then-not-answer-clause-ledger : goal.returns-then-not-answer-clause-ledger
returns-then-not-answer-clause-ledger c =
    let v1 = c.seek-sought.new.pass.view in
    let sought = c.in-Found.sought in
    let place = c.place_among-place in
    λ alone. reads_alone c.args.key c.args.call c.args.pass.now.view v1 place.new.pass.view sought (c.in-Found.ensures.ledger alone)
    (loads_to_find (keys_at v1 sought.row.at) c.args.key) place.ensures.view place.result.taken place.ensures.taken
    (sym c.if-not-answer.ensures) c.in-Found.ensures.answer.under_way.seen.count

-- the row's draw is Full where the ledger's is,
pub returns-in_default-clause-ledger : goal.returns-in_default-clause-ledger
returns-in_default-clause-ledger c =
    let v0 = c.args.pass.now.view in
    let v1 = c.seek-sought.new.pass.view in
    let v2 = c.place_among-place.new.pass.view in
    let sought = c.in-Found.sought in
    let place = c.place_among-place in
    λ alone. full_alone c.args.key c.args.call v0 v1 v2 sought (c.in-Found.ensures.ledger alone)
    (loads_to_find (keys_at v1 sought.row.at) c.args.key) place.ensures.view place.result.taken place.ensures.taken
    (still_alone v0 v2 (place.ensures.pass.facts ∙ c.seek-sought.ensures.pass.facts) alone) c.sound-2.ensures.view
    (sym c.if-not-answer.ensures) c.build_at.new.pass.view c.in_default.ensures.full

-- the exchange changes the ledger,
pub returns-in-Ok-exchanged-clause-ledger : goal.returns-in-Ok-exchanged-clause-ledger
returns-in-Ok-exchanged-clause-ledger c =
    let v0 = c.args.pass.now.view in
    let v1 = c.seek-sought.new.pass.view in
    let v2 = c.place_among-place.new.pass.view in
    let v3 = c.build_at.new.pass.view in
    let sought = c.in-Found.sought in
    let place = c.place_among-place in
    let loads = loads_to_find (keys_at v1 sought.row.at) c.args.key in
    λ alone. swaps_alone c.args.key c.args.call v0 v1 v2 sought (c.in-Found.ensures.ledger alone) loads place.ensures.view place.result.taken
    place.ensures.taken (still_alone v0 v2 (place.ensures.pass.facts ∙ c.seek-sought.ensures.pass.facts) alone) c.sound-2.ensures.view
    (sym c.if-not-answer.ensures) c.in-Ok.block v3 c.swap_row-exchanged.new.pass.view (c.build_at.new.pass.calls - 1) (c.len.result - FIRST_KEY)
    c.in-Ok.ensures.answer
    (is_change c.args.key c.args.call v0 v1 v2 sought c.in-Found.ensures.answer loads place.ensures.view c.sound-2.ensures.view place.result.taken
    place.ensures.taken c.requires.call.0 (sym c.if-not-answer.ensures) c.in-Ok.block v3 c.in-Ok.ensures.answer c.sound-3.ensures.view)
    c.in-Ok-exchanged.ensures.won (omega (arith, c.len.ensures, c.in-Ok.ensures.answer.long))

-- and it isn't lost
pub returns-in-Err-clause-ledger : goal.returns-in-Err-clause-ledger
returns-in-Err-clause-ledger c =
    λ alone. c.in-Err.ensures.lost.2.others
    (still_alone c.args.pass.now.view c.build_at.new.pass.view
    (c.build_at.ensures.pass.facts ∙ c.place_among-place.ensures.pass.facts ∙ c.seek-sought.ensures.pass.facts) alone)
