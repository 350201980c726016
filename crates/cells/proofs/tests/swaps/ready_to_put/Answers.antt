use Rattle.std.proofs.Common.{rules, ◌≡◌, ℕ, ◌+◌, List, [], ◌∷◌, length, Some, refl, sym, ap, ◌∙◌, subst, arith}
use Rattle.set_model.specs.declared.call.Call.TheVariants.{Insert}
use Rattle.step_core.specs.Rising.{change_of}
use Rattle.step_core.specs.declared.format.TheConstants.{FIRST_BUCKET}
use Rattle.step_core.proofs.lists.Above.{increasing}
use Rattle.cells.specs.Exchanges.{MaySwapRow, swap_change}
use Rattle.cells.specs.Steps.{Writes}
use Rattle.cells.specs.Tokens.{BlockValue}
use Rattle.cells.proofs.laws.OnlyBucket.{knows_exponent, knows_first_bucket, knows_row_count, counts_keys, only_change, only_ready}
use Rattle.cells.proofs.laws.Within.{bucket_within}
use Rattle.cells.proofs.laws.WritesAddUp.{writes_both}
use Rattle.std.proofs.lemmas.List.{nil_from_length}
use Rattle.step_core.specs.Format.{IsNil, IsMutable, row_address}
use Rattle.cells.specs.Known.{keys_at}
use Rattle.cells.proofs.tests.swaps.ready_to_put.Goals as goal

-- a row that gets its first key
first_key : (keys : List ℕ) (key : ℕ) → length keys ≡ 0 → change_of keys (key ∷ []) ≡ Some (record { call = Insert; key = key })
unfolding change_of
first_key keys key none = ap (λ (keys : List ℕ). change_of keys (key ∷ [])) (nil_from_length keys none)

-- the head's first word may be loaded
pub load_sealed-exponent-requires-clause-knows : goal.load_sealed-exponent-requires-clause-knows
load_sealed-exponent-requires-clause-knows c =
    knows_exponent c.args.pass.now.view c.load_head-head.new.pass.view c.load_head-head.result c.load_head-head.ensures.answer

-- the bucket's word lies in the arena
pub overflow_add-head : goal.overflow_add-head
overflow_add-head c =
    let inside = bucket_within c.load_sealed-exponent.new.pass.view c.sound-2.ensures.view (c.load_head-head.result + FIRST_BUCKET)
    (knows_first_bucket c.args.pass.now.view c.load_head-head.new.pass.view c.load_sealed-exponent.new.pass.view c.load_head-head.result
    c.load_sealed-exponent.result c.load_head-head.ensures.answer c.load_sealed-exponent.ensures.answer) in
    omega (arith, inside.small)

-- it may be loaded
pub load_bucket-word-requires-clause-knows : goal.load_bucket-word-requires-clause-knows
load_bucket-word-requires-clause-knows c =
    knows_first_bucket c.args.pass.now.view c.load_head-head.new.pass.view c.load_sealed-exponent.new.pass.view c.load_head-head.result
    c.load_sealed-exponent.result c.load_head-head.ensures.answer c.load_sealed-exponent.ensures.answer

-- the row's first word may be loaded
pub load_sealed-count-requires-clause-knows : goal.load_sealed-count-requires-clause-knows
load_sealed-count-requires-clause-knows c =
    let some_row : ¬ IsNil c.load_bucket-word.result = search rules in
    knows_row_count c.args.pass.now.view c.load_head-head.new.pass.view c.load_sealed-exponent.new.pass.view c.load_head-head.result
    c.load_sealed-exponent.result c.load_head-head.ensures.answer c.load_sealed-exponent.ensures.answer c.load_bucket-word.new.pass.view
    c.load_bucket-word.result c.sound-2.ensures.view c.load_bucket-word.ensures.answer some_row

-- the bucket's word lies in the arena
pub overflow_add-result : goal.overflow_add-result
overflow_add-result c =
    let inside = bucket_within c.load_sealed-exponent.new.pass.view c.sound-2.ensures.view (c.load_head-head.result + FIRST_BUCKET)
    (knows_first_bucket c.args.pass.now.view c.load_head-head.new.pass.view c.load_sealed-exponent.new.pass.view c.load_head-head.result
    c.load_sealed-exponent.result c.load_head-head.ensures.answer c.load_sealed-exponent.ensures.answer) in
    omega (arith, inside.small)

-- the exchange may be made
pub returns-clause-ready : goal.returns-clause-ready
returns-clause-ready c =
    let at : ℕ = c.args.block.at in
    let place1 = ap (λ (b : BlockValue). b.at) c.write.ensures.block in
    let place2 = ap (λ (b : BlockValue). b.at) c.write-2.ensures.block ∙ place1 in
    let place3 = ap (λ (b : BlockValue). b.at) c.write-3.ensures.block ∙ place2 in
    let place4 = ap (λ (b : BlockValue). b.at) c.write-4.ensures.block ∙ place3 in
    let writes2 = writes_both at 0 1 (1 ∷ []) (0 ∷ []) c.load_sealed-count.new.pass.view c.write.new.pass.view c.write-2.new.pass.view refl c.write.ensures.writes
    (subst (λ (a : ℕ). Writes a 1 (0 ∷ []) c.write.new.pass.view c.write-2.new.pass.view) place1 c.write-2.ensures.writes) in
    let writes3 = writes_both at 0 2 (1 ∷ 0 ∷ []) (0 ∷ []) c.load_sealed-count.new.pass.view c.write-2.new.pass.view c.write-3.new.pass.view refl writes2
    (subst (λ (a : ℕ). Writes a 2 (0 ∷ []) c.write-2.new.pass.view c.write-3.new.pass.view) place2 c.write-3.ensures.writes) in
    let writes4 = writes_both at 0 3 (1 ∷ 0 ∷ 0 ∷ []) (c.args.key ∷ []) c.load_sealed-count.new.pass.view c.write-3.new.pass.view c.write-4.new.pass.view refl writes3
    (subst (λ (a : ℕ). Writes a 3 (c.args.key ∷ []) c.write-3.new.pass.view c.write-4.new.pass.view) place3 c.write-4.ensures.writes) in
    let some_row : ¬ IsNil c.load_bucket-word.result = search rules in
    let mutable : IsMutable c.load_bucket-word.result = search rules in
    let count = counts_keys c.args.pass.now.view c.load_head-head.new.pass.view c.load_sealed-exponent.new.pass.view c.load_head-head.result
    c.load_sealed-exponent.result c.load_head-head.ensures.answer c.load_sealed-exponent.ensures.answer c.load_bucket-word.new.pass.view
    c.load_bucket-word.result c.sound-2.ensures.view c.load_bucket-word.ensures.answer some_row c.load_sealed-count.new.pass.view c.load_sealed-count.result
    c.sound-3.ensures.view c.load_sealed-count.ensures.answer in
    let no_keys : c.load_sealed-count.result ≡ 0 = search rules in
    let changes = first_key (keys_at c.load_bucket-word.new.pass.view (row_address c.load_bucket-word.result)) c.args.key (count ∙ no_keys) in
    subst (MaySwapRow c.write-4.new.pass.view (c.load_head-head.result + FIRST_BUCKET) c.load_bucket-word.result) (sym place4)
    (only_ready c.args.pass.now.view c.load_head-head.new.pass.view c.load_sealed-exponent.new.pass.view c.load_head-head.result
    c.load_sealed-exponent.result c.load_head-head.ensures.answer c.load_sealed-exponent.ensures.answer c.load_bucket-word.new.pass.view
    c.load_bucket-word.result c.sound-2.ensures.view c.load_bucket-word.ensures.answer some_row c.load_sealed-count.new.pass.view c.load_sealed-count.result
    c.sound-3.ensures.view c.load_sealed-count.ensures.answer c.write-4.new.pass.view at (c.args.key ∷ []) writes4 c.requires.block c.sound-5.ensures.view c.requires.flight
    (record { call = Insert; key = c.args.key }) changes mutable (search rules) (increasing (c.args.key ∷ []) tt))

-- and makes that change
pub returns-clause-change : goal.returns-clause-change
returns-clause-change c =
    let at : ℕ = c.args.block.at in
    let place1 = ap (λ (b : BlockValue). b.at) c.write.ensures.block in
    let place2 = ap (λ (b : BlockValue). b.at) c.write-2.ensures.block ∙ place1 in
    let place3 = ap (λ (b : BlockValue). b.at) c.write-3.ensures.block ∙ place2 in
    let place4 = ap (λ (b : BlockValue). b.at) c.write-4.ensures.block ∙ place3 in
    let writes2 = writes_both at 0 1 (1 ∷ []) (0 ∷ []) c.load_sealed-count.new.pass.view c.write.new.pass.view c.write-2.new.pass.view refl c.write.ensures.writes
    (subst (λ (a : ℕ). Writes a 1 (0 ∷ []) c.write.new.pass.view c.write-2.new.pass.view) place1 c.write-2.ensures.writes) in
    let writes3 = writes_both at 0 2 (1 ∷ 0 ∷ []) (0 ∷ []) c.load_sealed-count.new.pass.view c.write-2.new.pass.view c.write-3.new.pass.view refl writes2
    (subst (λ (a : ℕ). Writes a 2 (0 ∷ []) c.write-2.new.pass.view c.write-3.new.pass.view) place2 c.write-3.ensures.writes) in
    let writes4 = writes_both at 0 3 (1 ∷ 0 ∷ 0 ∷ []) (c.args.key ∷ []) c.load_sealed-count.new.pass.view c.write-3.new.pass.view c.write-4.new.pass.view refl writes3
    (subst (λ (a : ℕ). Writes a 3 (c.args.key ∷ []) c.write-3.new.pass.view c.write-4.new.pass.view) place3 c.write-4.ensures.writes) in
    let some_row : ¬ IsNil c.load_bucket-word.result = search rules in
    let mutable : IsMutable c.load_bucket-word.result = search rules in
    let count = counts_keys c.args.pass.now.view c.load_head-head.new.pass.view c.load_sealed-exponent.new.pass.view c.load_head-head.result
    c.load_sealed-exponent.result c.load_head-head.ensures.answer c.load_sealed-exponent.ensures.answer c.load_bucket-word.new.pass.view
    c.load_bucket-word.result c.sound-2.ensures.view c.load_bucket-word.ensures.answer some_row c.load_sealed-count.new.pass.view c.load_sealed-count.result
    c.sound-3.ensures.view c.load_sealed-count.ensures.answer in
    let no_keys : c.load_sealed-count.result ≡ 0 = search rules in
    let changes = first_key (keys_at c.load_bucket-word.new.pass.view (row_address c.load_bucket-word.result)) c.args.key (count ∙ no_keys) in
    subst (λ (a : ℕ). swap_change c.write-4.new.pass.view c.load_bucket-word.result a ≡ Some (record { call = Insert; key = c.args.key })) (sym place4)
    (only_change c.args.pass.now.view c.load_head-head.new.pass.view c.load_sealed-exponent.new.pass.view c.load_head-head.result
    c.load_sealed-exponent.result c.load_head-head.ensures.answer c.load_sealed-exponent.ensures.answer c.load_bucket-word.new.pass.view
    c.load_bucket-word.result c.sound-2.ensures.view c.load_bucket-word.ensures.answer some_row c.load_sealed-count.new.pass.view c.load_sealed-count.result
    c.sound-3.ensures.view c.load_sealed-count.ensures.answer c.write-4.new.pass.view at (c.args.key ∷ []) writes4 c.requires.block c.sound-5.ensures.view c.requires.flight (record { call = Insert; key = c.args.key }) changes mutable)
