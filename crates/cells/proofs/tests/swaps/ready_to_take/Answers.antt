use Rattle.std.proofs.Common.{rules, ◌≡◌, ℕ, ◌+◌, List, [], ◌∷◌, length, Some, refl, sym, ap, ◌∙◌, subst, arith}
use Rattle.set_model.specs.declared.call.Call.TheVariants.{Remove}
use Rattle.step_core.specs.Rising.{change_of}
use Rattle.step_core.specs.declared.format.TheConstants.{FIRST_BUCKET}
use Rattle.step_core.proofs.lists.Above.{increasing}
use Rattle.cells.specs.Exchanges.{MaySwapRow}
use Rattle.cells.specs.Steps.{Writes}
use Rattle.cells.specs.Tokens.{BlockValue}
use Rattle.cells.proofs.laws.OnlyBucket.{knows_exponent, knows_first_bucket, knows_row_count, counts_keys, only_ready}
use Rattle.cells.proofs.laws.Within.{bucket_within}
use Rattle.cells.proofs.laws.WritesAddUp.{writes_both}
use Rattle.step_core.specs.Format.{IsNil, IsMutable, row_address}
use Rattle.step_core.specs.Rising.{Change}
use Rattle.cells.specs.Known.{keys_at}
use Rattle.cells.proofs.tests.swaps.ready_to_take.Goals as goal

-- a row that loses its only key
last_key : (keys : List ℕ) → length keys ≡ 1 → (change : Change) × (change_of keys [] ≡ Some change)
unfolding change_of
last_key [] one = absurd (omega arith)
last_key (key ∷ []) one = (record { call = Remove; key = key }, refl)
last_key (key ∷ next ∷ keys) one = absurd (omega arith)

-- the head's first word may be loaded
pub load_sealed-exponent-requires-clause-knows : goal.load_sealed-exponent-requires-clause-knows
load_sealed-exponent-requires-clause-knows c =
    knows_exponent c.args.pass.now.view c.load_head-head.new.pass.view c.load_head-head.result c.load_head-head.ensures.answer

-- the bucket's word lies in the arena
pub overflow_add-head : goal.overflow_add-head
overflow_add-head c =
    let inside = bucket_within c.load_sealed-exponent.new.pass.view c.sound-2.ensures.view (c.load_head-head.result + FIRST_BUCKET)
    (knows_first_bucket c.args.pass.now.view c.load_head-head.new.pass.view c.load_sealed-exponent.new.pass.view c.load_head-head.result
    c.load_sealed-exponent.result c.load_head-head.ensures.answer c.load_sealed-exponent.ensures.answer) in
    omega (arith, inside.small)

-- it may be loaded
pub load_bucket-word-requires-clause-knows : goal.load_bucket-word-requires-clause-knows
load_bucket-word-requires-clause-knows c =
    knows_first_bucket c.args.pass.now.view c.load_head-head.new.pass.view c.load_sealed-exponent.new.pass.view c.load_head-head.result
    c.load_sealed-exponent.result c.load_head-head.ensures.answer c.load_sealed-exponent.ensures.answer

-- the row's first word may be loaded
pub load_sealed-count-requires-clause-knows : goal.load_sealed-count-requires-clause-knows
load_sealed-count-requires-clause-knows c =
    let some_row : ¬ IsNil c.load_bucket-word.result = search rules in
    knows_row_count c.args.pass.now.view c.load_head-head.new.pass.view c.load_sealed-exponent.new.pass.view c.load_head-head.result
    c.load_sealed-exponent.result c.load_head-head.ensures.answer c.load_sealed-exponent.ensures.answer c.load_bucket-word.new.pass.view
    c.load_bucket-word.result c.sound-2.ensures.view c.load_bucket-word.ensures.answer some_row

-- the bucket's word lies in the arena
pub overflow_add-result : goal.overflow_add-result
overflow_add-result c =
    let inside = bucket_within c.load_sealed-exponent.new.pass.view c.sound-2.ensures.view (c.load_head-head.result + FIRST_BUCKET)
    (knows_first_bucket c.args.pass.now.view c.load_head-head.new.pass.view c.load_sealed-exponent.new.pass.view c.load_head-head.result
    c.load_sealed-exponent.result c.load_head-head.ensures.answer c.load_sealed-exponent.ensures.answer) in
    omega (arith, inside.small)

-- the exchange may be made
pub returns-clause-ready : goal.returns-clause-ready
returns-clause-ready c =
    let at : ℕ = c.args.block.at in
    let place1 = ap (λ (b : BlockValue). b.at) c.write.ensures.block in
    let place2 = ap (λ (b : BlockValue). b.at) c.write-2.ensures.block ∙ place1 in
    let place3 = ap (λ (b : BlockValue). b.at) c.write-3.ensures.block ∙ place2 in
    let writes2 = writes_both at 0 1 (0 ∷ []) (0 ∷ []) c.load_sealed-count.new.pass.view c.write.new.pass.view c.write-2.new.pass.view refl c.write.ensures.writes
    (subst (λ (a : ℕ). Writes a 1 (0 ∷ []) c.write.new.pass.view c.write-2.new.pass.view) place1 c.write-2.ensures.writes) in
    let writes3 = writes_both at 0 2 (0 ∷ 0 ∷ []) (0 ∷ []) c.load_sealed-count.new.pass.view c.write-2.new.pass.view c.write-3.new.pass.view refl writes2
    (subst (λ (a : ℕ). Writes a 2 (0 ∷ []) c.write-2.new.pass.view c.write-3.new.pass.view) place2 c.write-3.ensures.writes) in
    let some_row : ¬ IsNil c.load_bucket-word.result = search rules in
    let mutable : IsMutable c.load_bucket-word.result = search rules in
    let count = counts_keys c.args.pass.now.view c.load_head-head.new.pass.view c.load_sealed-exponent.new.pass.view c.load_head-head.result
    c.load_sealed-exponent.result c.load_head-head.ensures.answer c.load_sealed-exponent.ensures.answer c.load_bucket-word.new.pass.view
    c.load_bucket-word.result c.sound-2.ensures.view c.load_bucket-word.ensures.answer some_row c.load_sealed-count.new.pass.view c.load_sealed-count.result
    c.sound-3.ensures.view c.load_sealed-count.ensures.answer in
    let one_key : c.load_sealed-count.result ≡ 1 = search rules in
    let last = last_key (keys_at c.load_bucket-word.new.pass.view (row_address c.load_bucket-word.result)) (count ∙ one_key) in
    subst (MaySwapRow c.write-3.new.pass.view (c.load_head-head.result + FIRST_BUCKET) c.load_bucket-word.result) (sym place3)
    (only_ready c.args.pass.now.view c.load_head-head.new.pass.view c.load_sealed-exponent.new.pass.view c.load_head-head.result
    c.load_sealed-exponent.result c.load_head-head.ensures.answer c.load_sealed-exponent.ensures.answer c.load_bucket-word.new.pass.view
    c.load_bucket-word.result c.sound-2.ensures.view c.load_bucket-word.ensures.answer some_row c.load_sealed-count.new.pass.view c.load_sealed-count.result
    c.sound-3.ensures.view c.load_sealed-count.ensures.answer c.write-3.new.pass.view at [] writes3 c.requires.block c.sound-5.ensures.view c.requires.flight
    last.0 last.1 mutable (search rules) (increasing [] tt))
