use Rattle.std.proofs.Common.{◌≡◌, ℕ, ◌+◌, true, false, sym, ap, ◌∙◌, subst, arith}
use Rattle.std.proofs.lemmas.Nat.{pow_pos}
use Rattle.step_core.specs.Buckets.{class_keys}
use Rattle.step_core.specs.Format.{IsNil, IsMutable, row_address}
use Rattle.step_core.specs.Ledger.{Ledger, bucket_keys}
use Rattle.step_core.specs.Rising.{keys_after}
use Rattle.step_core.specs.declared.format.TheConstants.{FIRST_BUCKET}
use Rattle.step_core.specs.declared.published.GenerationBlock.{GenerationBlock}
use Rattle.step_core.specs.declared.views.PassView.{PassView}
use Rattle.step_core.specs.declared.views.RoundFacts.{RoundFacts}
use Rattle.cells.specs.Known.{IsBucketWord, KnowsBucket, keys_at}
use Rattle.cells.specs.Lone.{first_generation, head_at, head_generation, ledger_of}
use Rattle.cells.specs.Sound.{IsSound}
use Rattle.cells.specs.Steps.{LoadsBucket, LoadsHead, LoadsKnownBucket, LoadsKnownHead}
use Rattle.cells.proofs.laws.BucketKeys.{load_bucket_keys}
use Rattle.cells.proofs.laws.BucketLoads.{is_nil-nil}
use Rattle.cells.proofs.laws.HeadLoads.{load_head_knows}
use Rattle.cells.proofs.laws.Lone.{generation_in-first, ledger_of-keys, ledger_of-exponent, ledger_of-untouched}
use Rattle.cells.proofs.laws.Within.{bucket_within}
use Rattle.cells.proofs.tests.lone.load_first_bucket.Goals as goal

-- the place is the word of the head's first bucket
first_bucket : (old new : PassView) (head : ℕ) (loads : LoadsHead old head new)
    → IsBucketWord new (head + FIRST_BUCKET) head 0 loads.generation
first_bucket old new head loads = record {
  known = load_head_knows old head new loads;
  within = pow_pos loads.generation.exponent;
  here = omega arith;
}

-- so it may be loaded
knows_first_bucket : (old new : PassView) (head : ℕ) → LoadsHead old head new → KnowsBucket new (head + FIRST_BUCKET)
knows_first_bucket old new head loads = (head, 0, loads.generation, first_bucket old new head loads)

module _ (old middle new : PassView) (head word : ℕ) (first : LoadsHead old head middle) (second : LoadsBucket (head + FIRST_BUCKET) middle word new)
    (facts : middle.facts ≡ old.facts) (alone : old.facts.seats ≡ 1) where
  -- what the only pass knows of the head and of the bucket
  known : LoadsKnownHead old head first.generation middle
  known = first.alone alone

  lone : LoadsKnownBucket (head + FIRST_BUCKET) middle word new
  lone = second.alone (ap (λ (f : RoundFacts). f.seats) facts ∙ alone)

  -- the head that it knows is the one that it loaded
  head_is : head ≡ head_at middle
  head_is = sym (ap head_at first.view)

  generation_is : first.generation ≡ head_generation middle
  generation_is = sym (ap head_generation first.view ∙ generation_in-first head first.generation (first_generation old.facts) old.known)

  own_bucket : IsBucketWord middle (head + FIRST_BUCKET) (head_at middle) 0 (head_generation middle)
  own_bucket = subst (λ (z : ℕ × GenerationBlock). IsBucketWord middle (head + FIRST_BUCKET) z.0 0 z.1) (λ i. (head_is i, generation_is i))
      (first_bucket old middle head first)

  -- so the word is even,
  is_mutable : IsMutable word
  is_mutable = lone.mutable 0 own_bucket

  -- and it isn't 0 where the bucket isn't untouched
  is_filled : (ledger_of old).untouched 0 ≡ false → ¬ IsNil word
  is_filled touched nil =
      let test : true ≡ false =
      sym (is_nil-nil word nil) ∙ lone.nil 0 own_bucket ∙ sym (ledger_of-untouched middle 0)
      ∙ ap (λ (l : Ledger). l.untouched 0) known.same.ledger ∙ touched in cc

  -- its row has the keys of the ledger, in whose exponent the load of the head changed nothing
  row_as_told : IsSound middle → IsSound new → new.facts ≡ middle.facts → (ledger_of old).untouched 0 ≡ false
      → keys_at new (row_address word) ≡ bucket_keys 0 (ledger_of new)
  row_as_told sound sound_new facts_new touched =
      let exponent : first.generation.exponent ≡ (ledger_of new).exponent =
      ap (λ (g : GenerationBlock). g.exponent) known.generation_is
      ∙ sym (ledger_of-exponent old)
      ∙ sym (ap (λ (l : Ledger). l.exponent) (lone.same.ledger ∙ known.same.ledger)) in
      let keys : keys_after middle.facts.keys new.front ≡ (ledger_of new).keys =
      ap (λ (f : RoundFacts). keys_after f.keys new.front) (sym facts_new) ∙ sym (ledger_of-keys new) in
      load_bucket_keys (head + FIRST_BUCKET) middle word new second sound_new (is_filled touched) head 0 first.generation
      (first_bucket old middle head first) is_mutable sound.facts.rising
      ∙ (λ i. class_keys (exponent i) 0 (keys i))

-- the bucket's word lies in the arena
pub overflow_add-head : goal.overflow_add-head
overflow_add-head c =
    let old = c.args.pass.now.view in
    let new = c.load_head-head.new.pass.view in
    let inside = bucket_within new c.sound.ensures.view (c.load_head-head.result + FIRST_BUCKET)
    (knows_first_bucket old new c.load_head-head.result c.load_head-head.ensures.answer) in
    omega (arith, inside.small)

-- it may be loaded
pub load_bucket-word-requires-clause-knows : goal.load_bucket-word-requires-clause-knows
load_bucket-word-requires-clause-knows c =
    knows_first_bucket c.args.pass.now.view c.load_head-head.new.pass.view c.load_head-head.result c.load_head-head.ensures.answer

-- it is neither nil nor frozen
pub returns-clause-filled : goal.returns-clause-filled
returns-clause-filled c =
    is_filled c.args.pass.now.view c.load_head-head.new.pass.view c.load_bucket-word.new.pass.view c.load_head-head.result
    c.load_bucket-word.result c.load_head-head.ensures.answer c.load_bucket-word.ensures.answer c.load_head-head.ensures.pass.facts
    c.requires.alone c.requires.filled

pub returns-clause-mutable : goal.returns-clause-mutable
returns-clause-mutable c =
    is_mutable c.args.pass.now.view c.load_head-head.new.pass.view c.load_bucket-word.new.pass.view c.load_head-head.result
    c.load_bucket-word.result c.load_head-head.ensures.answer c.load_bucket-word.ensures.answer c.load_head-head.ensures.pass.facts
    c.requires.alone

-- its row has the keys of the ledger
pub returns-clause-row : goal.returns-clause-row
returns-clause-row c =
    row_as_told c.args.pass.now.view c.load_head-head.new.pass.view c.load_bucket-word.new.pass.view c.load_head-head.result
    c.load_bucket-word.result c.load_head-head.ensures.answer c.load_bucket-word.ensures.answer c.load_head-head.ensures.pass.facts
    c.requires.alone c.sound.ensures.view c.sound-2.ensures.view c.load_bucket-word.ensures.pass.facts c.requires.filled
