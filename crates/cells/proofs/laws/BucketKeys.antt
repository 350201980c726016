-- The keys of a row that a bucket's load made known: they rise, are of the bucket's class, and are what the history leaves there.
use Rattle.std.proofs.Common.{◌≡◌, ℕ, List, All, sym, ap, ◌∙◌, subst}
use Rattle.std.specs.List.Sorted.{IsStrictlyIncreasing}
use Rattle.set_model.specs.History.{members_after}
use Rattle.set_model.specs.Keys.{is_in}
use Rattle.set_model.specs.declared.entry.Entry.{Entry}
use Rattle.step_core.specs.Buckets.{class_keys, key_bucket}
use Rattle.step_core.specs.Content.{InClass}
use Rattle.step_core.specs.Format.{IsNil, IsMutable, row_address}
use Rattle.step_core.specs.Rising.{keys_after}
use Rattle.step_core.specs.declared.published.GenerationBlock.{GenerationBlock}
use Rattle.step_core.specs.declared.published.RowBlock.{RowBlock}
use Rattle.step_core.specs.declared.views.PassView.{PassView}
use Rattle.step_core.proofs.lists.Histories.{IsStrictlyIncreasing-after, is_in-after, class_only}
use Rattle.cells.specs.Known.{KnowsRow, IsBucketWord, row_at, keys_at}
use Rattle.cells.specs.Sound.{IsSound}
use Rattle.cells.specs.Steps.{LoadsBucket}
use Rattle.cells.proofs.laws.BucketLoads.{load_bucket_knows, load_bucket_mutable}
use Rattle.cells.proofs.laws.Known.{row_at-known}

module _ (place : ℕ) (old : PassView) (word : ℕ) (new : PassView) (loads : LoadsBucket place old word new)
    (sound : IsSound new) (filled : ¬ IsNil word) where
  -- The lookup finds that row.
  pub load_bucket_row : row_at new.known (row_address word) ≡ loads.row
  load_bucket_row = row_at-known new (row_address word) loads.row sound (load_bucket_knows place old word new loads filled)

  -- What the lookup finds there is known.
  pub load_bucket_row_known : KnowsRow new (row_address word) (row_at new.known (row_address word))
  load_bucket_row_known =
      subst (KnowsRow new (row_address word)) (sym load_bucket_row) (load_bucket_knows place old word new loads filled)

  -- The keys that are known there rise.
  pub load_bucket_rises : IsStrictlyIncreasing (keys_at new (row_address word))
  load_bucket_rises = (sound.rows (row_address word) (row_at new.known (row_address word)) load_bucket_row_known).rising

  module _ (at bucket : ℕ) (generation : GenerationBlock) (is_word : IsBucketWord old place at bucket generation) where
    -- They are of the bucket's class.
    pub load_bucket_class : All (InClass generation.exponent bucket) (keys_at new (row_address word))
    load_bucket_class =
        let home = loads.home at bucket generation is_word filled in
        subst (λ (row : RowBlock). All (InClass generation.exponent bucket) row.keys) (sym load_bucket_row)
        (subst (λ (e : ℕ). All (InClass e bucket) loads.row.keys) home.0
        (subst (λ (b : ℕ). All (InClass loads.row.exponent b) loads.row.keys) home.1
        (sound.rows (row_address word) loads.row (load_bucket_knows place old word new loads filled)).class))

    -- So far it has no operation.
    load_bucket_plain : loads.row.op ≡ 0
    load_bucket_plain = sound.no_op (row_address word) loads.row (load_bucket_knows place old word new loads filled)

    module _ (mutable : IsMutable word) where
      -- Of its class a mutable row has the keys that the set at the front has.
      pub load_bucket_agrees : (key : ℕ) → InClass generation.exponent bucket key
          → is_in (keys_at new (row_address word)) key ≡ members_after (is_in old.facts.keys) new.front key
      load_bucket_agrees key class =
          let home = loads.home at bucket generation is_word filled in
          ap (λ (row : RowBlock). is_in row.keys key) load_bucket_row
          ∙ loads.agrees filled mutable load_bucket_plain key (ap (λ (e : ℕ). key_bucket e key) home.0 ∙ class ∙ sym home.1)
          ∙ ap (λ (front : List Entry). members_after (is_in old.facts.keys) front key)
          (sym (load_bucket_mutable place old word new loads mutable))

      -- So its keys are those of the bucket in the set at the front, as rising lists.
      pub load_bucket_keys : IsStrictlyIncreasing old.facts.keys
          → keys_at new (row_address word) ≡ class_keys generation.exponent bucket (keys_after old.facts.keys new.front)
      load_bucket_keys rising =
          let all = keys_after old.facts.keys new.front in
          let rises = IsStrictlyIncreasing-after old.facts.keys new.front rising in
          class_only generation.exponent bucket (keys_at new (row_address word)) all load_bucket_rises rises load_bucket_class
          (λ key class. load_bucket_agrees key class ∙ sym (is_in-after old.facts.keys new.front rising key))
