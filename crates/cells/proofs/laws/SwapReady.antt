-- When an exchange of a row may be made: after the load of a bucket of the turn's head, with a row in hand that makes one change.
use Rattle.std.proofs.Common.{◌≡◌, ℕ, List, ◌∷◌, ◌++◌, ◌+◌, drop, None, Some, inl, refl, sym, ap, ◌∙◌, subst, arith}
use Rattle.std.specs.List.{Contains}
use Rattle.std.specs.List.Sorted.{IsStrictlyIncreasing}
use Rattle.arena.specs.Hands.{words_at}
use Rattle.step_core.specs.Content.{InClass}
use Rattle.step_core.specs.Format.{IsNil, IsMutable, row_address, row_words}
use Rattle.step_core.specs.Rising.{Change, change_of}
use Rattle.step_core.specs.declared.format.TheConstants.{FIRST_BUCKET, FIRST_KEY}
use Rattle.step_core.specs.declared.published.Published.TheVariants.{Generation, Row}
use Rattle.step_core.specs.declared.published.GenerationBlock.{GenerationBlock}
use Rattle.step_core.specs.declared.views.BucketLoad.{BucketLoad}
use Rattle.step_core.specs.declared.views.Known.{Known}
use Rattle.step_core.specs.declared.views.OpenTurn.{OpenTurn}
use Rattle.step_core.specs.declared.views.PassView.{PassView}
use Rattle.cells.specs.Exchanges.{MaySwapRow, named_row, load_of, swap_change}
use Rattle.cells.specs.Known.{IsBucketWord, KnowsGeneration, KnowsRow, keys_at}
use Rattle.cells.specs.Sound.{IsSound}
use Rattle.cells.specs.Steps.{LoadsBucket}
use Rattle.cells.proofs.laws.BucketLoads.{load_bucket_among, load_bucket_known, load_bucket_knows}
use Rattle.cells.proofs.laws.Known.{knows_more, row_at-known}
use Rattle.cells.proofs.laws.Swaps.{content_keys-plain}

module _ (place at bucket word hand : ℕ) (generation : GenerationBlock) (before loaded now : PassView) (turn : OpenTurn)
    (open_turn : before.turn ≡ Some turn) (head : turn.head ≡ at) (sound : IsSound before)
    (is_word : IsBucketWord before place at bucket generation) (loads : LoadsBucket place before word loaded)
    (learned : List Known) (knows : now.known ≡ learned ++ loaded.known) (same_turn : now.turn ≡ loaded.turn)
    (sound_now : IsSound now) (no_flight : now.flight ≡ None) (some_row : ¬ IsNil word) (mutable : IsMutable word) where
  -- the row that the word names is known still
  row_known : KnowsRow now (row_address word) loads.row
  row_known = knows_more learned loaded now knows (row_address word) (Row loads.row) (load_bucket_knows place before word loaded loads some_row)

  named : named_row now word ≡ loads.row
  named = row_at-known now (row_address word) loads.row sound_now row_known

  named_known : KnowsRow now (row_address word) (named_row now word)
  named_known = subst (KnowsRow now (row_address word)) (sym named) row_known

  plain : (named_row now word).op ≡ 0
  plain = sound_now.no_op (row_address word) (named_row now word) named_known

  -- the open turn has the load
  among : (open_now : OpenTurn) × (loaded.turn ≡ Some open_now) × (open_now.head ≡ turn.head) × (open_now.seen ≡ turn.seen)
      × (open_now.loads ≡ load_of at bucket word ∷ turn.loads)
  among = load_bucket_among place before word loaded loads turn open_turn at bucket generation sound is_word mutable

  here : among.0.head ≡ at
  here = among.2 ∙ head

  -- A row in hand that makes one change of the known keys makes that change in the exchange.
  pub ready_change : (keys : List ℕ) → words_at now.hands hand ≡ row_words keys → (change : Change)
      → change_of (keys_at now (row_address word)) keys ≡ Some change → swap_change now word hand ≡ Some change
  ready_change keys built change changes =
      (λ i. change_of (content_keys-plain now (named_row now word) plain i) (ap (drop FIRST_KEY) built i)) ∙ changes

  -- The exchange may be made.
  pub swap_ready : (keys : List ℕ) → words_at now.hands hand ≡ row_words keys → IsStrictlyIncreasing keys → (change : Change)
      → change_of (keys_at now (row_address word)) keys ≡ Some change → InClass generation.exponent bucket change.key
      → MaySwapRow now place word hand
  swap_ready keys built rising change changes class = record {
    turn = among.0;
    is_turn = same_turn ∙ among.1;
    bucket = bucket;
    generation = generation;
    is_word = record {
      known = subst (λ (h : ℕ). KnowsGeneration now h generation) (sym here)
          (knows_more learned loaded now knows at (Generation generation)
          (knows_more (load_bucket_known place before word loaded loads).0 before loaded (load_bucket_known place before word loaded loads).1
          at (Generation generation) is_word.known));
      within = is_word.within;
      here = is_word.here ∙ ap (λ (h : ℕ). h + FIRST_BUCKET + bucket) (sym here);
    };
    loaded = subst (λ (z : List BucketLoad × ℕ). Contains z.0 (load_of z.1 bucket word)) (λ i. (sym among.4 i, sym here i)) (0, omega arith, refl);
    some_row = some_row;
    mutable = mutable;
    known = named_known;
    settled = inl plain;
    keys = keys;
    built = built;
    rising = rising;
    change = change;
    is_change = ready_change keys built change changes;
    class = class;
    no_flight = no_flight;
  }
