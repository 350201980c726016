-- What the load of a bucket leaves and tells, by fields of the view.
use Rattle.std.proofs.Common.{◌≡◌, ◌≢◌, ℕ, ◌+◌, ◌%◌, ◌&&◌, ◌⊎◌, Bool, true, false, cond, nat_eq, List, [], ◌∷◌, ◌++◌, Option, Some, None, refl, sym, ap, ap₂, ◌∙◌, subst, inl, inr, ⊎_elim, eq-eqb, ne_eqb, arith}
use Rattle.std.proofs.lemmas.Bool.{cases_Bool}
use native.Mathlib.Decide.{ℕ_discrete}
use mathlib.Core.List.{IsPrefix}
use base.Growing.{prefix_refl}
use Rattle.set_model.specs.declared.entry.Entry.{Entry}
use Rattle.step_core.specs.Format.{IsNil, IsMutable, IsFrozen, row_address}
use Rattle.step_core.specs.declared.published.Published.TheVariants.{Row}
use Rattle.step_core.specs.declared.published.GenerationBlock.{GenerationBlock}
use Rattle.step_core.specs.declared.views.Known.{Known}
use Rattle.step_core.specs.declared.views.BucketLoad.{BucketLoad}
use Rattle.step_core.specs.declared.views.OpenTurn.{OpenTurn}
use Rattle.step_core.specs.declared.views.PassView.{PassView}
use Rattle.cells.specs.Frames.{OnlyLoads}
use Rattle.cells.specs.Known.{known_block, KnowsRow, IsBucketWord, generation_at}
use Rattle.cells.specs.Sound.{IsSound}
use Rattle.cells.specs.Steps.{is_nil, is_frozen, bucket_load, loses_turn, turn_after_load, LoadsBucket}
use Rattle.cells.proofs.laws.Known.{knows_first, generation_at-known}

-- Each word is odd or even.
pub odd_or_even : (word : ℕ) → (word % 2 ≡ 1) ⊎ (word % 2 ≡ 0)
odd_or_even word = elim (ℕ_discrete (word % 2) 1) [
  | yes odd ↦ inl odd
  | no other ↦ inr (omega arith)
]

-- The word 0 passes the test for nil.
pub is_nil-nil : (word : ℕ) → IsNil word → is_nil word ≡ true
is_nil-nil word nil = eq-eqb word 0 nil

-- A word that isn't 0.
pub is_nil-other : (word : ℕ) → ¬ IsNil word → is_nil word ≡ false
is_nil-other word some = ne_eqb word 0 some

-- An odd word.
pub is_frozen-frozen : (word : ℕ) → IsFrozen word → is_frozen word ≡ true
is_frozen-frozen word frozen = eq-eqb (word % 2) 1 frozen

-- An even word.
pub is_frozen-mutable : (word : ℕ) → IsMutable word → is_frozen word ≡ false
is_frozen-mutable word mutable = ne_eqb (word % 2) 1 (λ (odd : word % 2 ≡ 1). omega arith)

-- A word whose test says so is odd, and else it is even.
pub odd_by_test : (word : ℕ) → is_frozen word ≡ true → IsFrozen word
odd_by_test word test = ⊎_elim (λ (odd : word % 2 ≡ 1). odd)
    (λ (even : word % 2 ≡ 0). absurd (let clash : true ≡ false = sym test ∙ is_frozen-mutable word even in cc)) (odd_or_even word)

-- the turn that an even word leaves, and what it loses
loses_turn-mutable : (view : PassView) (place word : ℕ) (turn : Option OpenTurn) → IsMutable word
    → loses_turn view place word turn ≡ false
loses_turn-mutable view place word None mutable = refl
loses_turn-mutable view place word (Some turn) mutable =
    ap (λ (b : Bool). b && nat_eq (generation_at view.known place) turn.head) (is_frozen-mutable word mutable)

-- the turn with one load more
abbrev pub noted : BucketLoad → OpenTurn → OpenTurn
noted load turn = record { head = turn.head; seen = turn.seen; loads = load ∷ turn.loads }

module _ (place : ℕ) (old : PassView) (word : ℕ) (new : PassView) (loads : LoadsBucket place old word new) where
  -- the fields of the view after the load: the front,
  front_is : new.front ≡ cond (is_frozen word) old.front loads.history
  front_is = ap (λ (view : PassView). view.front) loads.view

  -- what is known,
  known_is : new.known ≡ cond (is_nil word) old.known (known_block (row_address word) (Row loads.row) ∷ old.known)
  known_is = ap (λ (view : PassView). view.known) loads.view

  -- the lost turns,
  lost_is : new.lost ≡ cond (loses_turn old place word old.turn) (old.lost + 1) old.lost
  lost_is = ap (λ (view : PassView). view.lost) loads.view

  -- and the open turn
  turn_is : new.turn ≡ turn_after_load (bucket_load old place word) (loses_turn old place word old.turn) old.turn
  turn_is = ap (λ (view : PassView). view.turn) loads.view

  -- A load of a bucket keeps the rest.
  pub load_bucket_keeps : OnlyLoads old new
  load_bucket_keeps = subst (OnlyLoads old) (sym loads.view) refl

  -- Of a frozen bucket the front stays.
  pub load_bucket_frozen : IsFrozen word → new.front ≡ old.front
  load_bucket_frozen frozen = front_is ∙ ap (λ (b : Bool). cond b old.front loads.history) (is_frozen-frozen word frozen)

  -- Else the pass has seen the whole history.
  pub load_bucket_mutable : IsMutable word → new.front ≡ loads.history
  load_bucket_mutable mutable = front_is ∙ ap (λ (b : Bool). cond b old.front loads.history) (is_frozen-mutable word mutable)

  -- Either way the front only grows.
  pub load_bucket_grows : IsPrefix old.front new.front
  load_bucket_grows = ⊎_elim
      (λ (odd : word % 2 ≡ 1). subst (λ (front : List Entry). IsPrefix old.front front) (sym (load_bucket_frozen odd))
      (prefix_refl old.front))
      (λ (even : word % 2 ≡ 0). subst (λ (front : List Entry). IsPrefix old.front front) (sym (load_bucket_mutable even)) loads.grows)
      (odd_or_even word)

  -- Of a nil bucket nothing is learned,
  pub load_bucket_nil : IsNil word → new.known ≡ old.known
  load_bucket_nil nil =
      known_is ∙ ap (λ (b : Bool). cond b old.known (known_block (row_address word) (Row loads.row) ∷ old.known)) (is_nil-nil word nil)

  -- and else the row that the word names.
  pub load_bucket_learned : ¬ IsNil word → new.known ≡ (known_block (row_address word) (Row loads.row) ∷ []) ++ old.known
  load_bucket_learned some =
      known_is
      ∙ ap (λ (b : Bool). cond b old.known (known_block (row_address word) (Row loads.row) ∷ old.known)) (is_nil-other word some)

  -- So what was known stays known.
  pub load_bucket_known : (learned : List Known) × (new.known ≡ learned ++ old.known)
  load_bucket_known = elim (ℕ_discrete word 0) [
    | yes nil ↦ ([], load_bucket_nil nil)
    | no some ↦ (known_block (row_address word) (Row loads.row) ∷ [], load_bucket_learned some)
  ]

  -- The row that the word names is known.
  pub load_bucket_knows : ¬ IsNil word → KnowsRow new (row_address word) loads.row
  load_bucket_knows some = knows_first (row_address word) (Row loads.row) [] old new (load_bucket_learned some)

  -- An even word loses no turn.
  pub load_bucket_lost_none : IsMutable word → new.lost ≡ old.lost
  load_bucket_lost_none mutable =
      lost_is ∙ ap (λ (b : Bool). cond b (old.lost + 1) old.lost) (loses_turn-mutable old place word old.turn mutable)

  -- Any word loses one at most.
  pub load_bucket_lost : (new.lost ≡ old.lost) ⊎ ((new.lost ≡ old.lost + 1) × IsFrozen word)
  load_bucket_lost = ⊎_elim
      (λ (odd : word % 2 ≡ 1). ⊎_elim
      (λ (loses : loses_turn old place word old.turn ≡ true).
      inr (lost_is ∙ ap (λ (b : Bool). cond b (old.lost + 1) old.lost) loses, odd))
      (λ (keeps : loses_turn old place word old.turn ≡ false).
      inl (lost_is ∙ ap (λ (b : Bool). cond b (old.lost + 1) old.lost) keeps))
      (cases_Bool (loses_turn old place word old.turn)))
      (λ (even : word % 2 ≡ 0). inl (load_bucket_lost_none even))
      (odd_or_even word)

  -- Where no turn is open, none is then.
  pub load_bucket_no_turn : old.turn ≡ None → (new.turn ≡ None) × (new.lost ≡ old.lost)
  load_bucket_no_turn closed = (
    turn_is
        ∙ ap (λ (turn : Option OpenTurn). turn_after_load (bucket_load old place word) (loses_turn old place word turn) turn) closed,
    lost_is ∙ ap (λ (turn : Option OpenTurn). cond (loses_turn old place word turn) (old.lost + 1) old.lost) closed,
  )

  module _ (turn : OpenTurn) (is_turn : old.turn ≡ Some turn) where
    -- what becomes of an open turn,
    open_turn_is : new.turn ≡ cond (loses_turn old place word (Some turn)) None (Some (noted (bucket_load old place word) turn))
    open_turn_is = turn_is
        ∙ ap (λ (turn : Option OpenTurn). turn_after_load (bucket_load old place word) (loses_turn old place word turn) turn) is_turn

    -- and of the lost ones
    open_lost_is : new.lost ≡ cond (loses_turn old place word (Some turn)) (old.lost + 1) old.lost
    open_lost_is = lost_is ∙ ap (λ (turn : Option OpenTurn). cond (loses_turn old place word turn) (old.lost + 1) old.lost) is_turn

    -- An open turn notes the load of an even word.
    pub load_bucket_noted : IsMutable word → new.turn ≡ Some (noted (bucket_load old place word) turn)
    load_bucket_noted mutable = open_turn_is
        ∙ ap (λ (b : Bool). cond b None (Some (noted (bucket_load old place word) turn)))
        (loses_turn-mutable old place word (Some turn) mutable)

    module _ (at bucket : ℕ) (generation : GenerationBlock) (sound : IsSound old)
        (is_word : IsBucketWord old place at bucket generation) where
      -- That load is the generation's, of that bucket and word.
      pub bucket_load-known : bucket_load old place word ≡ record { at = at; bucket = bucket; word = word }
      bucket_load-known =
          let found = generation_at-known old place at bucket generation sound is_word in
          ap₂ (λ (at bucket : ℕ). record { at = at; bucket = bucket; word = word }) found.0 found.1

      -- An even word of a known bucket is among the loads of the open turn.
      pub load_bucket_among : IsMutable word
          → (now : OpenTurn) × (new.turn ≡ Some now) × (now.head ≡ turn.head) × (now.seen ≡ turn.seen)
          × (now.loads ≡ record { at = at; bucket = bucket; word = word } ∷ turn.loads)
      load_bucket_among mutable = (
        noted (bucket_load old place word) turn,
        load_bucket_noted mutable,
        refl,
        refl,
        ap (λ (load : BucketLoad). load ∷ turn.loads) bucket_load-known,
      )

      -- a frozen bucket loses the turn where its generation is the turn's head
      loses_turn-known : (answer : Bool) → nat_eq at turn.head ≡ answer → IsFrozen word → loses_turn old place word (Some turn) ≡ answer
      loses_turn-known answer test frozen =
          let found = generation_at-known old place at bucket generation sound is_word in
          ap₂ (λ (odd : Bool) (at : ℕ). odd && nat_eq at turn.head) (is_frozen-frozen word frozen) found.0 ∙ test

      -- A frozen bucket of the turn's head loses the turn.
      pub load_bucket_loses : IsFrozen word → at ≡ turn.head → (new.turn ≡ None) × (new.lost ≡ old.lost + 1)
      load_bucket_loses frozen same =
          let loses = loses_turn-known true (eq-eqb at turn.head same) frozen in (
            open_turn_is ∙ ap (λ (b : Bool). cond b None (Some (noted (bucket_load old place word) turn))) loses,
            open_lost_is ∙ ap (λ (b : Bool). cond b (old.lost + 1) old.lost) loses,
          )

      -- A frozen bucket of another generation is one load more.
      pub load_bucket_goes_on : IsFrozen word → at ≢ turn.head
          → (new.turn ≡ Some (noted (record { at = at; bucket = bucket; word = word }) turn)) × (new.lost ≡ old.lost)
      load_bucket_goes_on frozen apart =
          let keeps = loses_turn-known false (ne_eqb at turn.head apart) frozen in (
            open_turn_is ∙ ap (λ (b : Bool). cond b None (Some (noted (bucket_load old place word) turn))) keeps
                ∙ ap (λ (load : BucketLoad). Some (noted load turn)) bucket_load-known,
            open_lost_is ∙ ap (λ (b : Bool). cond b (old.lost + 1) old.lost) keeps,
          )
