-- A turn that loaded the head, and filled its key's bucket where that was nil, has loaded that bucket then, or is lost by its being frozen.
use Rattle.std.proofs.Common.{◌≡◌, ℕ, ◌+◌, ◌%◌, ◌^◌, ◌<◌, ◌≤◌, ◌⊎◌, inl, inr, ⊎_elim, true, List, [], ◌∷◌, ◌++◌, None, Some, refl, sym, ap, ◌∙◌, subst, add-zero, arith}
use Rattle.std.specs.List.{Contains}
use Rattle.step_core.specs.Buckets.{key_bucket}
use Rattle.step_core.specs.Format.{IsFrozen, IsMutable, IsNil, row_address}
use Rattle.step_core.specs.declared.format.TheConstants.{FIRST_BUCKET}
use Rattle.step_core.specs.declared.published.Published.TheVariants.{Generation, Row}
use Rattle.step_core.specs.declared.published.GenerationBlock.{GenerationBlock}
use Rattle.step_core.specs.declared.views.BucketLoad.{BucketLoad}
use Rattle.step_core.specs.declared.views.Known.{Known}
use Rattle.step_core.specs.declared.views.OpenTurn.{OpenTurn}
use Rattle.step_core.specs.declared.views.PassView.{PassView}
use Rattle.step_core.specs.declared.views.StepCounts.{StepCounts}
use Rattle.cells.specs.Exchanges.{load_of}
use Rattle.cells.specs.Frames.{after_reads}
use Rattle.cells.specs.Known.{known_block, KnowsGeneration, row_at}
use Rattle.cells.specs.Lone.{is_among}
use Rattle.cells.specs.Sound.{IsSound}
use Rattle.cells.specs.Steps.{LoadsBucket, LoadsHead}
use Rattle.cells.proofs.laws.BucketLoads.{load_bucket_among, load_bucket_knows, load_bucket_learned, load_bucket_loses, load_bucket_lost_none, load_bucket_nil, odd_or_even}
use Rattle.cells.proofs.laws.Counted.{sound_counted}
use Rattle.cells.proofs.laws.HeadLoads.{load_head_turn}
use Rattle.cells.proofs.laws.Known.{knows_more, row_at-first}
use Rattle.fset.specs.Ensuring.{EnsuresFilled, KnowsBucketAt, OnlyFills, RefusesFilling}
use Rattle.fset.specs.Frames.{Grows, KeepsOwn, Spends, filling_cost, row_cost}
use Rattle.fset.specs.Seeking.{AreOneSeek, DrawsToFill, FindsNil, GoesOn, KnowsGenerationAt, LoadsBucketOf, LoadsKeyBucket, OnlyForFills}
use Rattle.fset.specs.declared.seeking.LoadedBucket.{LoadedBucket}
use Rattle.fset.proofs.laws.Filling.{refused_from}
use Rattle.fset.proofs.laws.Frames.{grows_then, keys_of-none, own_then, reads_grow, reads_own, spends_after, spends_lost, then_loses}
use Rattle.fset.proofs.laws.Looking.{bucket_grown, bucket_own, head_grows, nil_noted}

-- a turn on its way to its key's bucket: the head was loaded, and the bucket filled where it was nil
pub record StartsTurn (head : ℕ) (old new : PassView) : Type 0 where
  pub turn : OpenTurn
  pub is_turn : new.turn ≡ Some turn
  pub at_head : turn.head ≡ head
  pub spends : Spends row_cost 0 old new
  pub own : KeepsOwn old new
  pub unspent : (old.spent ≡ None) ⊎ (spends.words ≡ 0)
  pub unfilled : DrawsToFill spends.words old new
  pub spent : new.spent ≡ old.spent
  pub only : new.made ≡ record old.made {
    head_loads = old.made.head_loads + 1;
    sealed_loads = new.made.sealed_loads;
    bucket_loads = new.made.bucket_loads;
    draws = new.made.draws;
    writes = new.made.writes;
    fills = new.made.fills;
    freezes = new.made.freezes;
  }
  pub some_bucket : old.made.bucket_loads ≤ new.made.bucket_loads
  pub buckets : new.made.bucket_loads + old.made.fills ≤ old.made.bucket_loads + new.made.fills
  pub for_fills : OnlyForFills old.made new.made
  pub draws : new.made.draws ≤ old.made.draws + 1
  pub no_fewer : old.made.fills ≤ new.made.fills
  pub fills : new.made.fills ≤ old.made.fills + 1
  pub freezes : new.made.freezes ≤ old.made.freezes + 2

-- The head was loaded.
pub starts_at_head : (head : ℕ) (old new : PassView) → LoadsHead old head new → StartsTurn head old new
starts_at_head head old new heads =
    let made = ap (λ (view : PassView). view.made) heads.view in
    record {
      turn = record { head = head; seen = heads.seen; loads = [] };
      is_turn = load_head_turn old head new heads;
      at_head = refl;
      spends = record {
        learned = known_block head (Generation heads.generation) ∷ [];
        words = 0;
        grows = (head_grows old head new heads).0;
        wide = [];
        keys = keys_of-none (known_block head (Generation heads.generation) ∷ []);
        bound = omega arith;
      };
      own = (head_grows old head new heads).1;
      unspent = inr refl;
      unfilled = λ same. (refl, ap (λ (view : PassView). view.hands) heads.view);
      spent = ap (λ (view : PassView). view.spent) heads.view;
      only = subst (λ (made : StepCounts). made ≡ record old.made {
        head_loads = old.made.head_loads + 1;
        sealed_loads = made.sealed_loads;
        bucket_loads = made.bucket_loads;
        draws = made.draws;
        writes = made.writes;
        fills = made.fills;
        freezes = made.freezes;
      }) (sym made) refl;
      some_bucket = omega (arith, ap (λ (made : StepCounts). made.bucket_loads) made);
      buckets = omega (arith, ap (λ (made : StepCounts). made.bucket_loads) made, ap (λ (made : StepCounts). made.fills) made);
      for_fills = record {
        draws = omega (arith, ap (λ (made : StepCounts). made.draws) made, ap (λ (made : StepCounts). made.fills) made);
        freezes = omega (arith, ap (λ (made : StepCounts). made.freezes) made, ap (λ (made : StepCounts). made.fills) made);
      };
      draws = omega (arith, ap (λ (made : StepCounts). made.draws) made);
      no_fewer = omega (arith, ap (λ (made : StepCounts). made.fills) made);
      fills = omega (arith, ap (λ (made : StepCounts). made.fills) made);
      freezes = omega (arith, ap (λ (made : StepCounts). made.freezes) made);
    }

module _ (head key : ℕ) (v0 v1 v2 : PassView) (nil : LoadedBucket) (heads : LoadsHead v0 head v1) (finds : LoadsBucketOf head key v1 nil v2)
    (is_nil : IsNil nil.word) (sound : IsSound v1) where
  abbrev between : PassView
  between = after_reads 1 v1

  abbrev number : ℕ
  number = key_bucket finds.generation.exponent key

  abbrev head_learned : List Known
  head_learned = known_block head (Generation heads.generation) ∷ []

  even : IsMutable nil.word
  even = omega (arith, is_nil)

  same_known : v2.known ≡ between.known
  same_known = load_bucket_nil nil.place between nil.word v2 finds.loads is_nil

  knows_head : KnowsGeneration v2 head finds.generation
  knows_head = knows_more [] between v2 same_known head (Generation finds.generation) finds.is_word.known

  -- the load of the nil bucket tells nothing new of blocks
  nil_grown : Grows head_learned 0 0 v0 v2
  nil_grown = grows_then head_learned [] 0 0 0 0 v0 v1 v2 (head_grows v0 head v1 heads).0
      (then_loses [] [] 0 v1 between v2 (reads_grow 1 v1) (bucket_grown nil.place between nil.word v2 finds.loads [] 0 same_known
      (load_bucket_lost_none nil.place between nil.word v2 finds.loads even ∙ sym (add-zero between.lost))))

  nil_own : KeepsOwn v0 v2
  nil_own = own_then v0 between v2 (own_then v0 v1 between (head_grows v0 head v1 heads).1 (reads_own 1 v1))
      (bucket_own nil.place between nil.word v2 finds.loads)

  nil_made : v2.made ≡ record v0.made {
    head_loads = v0.made.head_loads + 1;
    sealed_loads = v0.made.sealed_loads + 1;
    bucket_loads = v0.made.bucket_loads + 1;
  }
  nil_made = ap (λ (view : PassView). view.made) finds.loads.view
      ∙ ap (λ (view : PassView). record view.made {
        sealed_loads = view.made.sealed_loads + 1;
        bucket_loads = view.made.bucket_loads + 1;
      }) heads.view

  nil_spent : v2.spent ≡ v0.spent
  nil_spent = ap (λ (view : PassView). view.spent) finds.loads.view ∙ ap (λ (view : PassView). view.spent) heads.view

  -- The bucket that is nil is one of a known generation.
  pub nil_known : KnowsBucketAt v2 head nil.bucket
  nil_known = (
    finds.generation,
    record {
      known = knows_head;
      within = subst (λ (bucket : ℕ). bucket < 2 ^ finds.generation.exponent) (sym finds.number) finds.is_word.within;
      here = refl;
    },
  )

  -- the steps so far, and then those that fill
  abbrev filling_steps : StepCounts → Type 0
  filling_steps made = made ≡ record v0.made {
    head_loads = v0.made.head_loads + 1;
    sealed_loads = made.sealed_loads;
    bucket_loads = made.bucket_loads;
    draws = made.draws;
    writes = made.writes;
    fills = made.fills;
    freezes = made.freezes;
  }

  filled_steps : (made : StepCounts) → OnlyFills v2.made made → filling_steps made
  filled_steps made fills =
      fills.only
      ∙ (λ i. record v2.made {
        sealed_loads = made.sealed_loads;
        bucket_loads = sym (ap (λ (made : StepCounts). made.bucket_loads) fills.only) i;
        draws = made.draws;
        writes = made.writes;
        fills = made.fills;
        freezes = made.freezes;
      })
      ∙ ap (λ (before : StepCounts). record before {
        sealed_loads = made.sealed_loads;
        bucket_loads = made.bucket_loads;
        draws = made.draws;
        writes = made.writes;
        fills = made.fills;
        freezes = made.freezes;
      }) nil_made

  -- No block to fill it with was to be had,
  pub finds_nil : (v3 : PassView) → RefusesFilling head nil.bucket v2 v3 → FindsNil key v0 v3
  finds_nil v3 refuses =
      let buckets = ap (λ (made : StepCounts). made.bucket_loads) refuses.steps.only in
      let before = ap (λ (made : StepCounts). made.bucket_loads) nil_made in
      record {
        nil = record { at = head; bucket = number; front = finds.loads.history };
        nils = refuses.notes.nils
            ∙ nil_noted nil.place between nil.word v2 finds.loads is_nil head number finds.generation
            (sound_counted v1 between.made sound) finds.is_word
            ∙ ap (λ (view : PassView). record { at = head; bucket = number; front = finds.loads.history } ∷ view.nils) heads.view;
        generation = finds.generation;
        known = knows_more refuses.spends.learned v2 v3 refuses.spends.grows.known head (Generation finds.generation) knows_head;
        class = refl;
        spends = spends_after filling_cost 0 head_learned v0 v2 v3 nil_grown refuses.spends;
        own = own_then v0 v2 v3 nil_own refuses.own;
        full = refused_from refuses.spends.words head_learned 0 v0 v2 v3 nil_grown nil_spent refuses.full;
        steps = record {
          only = filled_steps v3.made refuses.steps;
          some_bucket = omega (arith, buckets, before);
          buckets = omega (arith, buckets, before, refuses.unfilled, ap (λ (made : StepCounts). made.fills) nil_made);
          draws = omega (arith, refuses.steps.draws, ap (λ (made : StepCounts). made.draws) nil_made);
          no_fewer = omega (arith, refuses.steps.no_fewer, ap (λ (made : StepCounts). made.fills) nil_made);
          fills = omega (arith, refuses.steps.fills, ap (λ (made : StepCounts). made.fills) nil_made);
          freezes = omega (arith, refuses.steps.freezes, ap (λ (made : StepCounts). made.freezes) nil_made);
        };
      }

  module _ (v3 : PassView) (ensured : EnsuresFilled head nil.bucket v2 v3) where
    still_known : KnowsGeneration v3 head finds.generation
    still_known = knows_more ensured.spends.learned v2 v3 ensured.spends.grows.known head (Generation finds.generation) knows_head

    -- or it was filled, and the head may be loaded from again.
    pub knows_head_still : KnowsGenerationAt v3 head
    knows_head_still = (finds.generation, still_known)

    -- an exchange was made, since a bucket of a generation without one before isn't nil
    one_fill : v3.made.fills ≡ v2.made.fills + 1
    one_fill = ⊎_elim
        (λ (one : v3.made.fills ≡ v2.made.fills + 1). one)
        (λ (none : ensured.generation.predecessor ≡ 0).
        let same : Generation finds.generation ≡ Generation ensured.generation =
        sound.one head (Generation finds.generation) (Generation ensured.generation) finds.is_word.known
        (subst (λ (known : List Known). Contains known (known_block head (Generation ensured.generation))) same_known ensured.known) in
        let generation : finds.generation ≡ ensured.generation = cc in
        absurd (finds.loads.filled head number finds.generation finds.is_word
        (inr (ap (λ (generation : GenerationBlock). generation.predecessor) generation ∙ none)) is_nil))
        ensured.exchanged

    pub starts_by_filling : StartsTurn head v0 v3
    starts_by_filling =
        let now = load_bucket_among nil.place between nil.word v2 finds.loads (record { head = head; seen = heads.seen; loads = [] })
        (load_head_turn v0 head v1 heads) head number finds.generation (sound_counted v1 between.made sound) finds.is_word even in
        let buckets = ap (λ (made : StepCounts). made.bucket_loads) ensured.steps.only in
        let before = ap (λ (made : StepCounts). made.bucket_loads) nil_made in
        record {
          turn = now.0;
          is_turn = ensured.turn ∙ now.1;
          at_head = now.2;
          spends = spends_after row_cost 0 head_learned v0 v2 v3 nil_grown ensured.spends;
          own = own_then v0 v2 v3 nil_own ensured.own;
          unspent = ⊎_elim
              (λ (none : v2.spent ≡ None). let unspent : (v0.spent ≡ None) ⊎ (ensured.spends.words ≡ 0) = inl (sym nil_spent ∙ none) in unspent)
              (λ (none : ensured.spends.words ≡ 0). let unspent : (v0.spent ≡ None) ⊎ (ensured.spends.words ≡ 0) = inr none in unspent)
              ensured.unspent;
          unfilled = λ same.
              let none = ensured.unfilled (same ∙ sym (ap (λ (made : StepCounts). made.fills) nil_made)) in
              (none.0, none.1 ∙ ap (λ (view : PassView). view.hands) finds.loads.view ∙ ap (λ (view : PassView). view.hands) heads.view);
          spent = ensured.spent ∙ nil_spent;
          only = filled_steps v3.made ensured.steps;
          some_bucket = omega (arith, buckets, before);
          buckets = omega (arith, buckets, before, one_fill, ap (λ (made : StepCounts). made.fills) nil_made);
          for_fills = record {
            draws = omega (
              arith,
              ensured.steps.draws,
              one_fill,
              ap (λ (made : StepCounts). made.draws) nil_made,
              ap (λ (made : StepCounts). made.fills) nil_made,
            );
            freezes = omega (
              arith,
              ensured.steps.freezes,
              one_fill,
              ap (λ (made : StepCounts). made.freezes) nil_made,
              ap (λ (made : StepCounts). made.fills) nil_made,
            );
          };
          draws = omega (arith, ensured.steps.draws, ap (λ (made : StepCounts). made.draws) nil_made);
          no_fewer = omega (arith, ensured.steps.no_fewer, ap (λ (made : StepCounts). made.fills) nil_made);
          fills = omega (arith, ensured.steps.fills, ap (λ (made : StepCounts). made.fills) nil_made);
          freezes = omega (arith, ensured.steps.freezes, ap (λ (made : StepCounts). made.freezes) nil_made);
        }

    -- Its bucket isn't nil then.
    pub filled_then : (v4 : PassView) (bucket : LoadedBucket) → LoadsBucketOf head key v3 bucket v4 → IsSound v3 → ¬ IsNil bucket.word
    filled_then v4 bucket again sound_then =
        let one : Generation finds.generation ≡ Generation again.generation =
        sound_then.one head (Generation finds.generation) (Generation again.generation) still_known again.is_word.known in
        let other : Generation finds.generation ≡ Generation ensured.generation =
        sound_then.one head (Generation finds.generation) (Generation ensured.generation) still_known
        (knows_more ensured.spends.learned v2 v3 ensured.spends.grows.known head (Generation ensured.generation) ensured.known) in
        let same : finds.generation ≡ again.generation = cc in
        let ensured_same : finds.generation ≡ ensured.generation = cc in
        let is : nil.bucket ≡ key_bucket again.generation.exponent key =
        finds.number ∙ ap (λ (generation : GenerationBlock). key_bucket generation.exponent key) same in
        again.loads.filled head (key_bucket again.generation.exponent key) again.generation again.is_word
        (subst (λ (z : ℕ × GenerationBlock). (is_among v3.filled head z.0 ≡ true) ⊎ (z.1.predecessor ≡ 0))
        (λ i. (is i, (sym ensured_same ∙ same) i)) ensured.filled)

module _ (head key : ℕ) (v0 m n : PassView) (bucket : LoadedBucket) (start : StartsTurn head v0 m) (of : LoadsBucketOf head key m bucket n)
    (filled : ¬ IsNil bucket.word) (sound : IsSound m) where
  abbrev first : PassView
  first = after_reads 1 m

  abbrev word : ℕ
  word = bucket.word

  abbrev loads : LoadsBucket bucket.place first word n
  loads = of.loads

  abbrev of_key : ℕ
  of_key = key_bucket of.generation.exponent key

  abbrev row_learned : List Known
  row_learned = known_block (row_address word) (Row loads.row) ∷ []

  sound_first : IsSound first
  sound_first = sound_counted m first.made sound

  -- where the bucket is frozen, the turn is lost
  record Loses (losses : ℕ) : Type 0 where
    lost : n.lost ≡ first.lost + losses
    mutable : IsMutable word → losses ≡ 0
    frozen : IsFrozen word → (losses ≡ 1) × (n.turn ≡ None)

  loses : (losses : ℕ) × Loses losses
  loses = ⊎_elim
      (λ (odd : word % 2 ≡ 1).
      let closed = load_bucket_loses bucket.place first word n loads start.turn start.is_turn head of_key of.generation sound_first of.is_word odd
      (sym start.at_head) in
      let one : (losses : ℕ) × Loses losses =
      (1, record { lost = closed.1; mutable = λ even. absurd (omega (arith, odd, even)); frozen = λ odd. (refl, closed.0) }) in one)
      (λ (even : word % 2 ≡ 0).
      let none : (losses : ℕ) × Loses losses = (
        0,
        record {
          lost = load_bucket_lost_none bucket.place first word n loads even ∙ sym (add-zero first.lost);
          mutable = λ even. refl;
          frozen = λ odd. absurd (omega (arith, odd, even));
        },
      ) in none)
      (odd_or_even word)

  learned : n.known ≡ row_learned ++ first.known
  learned = load_bucket_learned bucket.place first word n loads filled

  row_grown : Grows row_learned 0 loses.0 m n
  row_grown = then_loses [] row_learned loses.0 m first n (reads_grow 1 m)
      (bucket_grown bucket.place first word n loads row_learned loses.0 learned loses.1.lost)

  -- else it is open, and has loaded the bucket, whose row is marked
  goes_on : IsMutable word → GoesOn key bucket loses.0 n
  goes_on even =
      let among = load_bucket_among bucket.place first word n loads start.turn start.is_turn head of_key of.generation sound_first of.is_word even in
      let at_head : among.0.head ≡ head = among.2 ∙ start.at_head in
      record {
        none_lost = loses.1.mutable even;
        loaded = record {
          turn = among.0;
          is_turn = among.1;
          generation = of.generation;
          is_word = record {
            known = subst (λ (h : ℕ). KnowsGeneration n h of.generation) (sym at_head)
                (knows_more row_learned first n learned head (Generation of.generation) of.is_word.known);
            within = of.is_word.within;
            here = of.is_word.here ∙ ap (λ (h : ℕ). h + FIRST_BUCKET + of_key) (sym at_head);
          };
          loaded = subst (λ (z : List BucketLoad × ℕ). Contains z.0 (load_of z.1 of_key word))
              (λ i. (sym among.4 i, sym at_head i)) (0, omega arith, refl);
          some_row = filled;
          mutable = even;
        };
        marked = loads.marked.mutable head of_key of.generation of.is_word filled even key refl;
      }

  made : n.made ≡ record m.made { sealed_loads = m.made.sealed_loads + 1; bucket_loads = m.made.bucket_loads + 1 }
  made = ap (λ (view : PassView). view.made) loads.view

  seek_steps : AreOneSeek v0.made n.made
  seek_steps =
      let buckets = ap (λ (made : StepCounts). made.bucket_loads) made in
      record {
        only = subst (λ (made : StepCounts). made ≡ record v0.made {
          head_loads = v0.made.head_loads + 1;
          sealed_loads = made.sealed_loads;
          bucket_loads = made.bucket_loads;
          draws = made.draws;
          writes = made.writes;
          fills = made.fills;
          freezes = made.freezes;
        }) (sym made) (ap (λ (made : StepCounts). record made {
          sealed_loads = m.made.sealed_loads + 1;
          bucket_loads = m.made.bucket_loads + 1;
        }) start.only);
        some_bucket = omega (arith, start.some_bucket, buckets);
        buckets = omega (arith, start.buckets, buckets, ap (λ (made : StepCounts). made.fills) made);
        draws = omega (arith, start.draws, ap (λ (made : StepCounts). made.draws) made);
        no_fewer = omega (arith, start.no_fewer, ap (λ (made : StepCounts). made.fills) made);
        fills = omega (arith, start.fills, ap (λ (made : StepCounts). made.fills) made);
        freezes = omega (arith, start.freezes, ap (λ (made : StepCounts). made.freezes) made);
      }

  -- The key's bucket is loaded.
  pub key_bucket_loaded : LoadsKeyBucket key v0 bucket n
  key_bucket_loaded =
      let at_home = loads.home head of_key of.generation of.is_word filled in
      record {
        losses = loses.0;
        spends = spends_lost row_cost loses.0 row_learned v0 m n start.spends row_grown;
        row = loads.row;
        latest = refl;
        known = load_bucket_knows bucket.place first word n loads filled;
        is_row = ap (λ (known : List Known). row_at known (row_address word)) learned ∙ row_at-first (row_address word) loads.row first.known;
        home = ap (λ (e : ℕ). key_bucket e key) at_home.0 ∙ sym at_home.1;
        own = own_then v0 first n (own_then v0 m first start.own (reads_own 1 m)) (bucket_own bucket.place first word n loads);
        mutable = goes_on;
        frozen = loses.1.frozen;
        unspent = start.unspent;
        unfilled = λ same.
            let none = start.unfilled (sym (ap (λ (made : StepCounts). made.fills) made) ∙ same) in
            (none.0, ap (λ (view : PassView). view.hands) loads.view ∙ none.1);
        for_fills = record {
          draws = let draws = start.for_fills.draws in
              omega (arith, draws, ap (λ (made : StepCounts). made.draws) made, ap (λ (made : StepCounts). made.fills) made);
          freezes = let freezes = start.for_fills.freezes in
              omega (arith, freezes, ap (λ (made : StepCounts). made.freezes) made, ap (λ (made : StepCounts). made.fills) made);
        };
        spent = ap (λ (view : PassView). view.spent) loads.view ∙ start.spent;
        steps = seek_steps;
      }
