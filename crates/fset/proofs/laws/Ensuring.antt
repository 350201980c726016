-- A bucket for which a row was built is filled by the exchange, won or lost; one of a generation without one before isn't nil.
use Rattle.std.proofs.lemmas.List.{append-nil}
use Rattle.std.proofs.lemmas.List.Elements.{All-nil}
use Rattle.std.proofs.Common.{◌≡◌, ◌≢◌, ℕ, ◌+◌, ◌≤◌, List, [], ◌∷◌, ◌++◌, Result, Ok, Err, OnOk, IfErr, inl, inr, refl, sym, ap, ◌∙◌, subst, add-zero, arith}
use base.Growing.{prefix_refl}
use Rattle.step_core.specs.Limits.{max_exponent}
use Rattle.step_core.specs.declared.format.TheConstants.{FIRST_BUCKET}
use Rattle.step_core.specs.declared.published.Published.TheVariants.{Generation, Row}
use Rattle.step_core.specs.declared.published.GenerationBlock.{GenerationBlock}
use Rattle.step_core.specs.declared.views.FilledBucket.{FilledBucket}
use Rattle.step_core.specs.declared.views.Known.{Known}
use Rattle.step_core.specs.declared.views.PassView.{PassView}
use Rattle.step_core.specs.declared.views.StepCounts.{StepCounts}
use Rattle.cells.specs.Filling.{FillsBucket, LosesFill, filling_row}
use Rattle.cells.specs.Frames.{after_reads}
use Rattle.cells.specs.Known.{known_block, IsBucketWord, KnowsGeneration, KnowsSealed}
use Rattle.cells.specs.Lone.{is_among}
use Rattle.cells.specs.Sound.{IsSound}
use Rattle.cells.specs.Steps.{LoadsSealed, filled_bucket}
use Rattle.cells.specs.Tokens.{BlockValue}
use Rattle.cells.proofs.laws.Known.{bucket_word_stays, generation_at-known, knows_more}
use Rattle.cells.proofs.laws.Sealed.{knows_exponent, knows_predecessor}
use Rattle.fset.specs.Ensuring.{BuildsFilling, EnsuresFilled, IsFilling, IsSourceCell, OnlyFillSteps, RefusesFilling, KeepsNotes}
use Rattle.fset.specs.Frames.{Grows, KeepsOwn, filling_cost, row_cost}
use Rattle.fset.specs.declared.ensuring.Filling.{Filling}
use Rattle.fset.proofs.laws.Closing.{is_among-first}
use Rattle.fset.proofs.laws.Filling.{fill_steps_then, refused_from, notes_then}
use Rattle.fset.proofs.laws.Freezing.{sources_before, sources_behind}
use Rattle.fset.proofs.laws.Frames.{behind_self, grows_then, keys_of-none, own_then, reads_grow, reads_own, spends_after, spends_before}
use Rattle.fset.proofs.laws.Looking.{exponent_is, exponent_still, still_known}
use Rattle.fset.proofs.laws.Naming.{named_is, names_grow, names_own, names_predecessor}

-- What holds after a result of either kind.
pub either_way : {X Y A C : Type 0} (r : Result X Y) (B : Y → Type 0) → OnOk r A → IfErr r B → (A → C) → ((y : Y) → B y → C) → C
either_way (Ok x) B won lost on_won on_lost = on_won won
either_way (Err y) B won lost on_won on_lost = on_lost y lost

-- how the exchange of a nil bucket ends: it is known to be filled, and if it was won, so is the row
pub record EndsFilling (place : ℕ) (old new : PassView) : Type 0 where
  pub learned : List Known
  pub grows : Grows learned 0 0 old new
  pub own : KeepsOwn old new
  pub filled : new.filled ≡ filled_bucket old place ∷ old.filled
  pub fixed : new.fixed ≡ old.fixed
  pub heads : new.heads ≡ old.heads
  pub nils : new.nils ≡ old.nils
  pub turn : new.turn ≡ old.turn
  pub spent : new.spent ≡ old.spent
  pub made : new.made ≡ record old.made { fills = old.made.fills + 1 }

pub won_filling : (place at : ℕ) (old new : PassView) → FillsBucket place at old new → EndsFilling place old new
won_filling place at old new won = subst (EndsFilling place old) (sym won.view_is) (record {
  learned = known_block at (Row (filling_row old place at)) ∷ [];
  grows = record {
    number = refl;
    facts = refl;
    front = prefix_refl old.front;
    known = refl;
    fixed = behind_self old.fixed;
    asked = behind_self old.asked;
    drawn = sym (add-zero old.drawn);
    lost = sym (add-zero old.lost);
  };
  own = record { mine = refl; flight = refl; used = refl };
  filled = refl;
  fixed = refl;
  heads = refl;
  nils = refl;
  turn = refl;
  spent = refl;
  made = refl;
})

pub lost_filling : (place : ℕ) (old new : PassView) → LosesFill place old new → EndsFilling place old new
lost_filling place old new lost = subst (EndsFilling place old) (sym lost.view_is) (record {
  learned = [];
  grows = record {
    number = refl;
    facts = refl;
    front = prefix_refl old.front;
    known = refl;
    fixed = behind_self old.fixed;
    asked = behind_self old.asked;
    drawn = sym (add-zero old.drawn);
    lost = sym (add-zero old.lost);
  };
  own = record { mine = refl; flight = refl; used = refl };
  filled = refl;
  fixed = refl;
  heads = refl;
  nils = refl;
  turn = refl;
  spent = refl;
  made = refl;
})

-- Once the exponent of a known generation was loaded, its predecessor may be.
pub knows_link : (head : ℕ) (v0 : PassView) (generation : GenerationBlock) → KnowsGeneration v0 head generation → (v1 : PassView) (exponent : ℕ)
    → LoadsSealed head v0 exponent v1 → KnowsSealed v1 (head + 1)
knows_link head v0 generation known v1 exponent first =
    knows_predecessor v1 head generation (still_known v0 v1 head exponent generation known first)

module _ (head bucket : ℕ) (v0 : PassView) (generation : GenerationBlock)
    (is_word : IsBucketWord v0 (head + FIRST_BUCKET + bucket) head bucket generation) (v1 : PassView) (exponent : ℕ)
    (first : LoadsSealed head v0 exponent v1) (v2 : PassView) (predecessor : ℕ) (second : LoadsSealed (head + 1) v1 predecessor v2) where
  known_one : KnowsGeneration v1 head generation
  known_one = still_known v0 v1 head exponent generation is_word.known first

  still : v1 ≡ after_reads 1 v0
  still = exponent_still v0 v1 head exponent generation is_word.known first

  -- The exponent of a predecessor may be loaded.
  pub knows_source : predecessor ≢ 0 → KnowsSealed v2 predecessor
  knows_source some =
      let source = names_predecessor head generation v1 predecessor v2 known_one second some in
      knows_exponent v2 predecessor source.0 source.1

  -- two sealed words were loaded, and the predecessor is known
  named_grown : Grows second.learned 0 0 v0 v2
  named_grown = subst (λ (learned : List Known). Grows learned 0 0 v0 v2) (append-nil second.learned)
      (grows_then [] second.learned 0 0 0 0 v0 v1 v2 (subst (Grows [] 0 0 v0) (sym still) (reads_grow 1 v0))
      (names_grow head generation v1 predecessor v2 known_one second))

  named_own : KeepsOwn v0 v2
  named_own = own_then v0 v1 v2 (subst (KeepsOwn v0) (sym still) (reads_own 1 v0)) (names_own head generation v1 predecessor v2 known_one second)

  named_made : v2.made ≡ record v0.made { sealed_loads = v0.made.sealed_loads + 1 + 1 }
  named_made = ap (λ (view : PassView). view.made) second.view
      ∙ ap (λ (view : PassView). record view.made { sealed_loads = view.made.sealed_loads + 1 }) still

  named_same : (v2.turn ≡ v0.turn) × (v2.spent ≡ v0.spent)
  named_same = (
    ap (λ (view : PassView). view.turn) second.view ∙ ap (λ (view : PassView). view.turn) still,
    ap (λ (view : PassView). view.spent) second.view ∙ ap (λ (view : PassView). view.spent) still,
  )

  named_notes : KeepsNotes v0 v2
  named_notes = record {
    heads = ap (λ (view : PassView). view.heads) second.view ∙ ap (λ (view : PassView). view.heads) still;
    nils = ap (λ (view : PassView). view.nils) second.view ∙ ap (λ (view : PassView). view.nils) still;
    filled = ([], ap (λ (view : PassView). view.filled) second.view ∙ ap (λ (view : PassView). view.filled) still);
  }

  -- A bucket of a generation without one before isn't nil.
  pub ensured_first : predecessor ≡ 0 → EnsuresFilled head bucket v0 v2
  ensured_first none = record {
    generation = generation;
    known = is_word.known;
    filled = inr (sym (named_is head generation v1 predecessor v2 known_one second) ∙ none);
    spends = record {
      learned = second.learned;
      words = 0;
      grows = named_grown;
      wide = [];
      keys = keys_of-none second.learned;
      bound = omega arith;
    };
    own = named_own;
    turn = named_same.0;
    notes = named_notes;
    unspent = inr refl;
    spent = named_same.1;
    steps = record {
      only = subst (OnlyFillSteps v0.made) (sym named_made) refl;
      draws = omega (arith, ap (λ (made : StepCounts). made.draws) named_made);
      no_fewer = omega (arith, ap (λ (made : StepCounts). made.fills) named_made);
      fills = omega (arith, ap (λ (made : StepCounts). made.fills) named_made);
      freezes = omega (arith, ap (λ (made : StepCounts). made.freezes) named_made);
    };
    frozen = record {
      generation = generation;
      known = knows_more second.learned v0 v2 named_grown.known head (Generation generation) is_word.known;
      cells = [];
      fixed = ap (λ (view : PassView). view.fixed) second.view ∙ ap (λ (view : PassView). view.fixed) still;
      freezes = ap (λ (made : StepCounts). made.freezes) named_made ∙ sym (add-zero v0.made.freezes);
      sources = All-nil (IsSourceCell v2 generation bucket);
    };
    exchanged = inr (sym (named_is head generation v1 predecessor v2 known_one second) ∙ none);
    unfilled = λ same.
        (refl, ap (λ (view : PassView). view.hands) second.view ∙ ap (λ (view : PassView). view.hands) still);
    first = λ zero. subst (λ (made : StepCounts). made ≡ record v0.made { sealed_loads = made.sealed_loads }) (sym named_made) refl;
  }

  module _ (some : predecessor ≢ 0) (v3 : PassView) (before : ℕ) (third : LoadsSealed predecessor v2 before v3) where
    abbrev source : GenerationBlock
    source = (names_predecessor head generation v1 predecessor v2 known_one second some).0

    source_known : KnowsGeneration v2 predecessor source
    source_known = (names_predecessor head generation v1 predecessor v2 known_one second some).1

    abbrev filling : Filling
    filling = record { head = head; bucket = bucket; exponent = exponent; predecessor = predecessor; before = before }

    still_then : v3 ≡ after_reads 1 v2
    still_then = exponent_still v2 v3 predecessor before source source_known third

    more_known : v3.known ≡ second.learned ++ v0.known
    more_known = ap (λ (view : PassView). view.known) still_then ∙ named_grown.known

    -- The exponents fit, as the generations lie in the arena.
    pub exponents_fit : IsSound v3 → (exponent ≤ max_exponent) × (before ≤ max_exponent)
    exponents_fit sound = (
      omega (
        arith,
        exponent_is v0 v1 head exponent generation is_word.known first,
        sound.generations head generation (knows_more second.learned v0 v3 more_known head (Generation generation) is_word.known),
      ),
      omega (
        arith,
        exponent_is v2 v3 predecessor before source source_known third,
        sound.generations predecessor source (still_known v2 v3 predecessor before source source_known third),
      ),
    )

    -- Two generations that follow each other are known.
    pub is_filling : IsFilling v3 filling
    is_filling = record {
      generation = generation;
      is_word = bucket_word_stays second.learned v0 v3 more_known (head + FIRST_BUCKET + bucket) head bucket generation is_word;
      source = source;
      before = still_known v2 v3 predecessor before source source_known third;
      predecessor = sym (named_is head generation v1 predecessor v2 known_one second);
      exponent = exponent_is v0 v1 head exponent generation is_word.known first;
      of_source = exponent_is v2 v3 predecessor before source source_known third;
    }

    read_grown : Grows second.learned 0 0 v0 v3
    read_grown = grows_then second.learned [] 0 0 0 0 v0 v2 v3 named_grown (subst (Grows [] 0 0 v2) (sym still_then) (reads_grow 1 v2))

    read_own : KeepsOwn v0 v3
    read_own = own_then v0 v2 v3 named_own (subst (KeepsOwn v2) (sym still_then) (reads_own 1 v2))

    read_made : v3.made ≡ record v0.made { sealed_loads = v0.made.sealed_loads + 1 + 1 + 1 }
    read_made = ap (λ (view : PassView). view.made) still_then
        ∙ ap (λ (made : StepCounts). record made { sealed_loads = made.sealed_loads + 1 }) named_made

    read_same : (v3.turn ≡ v0.turn) × (v3.spent ≡ v0.spent)
    read_same = (
      ap (λ (view : PassView). view.turn) still_then ∙ named_same.0,
      ap (λ (view : PassView). view.spent) still_then ∙ named_same.1,
    )

    read_notes : KeepsNotes v0 v3
    read_notes = notes_then v0 v2 v3 named_notes (record {
      heads = ap (λ (view : PassView). view.heads) still_then;
      nils = ap (λ (view : PassView). view.nils) still_then;
      filled = ([], ap (λ (view : PassView). view.filled) still_then);
    })

    read_steps : OnlyFillSteps v0.made v3.made
    read_steps = subst (OnlyFillSteps v0.made) (sym read_made) refl

    read_fixed : v3.fixed ≡ v0.fixed
    read_fixed = ap (λ (view : PassView). view.fixed) still_then ∙ ap (λ (view : PassView). view.fixed) second.view
        ∙ ap (λ (view : PassView). view.fixed) still

    -- Where no block was to be had, the bucket isn't filled.
    pub filling_refused : (v4 : PassView) → RefusesFilling head bucket v3 v4 → RefusesFilling head bucket v0 v4
    filling_refused v4 refuses = record {
      spends = spends_after filling_cost 0 second.learned v0 v3 v4 read_grown refuses.spends;
      own = own_then v0 v3 v4 read_own refuses.own;
      turn = refuses.turn ∙ read_same.0;
      notes = notes_then v0 v3 v4 read_notes refuses.notes;
      full = refused_from refuses.spends.words second.learned 0 v0 v3 v4 read_grown read_same.1 refuses.full;
      steps = record {
        only = fill_steps_then v0.made v3.made v4.made read_steps refuses.steps.only;
        draws = omega (arith, refuses.steps.draws, ap (λ (made : StepCounts). made.draws) read_made);
        no_fewer = omega (arith, refuses.steps.no_fewer, ap (λ (made : StepCounts). made.fills) read_made);
        fills = omega (arith, refuses.steps.fills, ap (λ (made : StepCounts). made.fills) read_made);
        freezes = omega (arith, refuses.steps.freezes, ap (λ (made : StepCounts). made.freezes) read_made);
      };
      frozen = sources_behind head bucket v0 v3 v4 read_fixed (ap (λ (made : StepCounts). made.freezes) read_made) refuses.frozen;
      unfilled = refuses.unfilled ∙ ap (λ (made : StepCounts). made.fills) read_made;
    }

    -- And where one was, the bucket isn't nil after the exchange.
    pub filling_ensured : (block : BlockValue) (v4 v5 : PassView) → BuildsFilling filling block v3 v4 → IsSound v4
        → EndsFilling (head + FIRST_BUCKET + bucket) v4 v5 → EnsuresFilled head bucket v0 v5
    filling_ensured block v4 v5 builds sound ends =
        let place : ℕ = head + FIRST_BUCKET + bucket in
        let spent = spends_after row_cost 0 second.learned v0 v3 v4 read_grown builds.spends in
        let word = bucket_word_stays spent.learned v0 v4 spent.grows.known place head bucket generation is_word in
        let lookup = generation_at-known v4 place head bucket generation sound word in
        record {
          generation = generation;
          known = is_word.known;
          filled = inl (ap (λ (list : List FilledBucket). is_among list head bucket) ends.filled
              ∙ is_among-first (filled_bucket v4 place) v4.filled head bucket lookup.0 lookup.1);
          spends = spends_before row_cost 0 ends.learned v0 v4 v5 spent ends.grows;
          own = own_then v0 v4 v5 (own_then v0 v3 v4 read_own builds.own) ends.own;
          turn = ends.turn ∙ builds.turn ∙ read_same.0;
          notes = notes_then v0 v4 v5 (notes_then v0 v3 v4 read_notes builds.notes)
              (record { heads = ends.heads; nils = ends.nils; filled = (filled_bucket v4 place ∷ [], ends.filled) });
          unspent = inl (sym read_same.1 ∙ builds.unspent);
          spent = ends.spent ∙ builds.spent ∙ read_same.1;
          steps = record {
            only = fill_steps_then v0.made v4.made v5.made (fill_steps_then v0.made v3.made v4.made read_steps builds.steps.only)
                (subst (OnlyFillSteps v4.made) (sym ends.made) refl);
            draws = omega (
              arith,
              builds.steps.draws,
              ap (λ (made : StepCounts). made.draws) read_made,
              ap (λ (made : StepCounts). made.draws) ends.made,
            );
            no_fewer = omega (
              arith,
              builds.unfilled,
              ap (λ (made : StepCounts). made.fills) read_made,
              ap (λ (made : StepCounts). made.fills) ends.made,
            );
            fills = omega (
              arith,
              builds.unfilled,
              ap (λ (made : StepCounts). made.fills) read_made,
              ap (λ (made : StepCounts). made.fills) ends.made,
            );
            freezes = omega (
              arith,
              builds.steps.freezes,
              ap (λ (made : StepCounts). made.freezes) read_made,
              ap (λ (made : StepCounts). made.freezes) ends.made,
            );
          };
          frozen = sources_before head bucket v0 v4 v5 ends.learned ends.grows.known ends.fixed
              (ap (λ (made : StepCounts). made.freezes) ends.made)
              (sources_behind head bucket v0 v3 v4 read_fixed (ap (λ (made : StepCounts). made.freezes) read_made) builds.frozen);
          exchanged = inl (omega (
            arith,
            builds.unfilled,
            ap (λ (made : StepCounts). made.fills) read_made,
            ap (λ (made : StepCounts). made.fills) ends.made,
          ));
          unfilled = λ same. absurd (omega (
            arith,
            same,
            builds.unfilled,
            ap (λ (made : StepCounts). made.fills) read_made,
            ap (λ (made : StepCounts). made.fills) ends.made,
          ));
          first = λ none. absurd (some (named_is head generation v1 predecessor v2 known_one second ∙ none));
        }
