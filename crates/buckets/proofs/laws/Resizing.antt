-- How a resize ends, from the head and its buckets being loaded.
use Rattle.std.proofs.Common.{◌≡◌, ◌≢◌, ℕ, ◌+◌, ◌^◌, ◌<◌, ◌≤◌, ◌⊎◌, List, [], ◌∷◌, ◌++◌, length, None, inl, inr, ⊎_elim, refl, sym, ap, ◌∙◌, subst, add-zero, arith}
use base.Growing.{prefix_refl}
use Rattle.step_core.specs.Format.{base_of}
use Rattle.step_core.specs.Limits.{max_exponent}
use Rattle.step_core.specs.declared.published.Published.TheVariants.{Generation}
use Rattle.step_core.specs.declared.views.HeadLoad.{HeadLoad}
use Rattle.step_core.specs.declared.views.Known.{Known}
use Rattle.step_core.specs.declared.views.NilBucket.{NilBucket}
use Rattle.step_core.specs.declared.views.PassView.{PassView}
use Rattle.step_core.specs.declared.views.RoundFacts.{RoundFacts}
use Rattle.step_core.specs.declared.views.StepCounts.{StepCounts}
use Rattle.cells.specs.Frames.{OnlyDraws, after_reads}
use Rattle.cells.specs.HeadSwaps.{LosesHead, MaySwapHead, SwapsHead, next_generation}
use Rattle.cells.specs.Known.{known_block, KnowsGeneration}
use Rattle.cells.specs.Lone.{latest_head}
use Rattle.cells.proofs.laws.HeadLoads.{load_head_knows}
use Rattle.cells.proofs.laws.Known.{knows_more}
use Rattle.fset.specs.Frames.{Grows, KeepsOwn}
use Rattle.fset.specs.Rows.{Overdrew, OverdrewAfter, WasSpent}
use Rattle.fset.proofs.laws.Frames.{behind_self, draws_grow, draws_own, grows_then, keys_of-none, own_then, reads_grow, reads_own, spends_after, spends_before, spends_both, spends_more}
use Rattle.fset.proofs.laws.Looking.{head_grows}
use Rattle.buckets.specs.Filling.{FillsFirst, KnowsExponent, LosesOpenTurn, RefusesFirst, buckets_of, nils_cost}
use Rattle.buckets.specs.Resizing.{BuildsNext, ChangesHead, FindsMoved, IsPrepared, LoadsExponent, RefusesNext, RefusesResize, Resizes, generation_cost, resize_cost}
use Rattle.buckets.proofs.laws.Filling.{filled_still, nils_cost_rises}

-- At most one turn is lost.
few_losses : (losses : ℕ) (old new : PassView) → LosesOpenTurn losses old new → losses ≤ 1
few_losses losses old new = ⊎_elim
    (λ (none : (losses ≡ 0) × (old.turn ≡ None → new.turn ≡ None)). omega (arith, none.0))
    (λ (one : (losses ≡ 1) × (old.turn ≢ None) × (new.turn ≡ None)). omega (arith, one.0))

-- What a generation costs, whatever the width.
abbrev pub for_generation : ℕ → ℕ → ℕ
for_generation exponent width = generation_cost exponent

module _ (head before : ℕ) (v0 v1 : PassView) (loads : LoadsExponent head before v0 v1) where
  abbrev pub head_known : List Known
  head_known = known_block head (Generation loads.loads.generation) ∷ []

  -- The load of the head and of its exponent cost nothing, and make the head known.
  pub loaded_grown : Grows head_known 0 0 v0 v1
  loaded_grown = subst (Grows head_known 0 0 v0) (sym loads.same)
      (grows_then head_known [] 0 0 0 0 v0 loads.between (after_reads 1 loads.between) (head_grows v0 head loads.between loads.loads).0
      (reads_grow 1 loads.between))

  pub loaded_own : KeepsOwn v0 v1
  loaded_own = subst (KeepsOwn v0) (sym loads.same)
      (own_then v0 loads.between (after_reads 1 loads.between) (head_grows v0 head loads.between loads.loads).1 (reads_own 1 loads.between))

  loaded_spent : v1.spent ≡ v0.spent
  loaded_spent = ap (λ (view : PassView). view.spent) loads.same ∙ ap (λ (view : PassView). view.spent) loads.loads.view

  loaded_nils : v1.nils ≡ v0.nils
  loaded_nils = ap (λ (view : PassView). view.nils) loads.same ∙ ap (λ (view : PassView). view.nils) loads.loads.view

  loaded_swaps : v1.made.head_swaps ≡ v0.made.head_swaps
  loaded_swaps = ap (λ (view : PassView). view.made.head_swaps) loads.same
      ∙ ap (λ (view : PassView). view.made.head_swaps) loads.loads.view

  -- a draw that passed the end after it did so after what was before
  over_from : (first last : ℕ) (new : PassView) → OverdrewAfter first last v1 new → OverdrewAfter first last v0 new
  over_from first last new over = record {
    at = over.at;
    spent = over.spent;
    behind = let behind = over.behind in
        omega (arith, behind, ap (λ (facts : RoundFacts). facts.opened) loaded_grown.facts, loaded_grown.drawn);
    past = subst (λ (facts : RoundFacts). facts.cap < over.at + last) loaded_grown.facts over.past;
  }

  -- the head is the one that was loaded last
  loaded_heads : v1.heads ≡ record { at = head; front = loads.loads.history } ∷ v0.heads
  loaded_heads = ap (λ (view : PassView). view.heads) loads.same ∙ ap (λ (view : PassView). view.heads) loads.loads.view

  pub knows_head : KnowsExponent v1 head before
  knows_head = record {
    generation = loads.loads.generation;
    known = subst (λ (view : PassView). KnowsGeneration view head loads.loads.generation) (sym loads.same)
        (load_head_knows v0 head loads.between loads.loads);
    here = loads.here;
  }

  module _ (IsNext : ℕ → ℕ → Type 0) (exponent : ℕ) (next : IsNext before exponent) (small : exponent ≤ max_exponent)
      (v2 : PassView) where
    -- No block was to be had for a row to fill a bucket with.
    pub filling_refused : RefusesFirst before v1 v2 → RefusesResize IsNext v0 v2
    filling_refused refuses = record {
      head = head;
      before = before;
      start = v1;
      loads = loads;
      exponent = exponent;
      next = next;
      small = small;
      resizes = record {
        nils = refuses.fills.nils;
        found = refuses.fills.found ∙ ap (λ (list : List NilBucket). refuses.fills.nils ++ list) loaded_nils;
        losses = refuses.fills.losses;
        few = few_losses refuses.fills.losses v1 v2 refuses.fills.few;
        spends = spends_after (resize_cost (length refuses.fills.nils) exponent) refuses.fills.losses head_known v0 v1 v2 loaded_grown
            (spends_more (nils_cost (length refuses.fills.nils)) (resize_cost (length refuses.fills.nils) exponent) refuses.fills.losses v1 v2
            (λ width. omega arith) refuses.fills.spends);
        own = own_then v0 v1 v2 loaded_own refuses.fills.own;
      };
      first = refuses.before;
      last = refuses.last;
      words = refuses.words;
      full = ⊎_elim
          (λ (was : WasSpent refuses.fills.spends.words v1 v2). inl (record {
            before = λ (none : v0.spent ≡ None). was.before (loaded_spent ∙ none);
            still = was.still ∙ loaded_spent;
            none = was.none;
          }))
          (λ (over : OverdrewAfter refuses.before refuses.last v1 v2). inr (over_from refuses.before refuses.last v2 over))
          refuses.full;
      no_exchange = ap (λ (made : StepCounts). made.head_swaps) refuses.fills.steps.only ∙ loaded_swaps;
    }

    module _ (fills : FillsFirst head before (buckets_of before) v1 v2) (v3 : PassView) where
      abbrev nils : ℕ
      nils = length fills.fills.nils

      -- what was drawn for the generation comes behind
      abbrev drawn_more : (words : ℕ) → OnlyDraws v2 v3 → v3.drawn ≡ v2.drawn + words → words ≤ generation_cost exponent
          → v3.nils ≡ v2.nils → Resizes exponent v0 v3
      drawn_more words only drawn bound same_nils = record {
        nils = fills.fills.nils;
        found = same_nils ∙ fills.fills.found ∙ ap (λ (list : List NilBucket). fills.fills.nils ++ list) loaded_nils;
        losses = fills.fills.losses;
        few = few_losses fills.fills.losses v1 v2 fills.fills.few;
        spends = spends_after (resize_cost nils exponent) fills.fills.losses head_known v0 v1 v3 loaded_grown
            (spends_both (nils_cost nils) (for_generation exponent) (resize_cost nils exponent) fills.fills.losses 0 fills.fills.losses v1 v2 v3
            (add-zero fills.fills.losses)
            (λ some others one two all less also low high. omega (arith, low, high, nils_cost_rises nils one all less))
            fills.fills.spends (record {
              learned = [];
              words = words;
              grows = draws_grow words v2 v3 only drawn;
              wide = [];
              keys = keys_of-none [];
              bound = bound;
            }));
        own = own_then v0 v2 v3 (own_then v0 v1 v2 loaded_own fills.fills.own) (draws_own v2 v3 only);
      }

      -- No block was to be had for the generation.
      pub next_refused : RefusesNext exponent v2 v3 → RefusesResize IsNext v0 v3
      next_refused refuses = record {
        head = head;
        before = before;
        start = v1;
        loads = loads;
        exponent = exponent;
        next = next;
        small = small;
        resizes = drawn_more refuses.words refuses.only refuses.drawn refuses.bound refuses.same.0;
        first = fills.fills.spends.words;
        last = refuses.words;
        words = refl;
        full = ⊎_elim
            (λ (was : WasSpent refuses.words v2 v3). inl (record {
              before = λ (none : v0.spent ≡ None). was.before (fills.spent ∙ loaded_spent ∙ none);
              still = was.still ∙ fills.spent ∙ loaded_spent;
              none = ⊎_elim
                  (λ (unspent : v1.spent ≡ None). absurd (was.before (fills.spent ∙ unspent)))
                  (λ (none : fills.fills.spends.words ≡ 0).
                  let all : fills.fills.spends.words + refuses.words ≡ 0 = omega (arith, none, was.none) in all)
                  fills.unspent;
            }))
            (λ (over : Overdrew refuses.words v2 v3). inr (over_from fills.fills.spends.words refuses.words v3 (record {
              at = over.at;
              spent = over.spent;
              behind = let behind = over.behind in
                  omega (arith, behind, ap (λ (facts : RoundFacts). facts.opened) fills.fills.spends.grows.facts, fills.fills.spends.grows.drawn);
              past = subst (λ (facts : RoundFacts). facts.cap < over.at + refuses.words) fills.fills.spends.grows.facts over.past;
            })))
            refuses.full;
        no_exchange = refuses.same.1 ∙ ap (λ (made : StepCounts). made.head_swaps) fills.fills.steps.only ∙ loaded_swaps;
      }

      module _ (at : ℕ) (builds : BuildsNext head exponent at v2 v3) where
        -- The generation was built,
        pub is_prepared : IsPrepared IsNext head exponent at v0 v3
        is_prepared = record { start = v1; before = before; loads = loads; next = next; small = small; filled = v2; fills = fills; builds = builds }

        abbrev built_resizes : Resizes exponent v0 v3
        built_resizes = drawn_more (generation_cost exponent) builds.only builds.drawn (omega arith)
            (ap (λ (view : PassView). view.nils) builds.only)

        -- the exchange adds nothing to what was drawn
        abbrev ended : (learned : List Known) (v4 : PassView) → Grows learned 0 0 v3 v4 → KeepsOwn v3 v4 → v4.nils ≡ v3.nils
            → Resizes exponent v0 v4
        ended learned v4 grown own same_nils = record {
          nils = built_resizes.nils;
          found = same_nils ∙ built_resizes.found;
          losses = built_resizes.losses;
          few = built_resizes.few;
          spends = spends_before (resize_cost nils exponent) built_resizes.losses learned v0 v3 v4 built_resizes.spends grown;
          own = own_then v0 v3 v4 built_resizes.own own;
        }

        won_grown : (v4 : PassView) → SwapsHead head at v3 v4 → Grows (known_block at (Generation (next_generation v3 head at)) ∷ []) 0 0 v3 v4
        won_grown v4 won = subst (Grows (known_block at (Generation (next_generation v3 head at)) ∷ []) 0 0 v3) (sym won.view_is) (record {
          number = refl;
          facts = refl;
          front = prefix_refl v3.front;
          known = refl;
          fixed = behind_self v3.fixed;
          asked = behind_self v3.asked;
          drawn = sym (add-zero v3.drawn);
          lost = sym (add-zero v3.lost);
        })

        lost_grown : (v4 : PassView) → LosesHead head v3 v4 → Grows [] 0 0 v3 v4
        lost_grown v4 lost = subst (Grows [] 0 0 v3) (sym lost.view_is) (record {
          number = refl;
          facts = refl;
          front = prefix_refl v3.front;
          known = refl;
          fixed = behind_self v3.fixed;
          asked = behind_self v3.asked;
          drawn = sym (add-zero v3.drawn);
          lost = sym (add-zero v3.lost);
        })

        -- and may be put in the place of the head,
        pub may_swap : ((before after : ℕ) → IsNext before after → (after ≡ before + 1) ⊎ (before ≡ after + 1))
            → MaySwapHead v3 head at
        may_swap either = record {
          generation = fills.generation;
          known = knows_more [] v2 v3 (ap (λ (view : PassView). view.known) builds.only) head (Generation fills.generation)
              (knows_more fills.fills.spends.learned v1 v2 fills.fills.spends.grows.known head (Generation fills.generation) fills.known);
          filled = λ bucket below. filled_still v2 v3 head fills.generation bucket ([], ap (λ (view : PassView). view.filled) builds.only)
              (fills.none_nil bucket (subst (λ (e : ℕ). bucket < 2 ^ e) fills.here below));
          exponent = exponent;
          next = subst (λ (e : ℕ). (exponent ≡ e + 1) ⊎ (e ≡ exponent + 1)) (sym fills.here) (either before exponent next);
          small = small;
          built = builds.built;
        }

        -- the exchange of which is won,
        pub changed : (v4 : PassView) → SwapsHead head at v3 v4 → ChangesHead IsNext exponent v0 v4
        changed v4 won = record {
          head = head;
          at = at;
          ready = v3;
          is_prepared = is_prepared;
          swaps = won;
          resizes = ended (known_block at (Generation (next_generation v3 head at)) ∷ []) v4 (won_grown v4 won)
              (record {
                mine = ap (λ (view : PassView). view.mine) won.view_is;
                flight = ap (λ (view : PassView). view.flight) won.view_is;
                used = ap (λ (view : PassView). view.used) won.view_is;
              }) (ap (λ (view : PassView). view.nils) won.view_is);
          unspent = sym loaded_spent ∙ sym fills.spent ∙ builds.unspent;
          spent = ap (λ (view : PassView). view.spent) won.view_is ∙ builds.spent ∙ fills.spent ∙ loaded_spent;
        }

        -- or lost, to another pass.
        pub moved : (found : ℕ) (v4 : PassView) → found ≢ head → LosesHead head v3 v4 → FindsMoved IsNext found v0 v4
        moved found v4 other lost = record {
          head = head;
          moved = other;
          exponent = exponent;
          at = at;
          ready = v3;
          is_prepared = is_prepared;
          loses = lost;
          resizes = ended [] v4 (lost_grown v4 lost)
              (record {
                mine = ap (λ (view : PassView). view.mine) lost.view_is;
                flight = ap (λ (view : PassView). view.flight) lost.view_is;
                used = ap (λ (view : PassView). view.used) lost.view_is;
              }) (ap (λ (view : PassView). view.nils) lost.view_is);
          unspent = sym loaded_spent ∙ sym fills.spent ∙ builds.unspent;
          spent = ap (λ (view : PassView). view.spent) lost.view_is ∙ builds.spent ∙ fills.spent ∙ loaded_spent;
          others = λ alone. lost.alone
              (ap (λ (facts : RoundFacts). facts.seats) (ap (λ (view : PassView). view.facts) builds.only
              ∙ fills.fills.spends.grows.facts ∙ loaded_grown.facts) ∙ alone)
              (ap (λ (heads : List HeadLoad). latest_head heads (base_of v3.facts.seats)) (ap (λ (view : PassView). view.heads) builds.only
              ∙ fills.fills.heads ∙ loaded_heads));
        }
