-- Passes of which one after another acts stay idle, each with its number.
use Rattle.std.proofs.Common.{◌≡◌, ℕ, ◌<◌, List, [], ◌∷◌, ◌++◌, length, map, set, slice_index_or, All, refl, sym, ap, ap₂, ◌∙◌, subst, arith}
use Rattle.std.proofs.lemmas.Grind.{get_or-set_at}
use Rattle.std.proofs.lemmas.List.{get_or-set_other, length-append, length-set, map-append}
use Rattle.std.proofs.Math.Seq.{get_or-append_seam}
use Rattle.std.proofs.lemmas.List.Elements.{All-append}
use Rattle.std.specs.List.{range_with_len}
use Rattle.std.specs.List.Sorted.{IsPermutation}
use native.Mathlib.Decide.{ℕ_discrete}
use Rattle.cells.specs.Ends.{AreAllPasses}
use Rattle.cells.specs.Tokens.{IsPassOf, IsSamePass, PassValue, RoundValue}
use Rattle.hash_set.specs.Tests.{AreIdle, IsIdle, KeepEach, Keeps}
use Rattle.cells.proofs.laws.Fresh.{numbers_same}
use Rattle.hash_set.proofs.laws.Idle.{first_plan, still_idle}

module _ (round : RoundValue) where
  -- None has acted yet.
  pub keep_none : (passes : List PassValue) → All (IsIdle round) passes → KeepEach round passes passes
  keep_none passes idle = record {
    long = refl;
    each = λ k d within. record { idle = idle k d within; number = refl };
  }

  -- One acts.
  pub keep_one : (passes : List PassValue) (at : ℕ) (new : PassValue) → All (IsIdle round) passes → at < length passes
      → ((d : PassValue) → Keeps round (slice_index_or passes at d) new) → KeepEach round passes (set passes at new)
  keep_one passes at new idle within keeps = record {
    long = length-set passes at new;
    each = λ k d inside. elim (ℕ_discrete k at) [
      | yes same ↦ subst (Keeps round (slice_index_or passes k d)) (sym (get_or-set_at passes at k new d same within))
          (subst (λ (place : ℕ). Keeps round (slice_index_or passes place d) new) (sym same) (keeps d))
      | no apart ↦ subst (Keeps round (slice_index_or passes k d)) (sym (get_or-set_other passes at k new d apart))
          (record { idle = idle k d inside; number = refl })
    ];
  }

  -- Then others do.
  pub keep_then : (old between new : List PassValue) → KeepEach round old between → KeepEach round between new → KeepEach round old new
  keep_then old between new first second = record {
    long = second.long ∙ first.long;
    each = λ k d within.
        let one = first.each k d within in
        let other = second.each k d (omega (arith, within, first.long)) in
        record { idle = other.idle; number = other.number ∙ one.number };
  }

  -- All of them are idle still,
  pub kept_idle : (old new : List PassValue) → KeepEach round old new → All (IsIdle round) new
  kept_idle old new kept = λ k d within. (kept.each k d (omega (arith, within, kept.long))).idle

  -- and all of the round, if they were.
  pub all_idle : (old new : List PassValue) → 0 < length old → KeepEach round old new → AreIdle round old → AreIdle round new
  all_idle old new some kept idle = still_idle round old new (first_plan round old idle.idle some) (record {
    long = kept.long;
    tables = λ k d within. (kept.each k d within).idle.ours.table;
    facts = λ k d within. (kept.each k d within).idle.ours.facts;
    flights = λ k d within. (kept.each k d within).idle.flight;
    numbers = λ k d within. (kept.each k d within).number;
  }) idle

  -- So are they with one behind them that acted apart from them.
  pub all_with_last : (others new : List PassValue) (last after : PassValue) → AreAllPasses round (others ++ last ∷ [])
      → KeepEach round others new → IsSamePass last after → AreAllPasses round (new ++ after ∷ [])
  all_with_last others new last after all kept same =
      let number_of : PassValue → ℕ = λ pass. pass.view.number in
      let numbers : map number_of (new ++ after ∷ []) ≡ map number_of (others ++ last ∷ []) =
      map-append number_of new (after ∷ [])
      ∙ ap₂ (λ (ns ms : List ℕ). ns ++ ms) (numbers_same others new kept.long (λ k d within. (kept.each k d within).number))
      (ap (λ (n : ℕ). n ∷ []) same.number)
      ∙ sym (map-append number_of others (last ∷ [])) in
      let own : IsPassOf round last = subst (IsPassOf round) (get_or-append_seam others last [] last)
      (all.ours (length others) last (omega (arith, length-append others (last ∷ [])))) in
      let ours : IsPassOf round after = record { table = same.table ∙ own.table; facts = same.facts ∙ own.facts } in
      record {
        ours = All-append (IsPassOf round) new (after ∷ []) (λ k d within. (kept_idle others new kept k d within).ours)
            (λ k d within. elim (ℕ_discrete k 0) [
              | yes first ↦ subst (λ (place : ℕ). IsPassOf round (slice_index_or (after ∷ []) place d)) (sym first) ours
              | no apart ↦ absurd (omega (arith, within, apart))
            ]);
        once = subst (λ (list : List ℕ). IsPermutation list (range_with_len 0 round.facts.seats)) (sym numbers) all.once;
      }
