-- What a round ends with holds with its passes in the order of their numbers.
use Rattle.std.proofs.Common.{◌≡◌, ℕ, ◌≤◌, List, None, length, map, ap, sym, ◌∙◌, subst, arith}
use Rattle.std.specs.List.{range_with_len}
use Rattle.std.proofs.lemmas.List.{get_or-map, length-map}
use Rattle.std.proofs.lemmas.List.FromFn.{length-range_with_len}
use Rattle.std.proofs.lemmas.List.Sorted.{All-permutation, IsPermutation-map, IsPermutation-sym, IsPermutation-trans}
use Rattle.set_model.specs.declared.entry.Entry.{Entry}
use Rattle.step_core.specs.declared.views.PassView.{PassView}
use Rattle.cells.specs.Ends.{AreAllPasses, EndsRound, HasView}
use Rattle.cells.specs.Tokens.{HasBegunCalls, IsPassOf, PassValue, RoundValue, fresh_pass}
use Rattle.rounds.specs.Halts.{AreAtRest, AreNumbered, ByNumber, number_of}
use Rattle.rounds.proofs.laws.Ordered.{numbers_are_range}

module _ (round : RoundValue) (passes ordered : List PassValue) (by_number : ByNumber passes ordered)
    (all : AreAllPasses round passes) where
  -- they are all of the round
  pub all_ordered : AreAllPasses round ordered
  all_ordered = record {
    ours = All-permutation (IsPassOf round) passes ordered by_number.same all.ours;
    once = IsPermutation-trans (map number_of ordered) (map number_of passes) (range_with_len 0 round.facts.seats)
        (IsPermutation-sym (map number_of passes) (map number_of ordered) (IsPermutation-map number_of passes ordered by_number.same))
        all.once;
  }

  -- and stand at their numbers
  pub numbered_ordered : AreNumbered round ordered
  numbered_ordered = numbers_are_range (map number_of ordered) round.facts.seats (λ i j d first within.
      let inside : length (map number_of ordered) ≡ length ordered = length-map ordered number_of in
      let some = fresh_pass round 0 in
      subst (λ (z : ℕ × ℕ). z.0 ≤ z.1) (λ k. (
        sym (get_or-map number_of ordered i some d (omega (arith, inside, first, within))) k,
        sym (get_or-map number_of ordered j some d (omega (arith, inside, within))) k,
      )) (by_number.order i j some first (omega (arith, inside, within)))) all_ordered.once

  -- no operation of theirs is in flight
  pub rest_ordered : AreAtRest passes → AreAtRest ordered
  rest_ordered idle = All-permutation (λ (pass : PassValue). pass.view.flight ≡ None) passes ordered by_number.same idle

  -- and with them the round ends so
  pub ends_ordered : (words : List ℕ) (front : List Entry) → EndsRound round.facts passes words front
      → EndsRound round.facts ordered words front
  ends_ordered words front ends =
      let view_of : PassValue → PassView = λ pass. pass.view in
      record {
        state = ends.state;
        holds = ends.holds;
        views = All-permutation (HasView ends.state) passes ordered by_number.same ends.views;
        all = IsPermutation-trans (map view_of ordered) (map view_of passes) ends.state.views
            (IsPermutation-sym (map view_of passes) (map view_of ordered) (IsPermutation-map view_of passes ordered by_number.same))
            ends.all;
        serials = All-permutation HasBegunCalls passes ordered by_number.same ends.serials;
        members = ends.members;
        plain = ends.plain;
      }

-- There are as many as the round has.
pub numbered_count : (round : RoundValue) (passes : List PassValue) → AreNumbered round passes → length passes ≡ round.facts.seats
numbered_count round passes numbered =
    sym (length-map passes number_of) ∙ ap length numbered ∙ length-range_with_len 0 round.facts.seats
