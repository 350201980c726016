-- The first table seat of a round is cut into those of its passes, one after the other.
use Rattle.std.proofs.Common.{◌≡◌, ◌≢◌, ℕ, suc, ◌+◌, ◌-◌, ◌<◌, List, [], ◌∷◌, ◌++◌, map, refl, sym, ap, ◌∙◌, subst, arith, None, All}
use Rattle.std.specs.List.{range_with_len}
use Rattle.std.proofs.lemmas.List.Elements.{All-nil}
use Rattle.std.proofs.lemmas.List.FromFn.{map-range_with_len_more}
use Rattle.atomic_table.specs.Table.{Me, Splits}
use Rattle.atomic_table.specs.Seated.{TableId}
use Rattle.step_core.specs.States.{fresh_view}
use Rattle.step_core.specs.declared.views.PassView.{PassView}
use Rattle.step_core.specs.declared.views.RoundFacts.{RoundFacts}
use Rattle.cells.specs.Begins.{rest_seat, SpeaksForAll}
use Rattle.cells.specs.Sound.{AreFacts, IsSound}
use Rattle.cells.specs.Modeled.{IsRound, IsWhole, round_value}
use Rattle.cells.specs.Seats.{IsRuled, fresh_of, pass_seat, pass_of, other_passes}
use Rattle.cells.specs.Tokens.{RoundValue, PassValue, fresh_pass, fresh_passes}
use Rattle.cells.specs.declared.pass.Pass.TheInside as pass
use Rattle.cells.specs.declared.round.Round.TheInside as round
use Rattle.cells.specs.declared.rule.SeatView.{SeatView}
use Rattle.cells.proofs.keeps.Seats.{cut_keeps}
use Rattle.cells.proofs.laws.Opens.{all_fresh}

-- the passes below the number have their table seats, and the first table seat has the rest
pub record IsCut (round : RoundValue) (number : ℕ) (table : TableId) (me : Me ℕ SeatView) (passes : List PassValue)
    : Type 0 where
  pub same_table : table ≡ round.table
  pub seat : me ≡ (rest_seat round number, [])
  pub passes_are : passes ≡ map (fresh_pass round) (range_with_len 0 number)

-- before the first cut
pub cut_none : (round : RoundValue) (table : TableId) (me : Me ℕ SeatView) (passes : List PassValue)
    → SpeaksForAll round table me → passes ≡ [] → IsCut round 0 table me passes
cut_none round table me passes speaks empty = record {
  same_table = speaks.same_table;
  seat = speaks.seat;
  passes_are = empty;
}

-- the passes from the number on are it and those from the next on
rest_seat-more : (round : RoundValue) (number : ℕ) → number < round.facts.seats
    → rest_seat round number ≡ record {
      front = [];
      rights = fresh_view round.facts number ∷ (rest_seat round (number + 1)).rights;
    }
rest_seat-more round number lt =
    let seats = round.facts.seats in
    let more : seats - number ≡ suc (seats - (number + 1)) = omega arith in
    ap (λ (n : ℕ). record { front = []; rights = map (fresh_view round.facts) (range_with_len number n) }) more

-- the cut is allowed
pub cut_allowed : (facts : RoundFacts) (round : RoundValue) (number id : ℕ) (me : Me ℕ SeatView)
    → me ≡ (rest_seat round number, []) → number < round.facts.seats
    → Splits (IsRuled facts) id me.0 (record { front = me.0.front; rights = other_passes me.0.rights })
    (pass_seat (fresh_of (pass_of me.0)))
cut_allowed facts round number id me seat lt =
    let same = ap (λ (m : Me ℕ SeatView). m.0) seat ∙ rest_seat-more round number lt in
    let Cuts : SeatView → Type 0 = λ seat. Splits (IsRuled facts) id seat
    (record { front = seat.front; rights = other_passes seat.rights }) (pass_seat (fresh_of (pass_of seat))) in
    let rest = (rest_seat round (number + 1)).rights in
    subst Cuts (sym same) (cut_keeps facts id (record { front = []; rights = fresh_view round.facts number ∷ rest }) refl
    (all_fresh (λ view. view.number ≢ number) round.facts (number + 1) (round.facts.seats - (number + 1))
    (λ other ge below same. omega arith)))

-- what the cut gives
pub cut_pass : (round : RoundValue) (number : ℕ) (me : Me ℕ SeatView) → me ≡ (rest_seat round number, [])
    → number < round.facts.seats → pass_of me.0 ≡ fresh_view round.facts number
cut_pass round number me seat lt =
    ap (λ (m : Me ℕ SeatView). pass_of m.0) seat ∙ ap pass_of (rest_seat-more round number lt)

-- and leaves
pub cut_rest : (round : RoundValue) (number : ℕ) (me : Me ℕ SeatView) → me ≡ (rest_seat round number, [])
    → number < round.facts.seats
    → record { front = me.0.front; rights = other_passes me.0.rights } ≡ rest_seat round (number + 1)
cut_rest round number me seat lt =
    ap (λ (s : SeatView). record { front = s.front; rights = other_passes s.rights })
    (ap (λ (m : Me ℕ SeatView). m.0) seat ∙ rest_seat-more round number lt)

-- one pass more
pub cut_more : (round : RoundValue) (number : ℕ) (table after : TableId) (me new : Me ℕ SeatView) (passes more : List PassValue)
    (pass : PassValue) → number < round.facts.seats → IsCut round number table me passes → after ≡ table
    → new ≡ (record { front = me.0.front; rights = other_passes me.0.rights }, me.1)
    → more ≡ passes ++ pass ∷ [] → pass ≡ record { table = table; view = fresh_of (pass_of me.0); calls = 0 }
    → IsCut round (number + 1) after new more
cut_more round number table after me new passes more pass lt cut same_table is pushed pass_is = record {
  same_table = same_table ∙ cut.same_table;
  seat = is ∙ (λ i. (cut_rest round number me cut.seat lt i, ap (λ (m : Me ℕ SeatView). m.1) cut.seat i));
  passes_are = pushed
      ∙ (λ i. cut.passes_are i ++ (pass_is ∙ (λ j. record {
        table = cut.same_table j;
        view = fresh_of (cut_pass round number me cut.seat lt j);
        calls = 0;
      })) i ∷ [])
      ∙ sym (map-range_with_len_more (fresh_pass round) 0 number number (omega arith));
}

-- all of them
pub cut_all : (round : RoundValue) (number : ℕ) (table : TableId) (me : Me ℕ SeatView) (passes : List PassValue)
    → number ≡ round.facts.seats → IsCut round number table me passes → passes ≡ fresh_passes round
cut_all round number table me passes all cut =
    cut.passes_are ∙ ap (λ (n : ℕ). map (fresh_pass round) (range_with_len 0 n)) all

-- a fresh view is sound
pub fresh_sound : (facts : RoundFacts) (number : ℕ) → AreFacts facts → number < facts.seats → IsSound (fresh_view facts number)
fresh_sound facts number small lt = record {
  facts = small;
  seat = lt;
  legal = tt;
  used = All-nil (λ entry. entry.serial < 0);
  blocks = λ at block knows. absurd (omega (arith, knows.1));
  one = λ at block other knows also. absurd (omega (arith, knows.1));
  apart = λ at other place inside also. absurd (omega (arith, inside.known.1));
  rows = λ at row knows. absurd (omega (arith, knows.1));
  given = λ at row knows. absurd (omega (arith, knows.1));
  generations = λ at generation knows. absurd (omega (arith, knows.1));
  nexts = λ at generation other knows before. absurd (omega (arith, knows.1));
  hands = λ at place inside. absurd (omega (arith, inside.begun, inside.within));
  hands_apart = λ at other place inside also. absurd (omega (arith, inside.begun, inside.within));
  hands_unknown = λ at other place inside also. absurd (omega (arith, inside.begun, inside.within));
  lone = λ alone. refl;
  no_op = λ at row knows. absurd (omega (arith, knows.1));
}

-- and so is the pass that has it
pub fresh_whole : (facts : RoundFacts) (number : ℕ) (inside : pass.Inside) → AreFacts facts → number < facts.seats
    → inside.seat.me ≡ (pass_seat (fresh_view facts number), []) → inside.number ≡ number → inside.spent ≡ None
    → IsWhole inside
fresh_whole facts number inside small lt me is_number unspent =
    let Of : (PassView → Type 0) → Me ℕ SeatView → Type 0 = λ P m. P (pass_of m.0) in
    record {
      one = me ∙ ap (λ (m : Me ℕ SeatView). (pass_seat (pass_of m.0), [])) (sym me);
      number = is_number ∙ ap (λ (m : Me ℕ SeatView). (pass_of m.0).number) (sym me);
      spent = unspent ∙ ap (λ (m : Me ℕ SeatView). (pass_of m.0).spent) (sym me);
      sound = subst (Of IsSound) (sym me) (fresh_sound facts number small lt);
      serials = record {
        serials = subst (Of (λ view. All (λ entry. entry.serial < inside.calls) view.mine)) (sym me)
            (All-nil (λ entry. entry.serial < inside.calls));
        used = omega (arith, ap (λ (m : Me ℕ SeatView). (pass_of m.0).used) me);
      };
      heard = ap (λ (m : Me ℕ SeatView). (pass_of m.0).heard) me;
    }

-- a round has as many passes as its layout says
pub round_seats : (inside : round.Inside) (value : RoundValue) → round_value inside ≡ value → IsRound inside
    → value.facts.seats ≡ inside.layout.seats
round_seats inside value is invariant = ap (λ (v : RoundValue). v.facts.seats) (sym is) ∙ invariant.seats

-- and a word at least
pub round_word : (inside : round.Inside) → IsRound inside → 0 < inside.table.shared.table_id.words
round_word inside invariant = omega (arith, invariant.words, invariant.cap, invariant.small.fixed_words)

-- and is small
pub round_small : (inside : round.Inside) (value : RoundValue) → round_value inside ≡ value → IsRound inside
    → AreFacts value.facts
round_small inside value is invariant = subst AreFacts (ap (λ (v : RoundValue). v.facts) is) invariant.small
