-- A word in hand is written: the block has it, and nothing else changes.
use Rattle.std.proofs.Common.{◌≡◌, ◌≢◌, ℕ, ◌+◌, ◌-◌, ◌<◌, true, false, cond, leb, List, length, get_or, set, refl, sym, subst, ◌∙◌, arith}
use native.Mathlib.Decide.{ℕ_discrete, dec_le}
use Rattle.std.proofs.Math.ListN.{length-set}
use Rattle.std.proofs.lemmas.List.{get_or-set_same, get_or-set_other}
use Rattle.std.proofs.lemmas.Bool.Decides.{nat_tests}
use Rattle.arena.specs.declared.held.Held.{Held}
use Rattle.arena.specs.Owners.{Owner, hand}
use Rattle.arena.specs.Hands.{words_at, written}
use Rattle.arena.specs.States.{ArenaState}
use Rattle.arena.specs.LaidOut.{IsRange, IsLaidOut}
use Rattle.arena.specs.Laws.{WriteKeeps}
use Rattle.arena.proofs.laws.Hands.{words_at-written}
use Rattle.arena.proofs.laws.Ranges.{other_word, IsFixed-set, IsRange-set, IsBlock-set}
use Rattle.arena.proofs.laws.Views.{hands_stand}
use Rattle.arena.proofs.keeps.Fixed.{owned_within}

-- the list that stands at `at` after the write
written_list : List ℕ → ℕ → ℕ → ℕ → List ℕ
written_list list at place value = cond (leb at place) (set list (place - at) value) list

length-written_list : (list : List ℕ) (at place value : ℕ) → length (written_list list at place value) ≡ length list
unfolding written_list
length-written_list list at place value =
    elim (leb at place) as (λ test. length (cond test (set list (place - at) value) list) ≡ length list) [
      | true ↦ length-set list (place - at) value
      | false ↦ refl
    ]

-- it has the value at the place, and else what it had
written_list-same : (list : List ℕ) (at k value : ℕ) → k < length list → get_or (written_list list at (at + k) value) k 0 ≡ value
unfolding written_list
written_list-same list at k value lt = grind (arith, nat_tests, get_or-set_same list k value 0 lt)

written_list-other : (list : List ℕ) (at place value k : ℕ) → at + k ≢ place
    → get_or (written_list list at place value) k 0 ≡ get_or list k 0
unfolding written_list
written_list-other list at place value k apart = elim (dec_le at place) [
  | yes le ↦ let other = get_or-set_other list (place - at) k value 0 (λ e. apart (omega arith)) in grind (arith, nat_tests)
  | no not_le ↦ grind (arith, nat_tests)
]

-- it is what a block in hand has after the write
words_at-written_list : (hands : List Held) (place value at : ℕ)
    → words_at (written place value hands) at ≡ written_list (words_at hands at) at place value
unfolding written_list
words_at-written_list = words_at-written

-- a range under a write, also where the place is its own
range_written : {words list : List ℕ} {owners : ℕ → Owner} {at : ℕ} {owner : Owner} → IsRange words owners at list owner
    → (place value : ℕ) → place < length words → IsRange (set words place value) owners at (written_list list at place value) owner
range_written {words} {list} {at = at} range place value within =
    let size = length-written_list list at place value in
    record {
      shown = λ k lt. let less : k < length list = omega arith in elim (ℕ_discrete (at + k) place) [
        | yes same ↦ subst (λ p. get_or (set words p value) (at + k) 0 ≡ get_or (written_list list at p value) k 0) same
            (get_or-set_same words (at + k) value 0 (omega arith) ∙ sym (written_list-same list at k value less))
        | no apart ↦ get_or-set_other words place (at + k) value 0 apart
            ∙ range.shown k less ∙ sym (written_list-other list at place value k apart)
      ];
      owned = λ k lt. range.owned k (omega arith);
    }

module _ {B V : Type 0} (sealed_words : B → List ℕ) (open_words : B → ℕ) (hands_of : V → List Held)
    {cap seats : ℕ} {words : List ℕ} {state : ArenaState B V}
    (laid : IsLaidOut sealed_words open_words hands_of cap seats words state) where
  pub write_keeps : WriteKeeps sealed_words open_words hands_of cap seats words state
  write_keeps holder new at place value owned changes =
      let after : List ℕ = set words place value in
      let within : place < length words = owned_within sealed_words open_words hands_of laid place (λ e. cc) in
      record {
        size = length-set words place value ∙ laid.size;
        fixed_words = IsFixed-set laid.bounds laid.fixed_words place value (λ e. cc);
        bounds = laid.bounds;
        rest = λ a le. other_word words state.owners place value a (λ e. let is_free = laid.bounds.from_next a le in cc)
            ∙ laid.rest a le;
        blocks = λ from block is_block.
            IsBlock-set sealed_words open_words (laid.blocks from block is_block) place value (λ e. cc) (λ k e. cc);
        no_cells = laid.no_cells;
        hands = hands_stand hands_of after state.owners state.views holder new changes
            (λ from. subst (λ list. IsRange after state.owners from list (hand holder from))
            (sym (words_at-written_list (hands_of changes.old) place value from))
            (range_written (laid.hands holder changes.old changes.is_view from) place value within))
            (λ i view apart is_view from. IsRange-set (laid.hands i view is_view from) place value
            (λ e. apart (let same : i ≡ holder = cc in same)));
      }
