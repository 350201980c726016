-- A draw within the arena: what was free from the next place on is in the holder's hand, all 0.
use Rattle.std.proofs.Common.{◌≡◌, ℕ, ◌+◌, ◌<◌, ◌≤◌, List, ◌∷◌, replicate, get_or, set, sym, subst, ◌∙◌, arith}
use mathlib.Core.Option.{some}
use lib.ListN.{get_elem?}
use native.Mathlib.Decide.{ℕ_discrete}
use Rattle.std.proofs.lemmas.List.{length-replicate, get_or-replicate}
use Rattle.arena.specs.declared.held.Held.{Held}
use Rattle.arena.specs.declared.layout.TheConstants.{NEXT}
use Rattle.arena.specs.Owners.{Owner, free, fixed, hand, claimed}
use Rattle.arena.specs.Hands.{words_at, drawn_block}
use Rattle.arena.specs.States.{ArenaState}
use Rattle.arena.specs.LaidOut.{IsRange, IsBounded, IsLaidOut}
use Rattle.arena.specs.Laws.{DrawKeeps}
use Rattle.arena.proofs.laws.Owners.{claimed-in, claimed-above, claimed-else}
use Rattle.arena.proofs.laws.Hands.{words_at-drawn_same, words_at-drawn_other}
use Rattle.arena.proofs.laws.Ranges.{other_word, IsRange-claimed, IsBlock-claimed}
use Rattle.arena.proofs.laws.Views.{HandsStand, hands_stand}
use Rattle.arena.proofs.keeps.Fixed.{overdraw_keeps}

-- what is behind the words drawn is as free as it was
bounded : {cap seats next : ℕ} {owners : ℕ → Owner} → IsBounded cap seats next owners
    → (count : ℕ) (owner : ℕ → Owner) → next + count ≤ cap → IsBounded cap seats (next + count) (claimed owners next count owner)
bounded {next = next} {owners} bounds count owner fits = record {
  below_base = λ a lt. let is_fixed = bounds.below_base a lt in
      claimed-else owners next count owner free (λ k less. bounds.from_next (next + k) (omega arith)) a (λ e. cc) ∙ is_fixed;
  from_next = λ a le. claimed-above owners next count owner a le ∙ bounds.from_next a (omega arith);
  past_end = λ a le. claimed-above owners next count owner a (omega arith) ∙ bounds.past_end a le;
}

-- zeros that the holder claims are a block in its hand
zeros_claimed : {words : List ℕ} (owners : ℕ → Owner) (at count holder : ℕ)
    → ((k : ℕ) → k < count → get_or words (at + k) 0 ≡ 0)
    → IsRange words (claimed owners at count (λ _. hand holder at)) at (replicate count 0) (hand holder at)
zeros_claimed {words} owners at count holder zeros =
    let size = length-replicate {A = ℕ} count 0 in
    record {
      shown = λ k lt. let less : k < count = omega arith in zeros k less ∙ sym (get_or-replicate count k 0 0 less);
      owned = λ k lt. claimed-in owners at count (λ _. hand holder at) k (omega arith);
    }

-- the drawn block and those that were there, if these still stand
with_drawn : (words : List ℕ) (owners : ℕ → Owner) (hands : List Held) (next count holder : ℕ)
    → IsRange words owners next (replicate count 0) (hand holder next)
    → ((at : ℕ) → IsRange words owners at (words_at hands at) (hand holder at))
    → (at : ℕ) → IsRange words owners at (words_at (drawn_block next count ∷ hands) at) (hand holder at)
with_drawn words owners hands next count holder drawn others at = elim (ℕ_discrete at next) [
  | yes same ↦ subst (λ a. IsRange words owners a (words_at (drawn_block next count ∷ hands) a) (hand holder a)) (sym same)
      (subst (λ list. IsRange words owners next list (hand holder next)) (sym (words_at-drawn_same hands next count)) drawn)
  | no apart ↦ subst (λ list. IsRange words owners at list (hand holder at))
      (sym (words_at-drawn_other hands next count at apart)) (others at)
]

module _ {B V : Type 0} (sealed_words : B → List ℕ) (open_words : B → ℕ) (hands_of : V → List Held)
    {cap seats : ℕ} {words : List ℕ} {state : ArenaState B V}
    (laid : IsLaidOut sealed_words open_words hands_of cap seats words state) where
  pub draw_keeps : DrawKeeps sealed_words open_words hands_of cap seats words state
  draw_keeps holder new count fits changes =
      let next : ℕ = state.next in
      let after : List ℕ = set words NEXT (next + count) in
      let raised = overdraw_keeps sealed_words open_words hands_of laid (next + count) (omega arith) in
      let owner : ℕ → Owner = λ _. hand holder next in
      let owners : ℕ → Owner = claimed state.owners next count owner in
      let was_free : (k : ℕ) → k < count → state.owners (next + k) ≡ free = λ k lt. laid.bounds.from_next (next + k) (omega arith) in
      let next_fixed : state.owners NEXT ≡ fixed = laid.bounds.below_base NEXT (omega arith) in
      let zeros : (k : ℕ) → k < count → get_or after (next + k) 0 ≡ 0 = λ k lt.
      let is_free = was_free k lt in
      other_word words state.owners NEXT (next + count) (next + k) (λ e. cc) ∙ laid.rest (next + k) (omega arith) in
      let others : (i : ℕ) (view : V) → get_elem? state.views i ≡ some view → HandsStand hands_of after owners i view =
      λ i view is_view at. IsRange-claimed (raised.hands i view is_view at) next count owner free was_free (λ e. cc) in
      record {
        size = raised.size;
        fixed_words = raised.fixed_words;
        bounds = bounded laid.bounds count owner fits;
        rest = raised.rest;
        blocks = λ at block is_block. IsBlock-claimed sealed_words open_words (raised.blocks at block is_block)
            next count owner free was_free (λ e. cc) (λ k e. cc);
        no_cells = raised.no_cells;
        hands = hands_stand hands_of after owners state.views holder new changes
            (with_drawn after owners (hands_of changes.old) next count holder
            (zeros_claimed state.owners next count holder zeros) (others holder changes.old changes.is_view))
            (λ i view apart. others i view);
      }
