-- The smallest opening shows its state, and so do the words once a block was drawn, written, published and set.
-- Words with another sealed word don't.
use Rattle.std.proofs.Common.{◌≡◌, ℕ, zero, suc, ◌+◌, ◌-◌, ◌<◌, ◌≤◌, ◌≢◌, ⊎_elim, List, [], ◌∷◌, Option, Some, None, length, slice_index, refl, sym, ap, subst, ◌∙◌, arith}
use mathlib.Core.Option.{some, some-injective, some-ne-none}
use lib.ListN.{get_elem?}
use Rattle.std.proofs.lemmas.Bool.Decides.{nat_tests}
use Rattle.std.proofs.lemmas.List.{get_or-drop}
use Rattle.arena.specs.declared.held.Held.{Held}
use Rattle.arena.specs.declared.layout.TheConstants.{ANNOUNCED}
use Rattle.arena.specs.Owners.{sealed, cell, claimed, block_owner}
use Rattle.arena.specs.Hands.{words_at, written}
use Rattle.arena.specs.States.{updated}
use Rattle.arena.specs.LaidOut.{IsBlock, IsBounded, cell_count}
use Rattle.arena.specs.Smallest.{OpeningShows, EndingShows, DamageShowsNot, ShowsSmall, small_words, small_opening, small_hand, small_draw, small_write, small_publish}
use Rattle.arena.proofs.laws.Hands.{KeepsFronts-refl}
use Rattle.arena.proofs.laws.States.{updated-same, updated-cases, cells_with-other}
use Rattle.arena.proofs.keeps.Draw.{draw_keeps}
use Rattle.arena.proofs.keeps.Write.{write_keeps}
use Rattle.arena.proofs.keeps.Publish.{publish_keeps}
use Rattle.arena.proofs.keeps.Cell.{cell_keeps}
use Rattle.arena.proofs.keeps.Fixed.{head_keeps}

-- a fact of 0 is one of each number below 1
only_zero : (P : ℕ → Type 0) → P 0 → (k : ℕ) → k < 1 → P k
only_zero P here zero lt = here
only_zero P here (suc k) lt = absurd (omega arith)

zeros_behind : (k : ℕ) → slice_index (0 ∷ 0 ∷ []) k ≡ 0
zeros_behind zero = refl
zeros_behind (suc zero) = refl
zeros_behind (suc (suc k)) = refl

rest_zero : (a : ℕ) → 6 ≤ a → slice_index small_words a ≡ 0
rest_zero a le =
    let place : a ≡ 6 + (a - 6) = omega arith in
    ap (slice_index small_words) place ∙ sym (get_or-drop 6 small_words (a - 6) 0) ∙ zeros_behind (a - 6)

bounded : IsBounded 8 1 6 small_opening.owners
unfolding claimed block_owner
bounded = record {
  below_base = λ a lt. grind (arith, nat_tests);
  from_next = λ a le. grind (arith, nat_tests);
  past_end = λ a le. grind (arith, nat_tests);
}

block_stands : IsBlock (λ block. block) (λ _. 1) small_words small_opening.owners (small_opening.cells 4) 4 (7 ∷ [])
unfolding claimed block_owner updated
block_stands = record {
  sealed_part = record {
    shown = only_zero (λ k. slice_index small_words (4 + k) ≡ slice_index (7 ∷ []) k) refl;
    owned = only_zero (λ k. small_opening.owners (4 + k) ≡ sealed 4) refl;
  };
  cell_part = record {
    shown = only_zero (λ k. slice_index small_words (5 + k) ≡ small_opening.cells 4 k) refl;
    owned = only_zero (λ k. small_opening.owners (5 + k) ≡ cell 4 k) refl;
  };
}

blocks_stand : (at : ℕ) (block : List ℕ) → small_opening.blocks at ≡ Some block
    → IsBlock (λ found. found) (λ _. 1) small_words small_opening.owners (small_opening.cells at) at block
blocks_stand at block is_block = ⊎_elim
    (λ (here : (at ≡ 4) × (small_opening.blocks at ≡ Some (7 ∷ []))).
    subst (λ (p : ℕ × List ℕ).
    IsBlock (λ found. found) (λ _. 1) small_words small_opening.owners (small_opening.cells p.0) p.0 p.1)
    (λ i. (sym here.0 i, let same : (7 ∷ []) ≡ block = cc in same i)) block_stands)
    (λ (there : (at ≢ 4) × (small_opening.blocks at ≡ None)). cc)
    (updated-cases (λ _. None) 4 (Some (7 ∷ [])) at)

no_cells : (at k : ℕ) → cell_count (λ _. 1) (small_opening.blocks at) ≤ k → small_opening.cells at k ≡ 0
no_cells at k le =
    let count : Option (List ℕ) → ℕ = cell_count (λ _. 1) in
    cells_with-other (λ _ _. 0) 4 0 9 at k (λ same.
    let one : count (small_opening.blocks at) ≡ 1 =
    ap (λ a. count (small_opening.blocks a)) same ∙ ap count (updated-same (λ _. None) 4 (Some (7 ∷ []))) in
    omega arith)

no_hands : (holder : ℕ) (view : List Held) → get_elem? ([] ∷ []) holder ≡ some view → view ≡ []
no_hands zero view is_view = sym (some-injective [] view is_view)
no_hands (suc holder) view is_view = absurd (some-ne-none view (sym is_view))

-- the opening shows its state
pub opening_shows : OpeningShows
opening_shows = record {
  size = refl;
  fixed_words = record {
    head_shown = refl;
    next_shown = refl;
    ticket_shown = refl;
    announced_shown = only_zero (λ holder. slice_index small_words (ANNOUNCED + holder) ≡ 0) refl;
  };
  bounds = bounded;
  rest = rest_zero;
  blocks = blocks_stand;
  no_cells = no_cells;
  hands = λ holder view is_view at.
      let none = ap (λ hands. length (words_at hands at)) (no_hands holder view is_view) in
      record { shown = λ k lt. absurd (omega arith); owned = λ k lt. absurd (omega arith) };
}

-- each move by its law
draw_shows : ShowsSmall (4 ∷ 8 ∷ 0 ∷ 0 ∷ 7 ∷ 9 ∷ 0 ∷ 0 ∷ []) small_draw
draw_shows = draw_keeps (λ block. block) (λ _. 1) (λ hands. hands) opening_shows 0 small_hand 2 (omega arith)
    (record { old = []; is_view = refl; fronts = KeepsFronts-refl small_hand })

write_shows : ShowsSmall (4 ∷ 8 ∷ 0 ∷ 0 ∷ 7 ∷ 9 ∷ 5 ∷ 0 ∷ []) small_write
write_shows = write_keeps (λ block. block) (λ _. 1) (λ hands. hands) draw_shows 0 (written 6 5 small_hand) 6 6 5
    ((draw_shows.hands 0 small_hand refl 6).owned 0 (omega arith))
    (record { old = small_hand; is_view = refl; fronts = KeepsFronts-refl (written 6 5 small_hand) })

publish_shows : ShowsSmall (4 ∷ 8 ∷ 0 ∷ 0 ∷ 7 ∷ 9 ∷ 5 ∷ 0 ∷ []) small_publish
publish_shows = publish_keeps (λ block. block) (λ _. 1) (λ hands. hands) write_shows 0 [] 6 (5 ∷ [])
    (record { in_hand = write_shows.hands 0 (written 6 5 small_hand) refl 6; some_word = omega arith })
    (record { old = written 6 5 small_hand; is_view = refl; fronts = KeepsFronts-refl [] })

-- the last words show the last state
pub ending_shows : EndingShows
ending_shows =
    let is_block = updated-same small_write.blocks 6 (Some (5 ∷ [])) in
    head_keeps (λ block. block) (λ _. 1) (λ hands. hands)
    (cell_keeps (λ block. block) (λ _. 1) (λ hands. hands) publish_shows 6 0 3 (5 ∷ []) is_block (omega arith)) 6

-- the sealed word 8 is not the 7 that the state says
pub damage_shows_not : DamageShowsNot
damage_shows_not laid =
    let stands = laid.blocks 4 (7 ∷ []) (updated-same (λ _. None) 4 (Some (7 ∷ []))) in
    let sealed_seven : 8 ≡ slice_index (7 ∷ []) 0 = stands.sealed_part.shown 0 (omega arith) in
    omega arith
