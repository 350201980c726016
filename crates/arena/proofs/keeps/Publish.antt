-- A block in hand is published with no word changed: its words go over to it, and its cells are 0.
use Rattle.std.proofs.Common.{◌≡◌, ◌≢◌, ℕ, ◌+◌, ◌<◌, ◌≤◌, List, length, replicate, get_or, refl, sym, ap, subst, ◌∙◌, ⊎_elim, Option, Some, None, add_assoc, arith}
use mathlib.Core.Option.{some}
use lib.ListN.{get_elem?}
use native.Mathlib.Decide.{ℕ_discrete}
use Rattle.std.proofs.Math.ListN.{length-append, get_or-append}
use Rattle.std.proofs.lemmas.List.{length-replicate, get_or-replicate, get_or-append-add}
use Rattle.arena.specs.declared.held.Held.{Held}
use Rattle.arena.specs.Owners.{Owner, hand, claimed, block_owner}
use Rattle.arena.specs.Hands.{words_at, without, IsFront}
use Rattle.arena.specs.States.{ArenaState, updated}
use Rattle.arena.specs.LaidOut.{IsRange, IsBlock, IsBounded, IsLaidOut, block_size, published_words, cell_count}
use Rattle.arena.specs.Laws.{IsReady, PublishKeeps}
use Rattle.arena.proofs.laws.Owners.{claimed-in, claimed-else, block_owner-sealed, block_owner-cell}
use Rattle.arena.proofs.laws.States.{updated-cases}
use Rattle.arena.proofs.laws.Hands.{words_at-without_same, words_at-without_other}
use Rattle.arena.proofs.laws.Ranges.{IsRange-front, IsRange-claimed, IsBlock-claimed}
use Rattle.arena.proofs.laws.Views.{hands_stand}

-- fixed and free words are in no hand, so the claim leaves them
bounded : {cap seats next : ℕ} {owners : ℕ → Owner} → IsBounded cap seats next owners
    → (at count holder : ℕ) (owner : ℕ → Owner) → ((k : ℕ) → k < count → owners (at + k) ≡ hand holder at)
    → IsBounded cap seats next (claimed owners at count owner)
bounded {owners = owners} bounds at count holder owner in_hand =
    let stays = claimed-else owners at count owner (hand holder at) in_hand in
    record {
      below_base = λ a lt. let was = bounds.below_base a lt in stays a (λ e. cc) ∙ was;
      from_next = λ a le. let was = bounds.from_next a le in stays a (λ e. cc) ∙ was;
      past_end = λ a le. let was = bounds.past_end a le in stays a (λ e. cc) ∙ was;
    }

-- the blocks that are left in hand, of a list that stood before
with_rest : (words : List ℕ) (owners : ℕ → Owner) (hands : List Held) (at holder : ℕ)
    → ((from : ℕ) → from ≢ at → IsRange words owners from (words_at hands from) (hand holder from))
    → (from : ℕ) → IsRange words owners from (words_at (without at hands) from) (hand holder from)
with_rest words owners hands at holder others from = elim (ℕ_discrete from at) [
  | yes same ↦ subst (λ list. IsRange words owners from list (hand holder from))
      (sym (ap (words_at (without at hands)) same ∙ words_at-without_same hands at))
      (record { shown = λ k lt. absurd (omega arith); owned = λ k lt. absurd (omega arith) })
  | no apart ↦ subst (λ list. IsRange words owners from list (hand holder from))
      (sym (words_at-without_other hands at from apart)) (others from apart)
]

module _ {B : Type 0} (sealed_words : B → List ℕ) (open_words : B → ℕ) (block : B) where
  length-published_words : length (published_words sealed_words open_words block) ≡ block_size sealed_words open_words block
  length-published_words =
      length-append (sealed_words block) (replicate (open_words block) 0)
      ∙ ap (λ n. length (sealed_words block) + n) (length-replicate {A = ℕ} (open_words block) 0)

  -- what stands in hand as the block's words, and is claimed for it, is the published block
  block_claimed : {words : List ℕ} (owners : ℕ → Owner) (cells : ℕ → ℕ) (at : ℕ) {owner : Owner}
      → IsRange words owners at (published_words sealed_words open_words block) owner → ((k : ℕ) → cells k ≡ 0)
      → IsBlock sealed_words open_words words
      (claimed owners at (block_size sealed_words open_words block) (block_owner at (length (sealed_words block)))) cells at block
  block_claimed {words} owners cells at range zeros =
      let seal : List ℕ = sealed_words block in
      let tail : List ℕ = replicate (open_words block) 0 in
      let owner : ℕ → Owner = block_owner at (length seal) in
      let count : ℕ = block_size sealed_words open_words block in
      let size = length-published_words in
      let behind : (k : ℕ) → at + length seal + k ≡ at + (length seal + k) = add_assoc at (length seal) in
      record {
        sealed_part = record {
          shown = λ k lt. range.shown k (omega arith) ∙ get_or-append seal tail 0 k lt;
          owned = λ k lt. claimed-in owners at count owner k (omega arith) ∙ block_owner-sealed at (length seal) k lt;
        };
        cell_part = record {
          shown = λ k lt. ap (λ a. get_or words a 0) (behind k) ∙ range.shown (length seal + k) (omega arith)
              ∙ get_or-append-add seal tail k 0 ∙ get_or-replicate (open_words block) k 0 0 lt ∙ sym (zeros k);
          owned = λ k lt. ap (claimed owners at count owner) (behind k)
              ∙ claimed-in owners at count owner (length seal + k) (omega arith) ∙ block_owner-cell at (length seal) k;
        };
      }

module _ {B V : Type 0} (sealed_words : B → List ℕ) (open_words : B → ℕ) (hands_of : V → List Held)
    {cap seats : ℕ} {words : List ℕ} {state : ArenaState B V}
    (laid : IsLaidOut sealed_words open_words hands_of cap seats words state) where
  -- the holder is ready where its block in hand begins with the published words
  pub is_ready : (holder at : ℕ) (block : B) (view : V) → get_elem? state.views holder ≡ some view
      → IsFront (published_words sealed_words open_words block) (words_at (hands_of view) at)
      → 0 < block_size sealed_words open_words block → IsReady sealed_words open_words words state.owners holder at block
  is_ready holder at block view is_view front some_word =
      record { in_hand = IsRange-front (laid.hands holder view is_view at) front; some_word = some_word }

  -- where a word is in hand, no published block with a cell begins
  no_cell_count : (at holder : ℕ) → state.owners at ≡ hand holder at
      → (found : Option B) → state.blocks at ≡ found → cell_count open_words found ≡ 0
  no_cell_count at holder in_hand None is_block = refl
  no_cell_count at holder in_hand (Some block) is_block =
      let stands = laid.blocks at block is_block in
      elim (ℕ_discrete (open_words block) 0) [
        | yes none ↦ none
        | no some_cell ↦ elim (ℕ_discrete (length (sealed_words block)) 0) [
          | yes empty ↦ let first = stands.cell_part.owned 0 (omega arith) in
              let here : at + length (sealed_words block) + 0 ≡ at = omega arith in
              absurd (let e = ap state.owners here in cc)
          | no some_seal ↦ let first = stands.sealed_part.owned 0 (omega arith) in
              let here : at + 0 ≡ at = omega arith in
              absurd (let e = ap state.owners here in cc)
        ]
      ]

  pub publish_keeps : PublishKeeps sealed_words open_words hands_of cap seats words state
  publish_keeps holder new at block ready changes =
      let count : ℕ = block_size sealed_words open_words block in
      let owner : ℕ → Owner = block_owner at (length (sealed_words block)) in
      let owners : ℕ → Owner = claimed state.owners at count owner in
      let blocks : ℕ → Option B = updated state.blocks at (Some block) in
      let in_hand : (k : ℕ) → k < count → state.owners (at + k) ≡ hand holder at =
      λ k lt. ready.in_hand.owned k (omega (arith, length-published_words sealed_words open_words block)) in
      let first : at ≡ at + 0 = omega arith in
      let here : state.owners at ≡ hand holder at = ap state.owners first ∙ in_hand 0 ready.some_word in
      let zeros : (k : ℕ) → state.cells at k ≡ 0 =
      λ k. laid.no_cells at k (omega (arith, no_cell_count at holder here (state.blocks at) refl)) in
      record {
        size = laid.size;
        fixed_words = laid.fixed_words;
        bounds = bounded laid.bounds at count holder owner in_hand;
        rest = laid.rest;
        blocks = λ from found is_block. ⊎_elim
            (λ (same : (from ≡ at) × (blocks from ≡ Some block)).
            subst (λ (p : ℕ × B). IsBlock sealed_words open_words words owners (state.cells p.0) p.0 p.1)
            (λ k. (sym same.0 k, let is_same : block ≡ found = cc in is_same k))
            (block_claimed sealed_words open_words block state.owners (state.cells at) at ready.in_hand zeros))
            (λ (other : (from ≢ at) × (blocks from ≡ state.blocks from)).
            IsBlock-claimed sealed_words open_words (laid.blocks from found (sym other.1 ∙ is_block))
            at count owner (hand holder at) in_hand (λ e. cc) (λ k e. cc))
            (updated-cases state.blocks at (Some block) from);
        no_cells = λ from k le. ⊎_elim
            (λ (same : (from ≡ at) × (blocks from ≡ Some block)). ap (λ a. state.cells a k) same.0 ∙ zeros k)
            (λ (other : (from ≢ at) × (blocks from ≡ state.blocks from)).
            laid.no_cells from k (subst (λ found. cell_count open_words found ≤ k) other.1 le))
            (updated-cases state.blocks at (Some block) from);
        hands = hands_stand hands_of words owners state.views holder new changes
            (with_rest words owners (hands_of changes.old) at holder (λ from apart.
            IsRange-claimed (laid.hands holder changes.old changes.is_view from)
            at count owner (hand holder at) in_hand (λ e. apart (let same : from ≡ at = cc in same))))
            (λ i view apart is_view from.
            IsRange-claimed (laid.hands i view is_view from)
            at count owner (hand holder at) in_hand (λ e. apart (let same : i ≡ holder = cc in same)));
      }
