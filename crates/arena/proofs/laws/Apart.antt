-- Published blocks and blocks in hand lie inside the arena, behind the fixed words, and no two share a word.
use Rattle.std.proofs.Common.{◌≡◌, ℕ, ◌+◌, ◌-◌, ◌<◌, ◌⊎◌, inl, inr, ⊎_elim, List, length, Option, Some, None, refl, ap, ◌∙◌, lt_of_not-le, arith}
use native.Mathlib.Decide.{dec_le}
use Rattle.arena.specs.declared.held.Held.{Held}
use Rattle.arena.specs.Owners.{sealed, cell, hand}
use Rattle.arena.specs.States.{ArenaState}
use Rattle.arena.specs.LaidOut.{IsLaidOut, block_size}
use Rattle.arena.specs.Laws.{IsPublishedWord, IsWordInHand, BlocksLieInside, HandsLieInside, BlocksAreApart, HandsAreApart, HandsAreUnpublished, HandsAreNew}
use Rattle.arena.proofs.laws.Inside.{is_drawn}

module _ {B V : Type 0} (sealed_words : B → List ℕ) (open_words : B → ℕ) (hands_of : V → List Held)
    {cap seats : ℕ} {words : List ℕ} {state : ArenaState B V}
    (laid : IsLaidOut sealed_words open_words hands_of cap seats words state) where
  -- a word of a published block is sealed, or one of its cells
  published_owner : (at place : ℕ) → IsPublishedWord sealed_words open_words state.blocks at place
      → (state.owners place ≡ sealed at) ⊎ ((k : ℕ) × (state.owners place ≡ cell at k))
  published_owner at place word =
      let stands = laid.blocks at word.block word.is_block in
      let count : ℕ = length (sealed_words word.block) in
      let offset : ℕ = place - at in
      elim (dec_le count offset) [
        | yes behind ↦ let here : place ≡ at + count + (offset - count) = omega (arith, word.begun) in
            let is_cell : offset - count < open_words word.block = omega (arith, word.begun, word.within) in
            inr (offset - count, ap state.owners here ∙ stands.cell_part.owned (offset - count) is_cell)
        | no before ↦ let here : place ≡ at + offset = omega (arith, word.begun) in
            inl (ap state.owners here ∙ stands.sealed_part.owned offset (lt_of_not-le before))
      ]

  -- a word in hand is its holder's
  pub hand_owner : (holder at place : ℕ) → IsWordInHand hands_of state.views holder at place → state.owners place ≡ hand holder at
  hand_owner holder at place word =
      let here : place ≡ at + (place - at) = omega (arith, word.begun) in
      ap state.owners here ∙ (laid.hands holder word.view word.is_view at).owned (place - at) (omega (arith, word.begun, word.within))

  pub blocks_lie_inside : BlocksLieInside sealed_words open_words hands_of cap seats words state
  blocks_lie_inside at place word = ⊎_elim
      (λ owner. is_drawn laid.bounds place (λ e. cc) (λ e. cc))
      (λ owner. let is_cell = owner.1 in is_drawn laid.bounds place (λ e. cc) (λ e. cc))
      (published_owner at place word)

  pub hands_lie_inside : HandsLieInside sealed_words open_words hands_of cap seats words state
  hands_lie_inside holder at place word =
      let owner = hand_owner holder at place word in is_drawn laid.bounds place (λ e. cc) (λ e. cc)

  pub blocks_are_apart : BlocksAreApart sealed_words open_words hands_of cap seats words state
  blocks_are_apart at other place word other_word = ⊎_elim
      (λ one. ⊎_elim (λ two. cc) (λ two. let is_cell = two.1 in cc) (published_owner other place other_word))
      (λ one. let is_cell = one.1 in
      ⊎_elim (λ two. cc) (λ two. let is_other = two.1 in cc) (published_owner other place other_word))
      (published_owner at place word)

  pub hands_are_apart : HandsAreApart sealed_words open_words hands_of cap seats words state
  hands_are_apart holder at other_holder other place word other_word =
      let one = hand_owner holder at place word in
      let two = hand_owner other_holder other place other_word in
      (cc, cc)

  pub hands_are_unpublished : HandsAreUnpublished sealed_words open_words hands_of cap seats words state
  hands_are_unpublished holder at other place word other_word =
      let one = hand_owner holder at place word in
      ⊎_elim (λ two. cc) (λ two. let is_cell = two.1 in cc) (published_owner other place other_word)

  no_block : ((block : B) → 0 < block_size sealed_words open_words block)
      → (holder at : ℕ) → IsWordInHand hands_of state.views holder at at → (found : Option B) → state.blocks at ≡ found → found ≡ None
  no_block some_word holder at word None is_block = refl
  no_block some_word holder at word (Some block) is_block = absurd (hands_are_unpublished holder at at at word
      (record { block = block; is_block = is_block; begun = omega arith; within = omega (arith, some_word block) }))

  pub hands_are_new : HandsAreNew sealed_words open_words hands_of cap seats words state
  hands_are_new some_word holder at word = no_block some_word holder at word (state.blocks at) refl
