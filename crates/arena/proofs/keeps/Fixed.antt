-- A fixed word is set, and the next place doesn't fall: what the other fixed words show, blocks and what nobody drew stay.
use Rattle.std.proofs.Common.{◌≡◌, ◌≢◌, ℕ, ◌+◌, ◌<◌, ◌≤◌, ◌⊎◌, inl, inr, ⊎_elim, List, length, get_or, set, refl, sym, ap, ◌∙◌, subst, arith}
use native.Mathlib.Decide.{ℕ_discrete}
use Rattle.std.proofs.Math.ListN.{length-set}
use Rattle.std.proofs.lemmas.List.{get_or-set_same, get_or-set_other}
use Rattle.arena.specs.declared.held.Held.{Held}
use Rattle.arena.specs.declared.layout.TheConstants.{HEAD, NEXT, TICKET, ANNOUNCED}
use Rattle.arena.specs.Owners.{free, fixed}
use Rattle.arena.specs.States.{ArenaState, updated}
use Rattle.arena.specs.LaidOut.{base, IsFixed, IsLaidOut}
use Rattle.arena.specs.Laws.{HeadKeeps, TicketKeeps, AnnounceKeeps, OverdrawKeeps}
use Rattle.arena.proofs.laws.Inside.{before_end}
use Rattle.arena.proofs.laws.Ranges.{other_word, IsRange-set, IsBlock-set}
use Rattle.arena.proofs.laws.States.{updated-same, updated-other}

-- what the number that the word at a place shows becomes once a word is set: the value where it is that word, and else it stays
abbrev Becomes : ℕ → ℕ → ℕ → ℕ → ℕ → Type 0
Becomes place value at before now = ((at ≡ place) × (now ≡ value)) ⊎ ((at ≢ place) × (now ≡ before))

-- the word shows that number
shown_set : (words : List ℕ) (place value at before now : ℕ) → place < length words → get_or words at 0 ≡ before
    → Becomes place value at before now → get_or (set words place value) at 0 ≡ now
shown_set words place value at before now within shown becomes = ⊎_elim
    (λ (here : (at ≡ place) × (now ≡ value)). subst (λ k. get_or (set words place value) k 0 ≡ now) (sym here.0)
    (get_or-set_same words place value 0 within ∙ sym here.1))
    (λ (other : (at ≢ place) × (now ≡ before)). get_or-set_other words place at value 0 (λ e. other.0 (omega arith))
    ∙ shown ∙ sym other.1)
    becomes

-- a word that isn't the one set shows what it did
stays : (place value at before : ℕ) → at ≢ place → Becomes place value at before before
stays place value at before apart = inr (apart, refl)

module _ {B V : Type 0} (sealed_words : B → List ℕ) (open_words : B → ℕ) (hands_of : V → List Held)
    {cap seats : ℕ} {words : List ℕ} {state : ArenaState B V}
    (laid : IsLaidOut sealed_words open_words hands_of cap seats words state) where
  -- an owned word is one of the words
  pub owned_within : (place : ℕ) → state.owners place ≢ free → place < length words
  owned_within place owned = let inside = before_end laid.bounds place owned in omega (arith, laid.size)

  -- so is a fixed one
  fixed_within : (place : ℕ) → place < base seats → place < length words
  fixed_within place below =
      let is_fixed = laid.bounds.below_base place below in owned_within place (λ e. cc)

  module _ (place value : ℕ) (below : place < base seats) {head next ticket : ℕ} {announced : ℕ → ℕ} (raised : state.next ≤ next)
      (head_is : Becomes place value HEAD state.head head) (next_is : Becomes place value NEXT state.next next)
      (ticket_is : Becomes place value TICKET state.ticket ticket)
      (announced_is : (holder : ℕ) → holder < seats
      → Becomes place value (ANNOUNCED + holder) (state.announced holder) (announced holder)) where
    -- the fixed words show what they became
    fixed_set : IsFixed seats (set words place value) head next ticket announced
    fixed_set =
        let within = fixed_within place below in
        let shown = laid.fixed_words in
        record {
          head_shown = shown_set words place value HEAD state.head head within shown.head_shown head_is;
          next_shown = shown_set words place value NEXT state.next next within shown.next_shown next_is;
          ticket_shown = shown_set words place value TICKET state.ticket ticket within shown.ticket_shown ticket_is;
          announced_shown = λ holder lt. shown_set words place value (ANNOUNCED + holder) (state.announced holder) (announced holder)
              within (shown.announced_shown holder lt) (announced_is holder lt);
        }

    -- and all else stays
    fixed_keeps : IsLaidOut sealed_words open_words hands_of cap seats (set words place value)
        (record state { head = head; next = next; ticket = ticket; announced = announced })
    fixed_keeps =
        let is_fixed : state.owners place ≡ fixed = laid.bounds.below_base place below in
        let still_free : (a : ℕ) → next ≤ a → state.owners a ≡ free = λ a le. laid.bounds.from_next a (omega arith) in
        record {
          size = length-set words place value ∙ laid.size;
          fixed_words = fixed_set;
          bounds = record {
            below_base = laid.bounds.below_base;
            from_next = still_free;
            past_end = laid.bounds.past_end;
          };
          rest = λ a le. other_word words state.owners place value a (λ e. let is_free = still_free a le in cc)
              ∙ laid.rest a (omega arith);
          blocks = λ at block is_block.
              IsBlock-set sealed_words open_words (laid.blocks at block is_block) place value (λ e. cc) (λ k e. cc);
          no_cells = laid.no_cells;
          hands = λ i view is_view at. IsRange-set (laid.hands i view is_view at) place value (λ e. cc);
        }

  -- The head word is set.
  pub head_keeps : HeadKeeps sealed_words open_words hands_of cap seats words state
  head_keeps head = fixed_keeps HEAD head (omega arith) (omega arith) (inl (refl, refl))
      (stays HEAD head NEXT state.next (omega arith)) (stays HEAD head TICKET state.ticket (omega arith))
      (λ holder lt. stays HEAD head (ANNOUNCED + holder) (state.announced holder) (omega arith))

  -- A draw past the end raises the next place, and nobody owns what was drawn.
  pub overdraw_keeps : OverdrawKeeps sealed_words open_words hands_of cap seats words state
  overdraw_keeps next raised = fixed_keeps NEXT next (omega arith) raised (stays NEXT next HEAD state.head (omega arith))
      (inl (refl, refl)) (stays NEXT next TICKET state.ticket (omega arith))
      (λ holder lt. stays NEXT next (ANNOUNCED + holder) (state.announced holder) (omega arith))

  -- The ticket word is set.
  pub ticket_keeps : TicketKeeps sealed_words open_words hands_of cap seats words state
  ticket_keeps ticket = fixed_keeps TICKET ticket (omega arith) (omega arith) (stays TICKET ticket HEAD state.head (omega arith))
      (stays TICKET ticket NEXT state.next (omega arith)) (inl (refl, refl))
      (λ holder lt. stays TICKET ticket (ANNOUNCED + holder) (state.announced holder) (omega arith))

  -- what a holder's announce word shows once one of them is set
  announced_set : (holder value other : ℕ) → Becomes (ANNOUNCED + holder) value (ANNOUNCED + other) (state.announced other)
      (updated state.announced holder value other)
  announced_set holder value other = elim (ℕ_discrete other holder) [
    | yes same ↦ inl (
      ap (λ k. ANNOUNCED + k) same,
      ap (updated state.announced holder value) same ∙ updated-same state.announced holder value,
    )
    | no apart ↦ inr (λ e. apart (omega arith), updated-other state.announced holder value other apart)
  ]

  -- A holder's announce word is set.
  pub announce_keeps : AnnounceKeeps sealed_words open_words hands_of cap seats words state
  announce_keeps holder value is_seat =
      let place : ℕ = ANNOUNCED + holder in
      fixed_keeps place value (omega arith) (omega arith) (stays place value HEAD state.head (omega arith))
      (stays place value NEXT state.next (omega arith)) (stays place value TICKET state.ticket (omega arith))
      (λ other lt. announced_set holder value other)
