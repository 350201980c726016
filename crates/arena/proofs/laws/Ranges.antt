-- Ranges, cells and blocks whose owners stay, under a word that is set elsewhere and a claim elsewhere.
use Rattle.std.proofs.Common.{◌≡◌, ◌≢◌, ℕ, ◌+◌, ◌<◌, List, get_or, set, sym, ap, ◌∙◌, arith}
use Rattle.std.proofs.lemmas.List.{get_or-set_other}
use Rattle.arena.specs.declared.layout.TheConstants.{HEAD, NEXT, TICKET, ANNOUNCED}
use Rattle.arena.specs.Owners.{Owner, fixed, sealed, cell, claimed}
use Rattle.arena.specs.Hands.{IsFront}
use Rattle.arena.specs.LaidOut.{base, IsRange, IsCells, IsBlock, IsFixed, IsBounded}
use Rattle.arena.proofs.laws.Owners.{claimed-else}

-- a word with another owner is another word
pub other_word : (words : List ℕ) (owners : ℕ → Owner) (place value a : ℕ) → owners place ≢ owners a
    → get_or (set words place value) a 0 ≡ get_or words a 0
other_word words owners place value a apart = get_or-set_other words place a value 0 (λ e. apart (sym (ap owners e)))

-- the fixed words under a word that isn't fixed
pub IsFixed-set : {cap seats bound head next ticket : ℕ} {announced : ℕ → ℕ} {words : List ℕ} {owners : ℕ → Owner}
    → IsBounded cap seats bound owners → IsFixed seats words head next ticket announced
    → (place value : ℕ) → owners place ≢ fixed → IsFixed seats (set words place value) head next ticket announced
IsFixed-set {seats = seats} {words = words} {owners} bounds shown place value other =
    let stays : (a : ℕ) → a < base seats → get_or (set words place value) a 0 ≡ get_or words a 0 =
    λ a lt. other_word words owners place value a (λ e. other (e ∙ bounds.below_base a lt)) in
    record {
      head_shown = stays HEAD (omega arith) ∙ shown.head_shown;
      next_shown = stays NEXT (omega arith) ∙ shown.next_shown;
      ticket_shown = stays TICKET (omega arith) ∙ shown.ticket_shown;
      announced_shown = λ i lt. stays (ANNOUNCED + i) (omega arith) ∙ shown.announced_shown i lt;
    }

module _ {words list : List ℕ} {owners : ℕ → Owner} {at : ℕ} {owner : Owner} (range : IsRange words owners at list owner) where
  -- a front of a range is a range
  pub IsRange-front : {front : List ℕ} → IsFront front list → IsRange words owners at front owner
  IsRange-front front = record {
    shown = λ k lt. range.shown k (omega (arith, front.short)) ∙ sym (front.same k lt);
    owned = λ k lt. range.owned k (omega (arith, front.short));
  }

  -- a range under a word that another owner has
  pub IsRange-set : (place value : ℕ) → owners place ≢ owner → IsRange (set words place value) owners at list owner
  IsRange-set place value apart = record {
    shown = λ k lt. other_word words owners place value (at + k) (λ e. apart (e ∙ range.owned k lt)) ∙ range.shown k lt;
    owned = range.owned;
  }

  -- a range under a claim of words that another owner had
  pub IsRange-claimed : (from count : ℕ) (new : ℕ → Owner) (old : Owner) → ((k : ℕ) → k < count → owners (from + k) ≡ old)
      → owner ≢ old → IsRange words (claimed owners from count new) at list owner
  IsRange-claimed from count new old claim apart = record {
    shown = range.shown;
    owned = λ k lt. claimed-else owners from count new old claim (at + k) (λ e. apart (sym (range.owned k lt) ∙ e)) ∙ range.owned k lt;
  }

module _ {words : List ℕ} {owners : ℕ → Owner} {at count block : ℕ} {cells : ℕ → ℕ} (part : IsCells words owners at count block cells) where
  IsCells-set : (place value : ℕ) → ((k : ℕ) → owners place ≢ cell block k) → IsCells (set words place value) owners at count block cells
  IsCells-set place value apart = record {
    shown = λ k lt. other_word words owners place value (at + k) (λ e. apart k (e ∙ part.owned k lt)) ∙ part.shown k lt;
    owned = part.owned;
  }

  IsCells-claimed : (from size : ℕ) (new : ℕ → Owner) (old : Owner) → ((k : ℕ) → k < size → owners (from + k) ≡ old)
      → ((k : ℕ) → cell block k ≢ old) → IsCells words (claimed owners from size new) at count block cells
  IsCells-claimed from size new old claim apart = record {
    shown = part.shown;
    owned = λ k lt. claimed-else owners from size new old claim (at + k) (λ e. apart k (sym (part.owned k lt) ∙ e)) ∙ part.owned k lt;
  }

module _ {B : Type 0} (sealed_words : B → List ℕ) (open_words : B → ℕ) {words : List ℕ} {owners : ℕ → Owner} {cells : ℕ → ℕ}
    {at : ℕ} {block : B} (stands : IsBlock sealed_words open_words words owners cells at block) where
  -- a published block under a word that isn't its own
  pub IsBlock-set : (place value : ℕ) → owners place ≢ sealed at → ((k : ℕ) → owners place ≢ cell at k)
      → IsBlock sealed_words open_words (set words place value) owners cells at block
  IsBlock-set place value not_sealed not_cell = record {
    sealed_part = IsRange-set stands.sealed_part place value not_sealed;
    cell_part = IsCells-set stands.cell_part place value not_cell;
  }

  -- a published block under a claim of words that were free, or in a hand
  pub IsBlock-claimed : (from size : ℕ) (new : ℕ → Owner) (old : Owner) → ((k : ℕ) → k < size → owners (from + k) ≡ old)
      → sealed at ≢ old → ((k : ℕ) → cell at k ≢ old)
      → IsBlock sealed_words open_words words (claimed owners from size new) cells at block
  IsBlock-claimed from size new old claim not_sealed not_cell = record {
    sealed_part = IsRange-claimed stands.sealed_part from size new old claim not_sealed;
    cell_part = IsCells-claimed stands.cell_part from size new old claim not_cell;
  }
