-- What a pass that is the only one of its round knows: the whole table, read off its view.
use Rattle.std.specs.Prelude.{◌≡◌, ℕ, ◌+◌, ◌^◌, ◌<◌, ◌&&◌, ◌||◌, not, Bool, true, false, nat_eq, if◌then◌else◌, List, [], ◌∷◌, length, Option}
use Rattle.step_core.specs.Format.{IsNil, base_of}
use Rattle.step_core.specs.Ledger.{Ledger, Outcome}
use Rattle.step_core.specs.Openings.{exponent_for}
use Rattle.step_core.specs.Rising.{keys_after}
use Rattle.step_core.specs.States.{IsGeneration}
use Rattle.step_core.specs.declared.published.Published.{Published}
use Rattle.step_core.specs.declared.published.Published.TheVariants.{Generation, Row, Op}
use Rattle.step_core.specs.declared.published.GenerationBlock.{GenerationBlock}
use Rattle.step_core.specs.declared.views.FilledBucket.{FilledBucket}
use Rattle.step_core.specs.declared.views.HeadLoad.{HeadLoad}
use Rattle.step_core.specs.declared.views.Known.{Known}
use Rattle.step_core.specs.declared.views.PassView.{PassView}
use Rattle.step_core.specs.declared.views.RoundFacts.{RoundFacts}

-- the address of the latest of these loads of the head, or another where there is none
abbrev pub latest_head : List HeadLoad → ℕ → ℕ
latest_head [] none = none
latest_head (load ∷ others) none = load.at

-- the head as the pass knows it: the one that it loaded last, or the opening's
abbrev pub head_at : PassView → ℕ
head_at view = latest_head view.heads (base_of view.facts.seats)

-- the generation that an opening has
abbrev pub first_generation : RoundFacts → GenerationBlock
first_generation facts =
    record { exponent = exponent_for (length facts.keys); predecessor = 0 }

-- the generation that a block is, or another where it is none
abbrev pub generation_of : Published → GenerationBlock → GenerationBlock
generation_of (Generation generation) none = generation
generation_of (Row row) none = none
generation_of (Op op) none = none

-- the generation that is known at the address, or another where none is
abbrev pub generation_in : List Known → ℕ → GenerationBlock → GenerationBlock
generation_in [] at none = none
generation_in (known ∷ others) at none =
    if nat_eq known.at at then generation_of known.block none else generation_in others at none

-- the head's generation as the pass knows it
abbrev pub head_generation : PassView → GenerationBlock
head_generation view = generation_in view.known (head_at view) (first_generation view.facts)

-- the bucket is one of these
abbrev pub is_among : List FilledBucket → ℕ → ℕ → Bool
is_among [] at bucket = false
is_among (filled ∷ others) at bucket =
    (nat_eq filled.at at && nat_eq filled.bucket bucket) || is_among others at bucket

-- the head's bucket is nil, as far as the pass knows: there is a predecessor, and nothing says that
-- the bucket was filled
abbrev pub is_untouched : PassView → ℕ → Bool
is_untouched view bucket =
    not (nat_eq (head_generation view).predecessor 0)
    && not (is_among view.filled (head_at view) bucket)

-- the ledger of the round, where the pass is the only one
unfoldable pub ledger_of : PassView → Ledger
ledger_of view = record {
  keys = keys_after view.facts.keys view.front;
  exponent = (head_generation view).exponent;
  untouched = is_untouched view;
  next = view.facts.opened + view.drawn;
  cap = view.facts.cap;
  spent = view.spent;
}

-- what the only pass knows of the table is so
pub record KnowsTable (head : ℕ) (blocks : ℕ → Option Published) (cells : ℕ → ℕ → ℕ)
    (view : PassView) : Type 0 where
  pub head_is : head_at view ≡ head
  pub generation : IsGeneration blocks head (head_generation view)
  pub nil : (bucket : ℕ) → bucket < 2 ^ (head_generation view).exponent
      → is_untouched view bucket ≡ true → IsNil (cells head bucket)

-- where the round has one pass
abbrev pub KnowsAlone : RoundFacts → ℕ → (ℕ → Option Published) → (ℕ → ℕ → ℕ) → ℕ → PassView → Type 0
KnowsAlone facts head blocks cells pass view =
    facts.seats ≡ 1 → KnowsTable head blocks cells view

-- the ledger stays, and so does the front
pub record SameLedger (old new : PassView) : Type 0 where
  pub front : new.front ≡ old.front
  pub ledger : ledger_of new ≡ ledger_of old

-- a call ended as the ledger says
pub record EndsAs (outcome : Outcome) (full : Bool) (new : PassView) : Type 0 where
  pub is_full : full ≡ outcome.full
  pub ledger : ledger_of new ≡ outcome.ledger

-- where the pass is the only one, a call ended as this one of the ledger does
abbrev pub EndsAlone : (Ledger → Outcome) → Bool → PassView → PassView → Type 0
EndsAlone call full old new = old.facts.seats ≡ 1 → EndsAs (call (ledger_of old)) full new

-- the bucket is one of the head, and is nil, as far as the pass knows
pub record IsNilOfHead (head bucket : ℕ) (view : PassView) : Type 0 where
  pub is_head : head ≡ head_at view
  pub untouched : is_untouched view bucket ≡ true
