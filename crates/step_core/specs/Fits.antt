-- When the words of a round, its published blocks and its passes' views fit: what holds of them
-- between any two steps, their history apart.
use Rattle.std.specs.Prelude.{◌≡◌, ◌≢◌, ℕ, zero, suc, ◌+◌, ◌*◌, ◌<◌, ◌≤◌, ◌⊎◌, List, length, if◌then◌else◌, is_some, sum_by, All, Option, Some, None}
use Rattle.std.specs.List.Sorted.{IsStrictlyIncreasing}
use Rattle.step_core.specs.Format.{IsNil, IsMutable, IsFrozen, row_address}
use Rattle.step_core.specs.Content.{bucket_of, InClass}
use Rattle.step_core.specs.States.{RoundState, AreLaidOut, IsGeneration, IsRow, IsOp, Each, fresh_views}
use Rattle.step_core.specs.Limits.{max_exponent, max_draw}
use Rattle.step_core.specs.declared.format.TheConstants.{OP_LEN}
use Rattle.step_core.specs.declared.published.Published.{Published}
use Rattle.step_core.specs.declared.published.Published.TheVariants.{Generation, Row, Op}
use Rattle.step_core.specs.declared.published.GenerationBlock.{GenerationBlock}
use Rattle.step_core.specs.declared.published.RowBlock.{RowBlock}
use Rattle.step_core.specs.declared.published.OpBlock.{OpBlock}
use Rattle.step_core.specs.declared.views.Known.{Known}
use Rattle.step_core.specs.declared.views.PassView.{PassView}
use Rattle.step_core.specs.declared.views.RoundFacts.{RoundFacts}

-- the row at the address was published for the spot's bucket of the generation
pub record IsAtHome (blocks : ℕ → Option Published) (at : ℕ) (generation : GenerationBlock)
    (spot : ℕ) : Type 0 where
  pub row : RowBlock
  pub here : IsRow blocks at row
  pub exponent : row.exponent ≡ generation.exponent
  pub bucket : row.bucket ≡ bucket_of generation.exponent spot

-- the predecessor that a generation names
abbrev pub predecessor_of : Option Published → ℕ
predecessor_of None = 0
predecessor_of (Some (Generation generation)) = generation.predecessor
predecessor_of (Some (Row row)) = 0
predecessor_of (Some (Op op)) = 0

-- the address of the generation so many before the one at the address
unfoldable pub generation_before : (ℕ → Option Published) → ℕ → ℕ → ℕ
generation_before blocks at zero = at
generation_before blocks at (suc count) =
    predecessor_of (blocks (generation_before blocks at count))

-- the generation's predecessor is published, isn't the head, and has one bucket bit more or less
pub record FollowsAnother (head : ℕ) (blocks : ℕ → Option Published)
    (generation : GenerationBlock) : Type 0 where
  pub other : GenerationBlock
  pub there : IsGeneration blocks generation.predecessor other
  pub not_head : generation.predecessor ≢ head
  pub next : (generation.exponent ≡ other.exponent + 1) ⊎ (other.exponent ≡ generation.exponent + 1)

-- the bucket's row is there for good, and its operation isn't undecided
pub record IsClosed (blocks : ℕ → Option Published) (cells : ℕ → ℕ → ℕ) (word : ℕ) : Type 0 where
  pub frozen : IsFrozen word
  pub settled : (row : RowBlock) → IsRow blocks (row_address word) row → row.op ≢ 0
      → cells row.op 0 ≢ 0

-- the published generations are one chain, and their buckets name rows
pub record IsChain (head : ℕ) (blocks : ℕ → Option Published) (cells : ℕ → ℕ → ℕ) : Type 0 where
  -- HEAD names a generation
  pub head_there : (generation : GenerationBlock) × IsGeneration blocks head generation
  -- from it each is reached by predecessors
  pub reached : (at : ℕ) (generation : GenerationBlock) → IsGeneration blocks at generation
      → (count : ℕ) × (at ≡ generation_before blocks head count)
  pub follows : (at : ℕ) (generation : GenerationBlock) → IsGeneration blocks at generation
      → generation.predecessor ≢ 0 → FollowsAnother head blocks generation
  pub small : (at : ℕ) (generation : GenerationBlock) → IsGeneration blocks at generation
      → generation.exponent ≤ max_exponent
  -- no bucket of the head is frozen
  pub mutable : (bucket : ℕ) → IsMutable (cells head bucket)
  -- a bucket is nil at most in a head that has a predecessor
  pub filled : (at : ℕ) (generation : GenerationBlock) (spot : ℕ)
      → IsGeneration blocks at generation → (at ≢ head) ⊎ (generation.predecessor ≡ 0)
      → ¬ IsNil (cells at (bucket_of generation.exponent spot))
  -- a bucket names a row of its own
  pub names : (at : ℕ) (generation : GenerationBlock) (spot : ℕ)
      → IsGeneration blocks at generation
      → ¬ IsNil (cells at (bucket_of generation.exponent spot))
      → IsAtHome blocks (row_address (cells at (bucket_of generation.exponent spot)))
      generation spot
  -- the buckets of a generation older than the head's predecessor are closed
  pub older : (at : ℕ) (generation : GenerationBlock) (spot : ℕ)
      → IsGeneration blocks at generation → at ≢ head → at ≢ predecessor_of (blocks head)
      → IsClosed blocks cells (cells at (bucket_of generation.exponent spot))
  -- so are those of the predecessor that a bucket of the head was filled from
  pub sources : (generation other : GenerationBlock) (spot : ℕ)
      → IsGeneration blocks head generation → IsGeneration blocks generation.predecessor other
      → ¬ IsNil (cells head (bucket_of generation.exponent spot))
      → IsClosed blocks cells (cells generation.predecessor (bucket_of other.exponent spot))

-- the row's operation is published, and its key is of the row's class
pub record HasOp (blocks : ℕ → Option Published) (row : RowBlock) : Type 0 where
  pub op : OpBlock
  pub there : IsOp blocks row.op op
  pub class : InClass row.exponent row.bucket op.key

-- a row has rising keys of its bucket's class
pub record HoldsClass (row : RowBlock) : Type 0 where
  pub rising : IsStrictlyIncreasing row.keys
  pub class : All (InClass row.exponent row.bucket) row.keys

-- it holds them, and has an operation on a key of that class or none
pub record KeepsHome (blocks : ℕ → Option Published) (row : RowBlock) : Type 0 where
  pub holds : HoldsClass row
  pub op : row.op ≢ 0 → HasOp blocks row

-- the words of a round with so many passes and its published blocks fit
pub record HoldsBlocks (seats : ℕ) (words : List ℕ) (state : RoundState) : Type 0 where
  pub laid : AreLaidOut (length words) seats words state
  pub chain : IsChain state.head state.blocks state.cells
  pub homes : (at : ℕ) (row : RowBlock) → IsRow state.blocks at row → KeepsHome state.blocks row

-- the words have published blocks that they fit, as they do between any two steps
abbrev pub IsWellFormed : List ℕ → Type 0
IsWellFormed words = (seats : ℕ) × (state : RoundState) × HoldsBlocks seats words state

-- an operation is one of a pass, and its result is one of the four
pub record IsOfPass (seats : ℕ) (op : OpBlock) (result : ℕ) : Type 0 where
  pub who : op.who < seats
  pub known_result : result ≤ 3

-- announced are published operations alone
pub record AnnouncesOps (seats : ℕ) (announced : ℕ → ℕ) (blocks : ℕ → Option Published)
    (cells : ℕ → ℕ → ℕ) : Type 0 where
  pub ops : (at : ℕ) (op : OpBlock) → IsOp blocks at op → IsOfPass seats op (cells at 0)
  pub words : (pass : ℕ) → pass < seats
      → (announced pass ≡ 0) ⊎ ((op : OpBlock) × IsOp blocks (announced pass) op)

-- whether the pass drew past the end, as a number
abbrev pub spent_count : PassView → ℕ
spent_count view = if is_some view.spent then 1 else 0

-- a draw of at most so many words found the place, and passed the end
pub record PassedEnd (cap next place : ℕ) : Type 0 where
  pub len : ℕ
  pub small : len ≤ max_draw
  pub past : cap < place + len
  pub counted : place + len ≤ next

-- who is spent passed the end at the place that its view keeps
abbrev pub PassedItsEnd : ℕ → ℕ → ℕ → PassView → Type 0
PassedItsEnd cap next pass view = (place : ℕ) → view.spent ≡ Some place → PassedEnd cap next place

-- the draws that the views know add up to NEXT
pub record IsAccount (facts : RoundFacts) (next ticket : ℕ) (views : List PassView) : Type 0 where
  pub sum : next ≡ facts.opened + sum_by (λ view. view.drawn) views
  -- each pass drew past the end once at most
  pub bound : next ≤ facts.cap + max_draw * sum_by spent_count views
  pub spent : Each (PassedItsEnd facts.cap next) views
  -- each ticket drawn has an operation's block of its own
  pub tickets : OP_LEN * ticket ≤ next

-- the view is that of the pass with this number, in this round
pub record IsOfRound (facts : RoundFacts) (number : ℕ) (view : PassView) : Type 0 where
  pub same_round : view.facts ≡ facts
  pub is_pass : view.number ≡ number

-- what a pass knows there is published
abbrev pub IsPublished : (ℕ → Option Published) → Known → Type 0
IsPublished blocks known = blocks known.at ≡ Some known.block

-- all that it knows is
abbrev pub KnowsPublished : (ℕ → Option Published) → ℕ → PassView → Type 0
KnowsPublished blocks pass view = All (IsPublished blocks) view.known

-- the words of a round, its state and its passes' views fit
pub record Fits (facts : RoundFacts) (words : List ℕ) (state : RoundState) : Type 0 where
  pub size : length words ≡ facts.cap
  pub holds : HoldsBlocks facts.seats words state
  pub announces : AnnouncesOps facts.seats state.announced state.blocks state.cells
  pub account : IsAccount facts state.next state.ticket state.views
  -- one view for each pass
  pub passes : length state.views ≡ facts.seats
  pub numbered : Each (IsOfRound facts) state.views
  pub known : Each (KnowsPublished state.blocks) state.views

-- a round may begin with the words: they fit views that know nothing yet
abbrev pub BeginsRound : RoundFacts → List ℕ → Type 0
BeginsRound facts words =
    (state : RoundState) × (state.views ≡ fresh_views facts) × Fits facts words state
