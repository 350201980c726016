-- What each kind of step tells its pass: the view after it, as a function of the view before.
use Rattle.std.specs.Prelude.{◌≡◌, ◌≢◌, ℕ, ◌+◌, ◌%◌, ◌<◌, ◌≤◌, ◌==◌, ◌&&◌, ◌⊎◌, Bool, true, false, nat_eq, if◌then◌else◌, List, [], ◌∷◌, ◌++◌, length, take, slice_index, Option, Some, None}
use mathlib.Core.List.{IsPrefix}
use Rattle.set_model.specs.declared.entry.Entry.{Entry}
use Rattle.arena.specs.Hands.{words_at, drawn_block, written}
use Rattle.set_model.specs.History.{members_after}
use Rattle.set_model.specs.Keys.{is_in}
use Rattle.step_core.specs.Content.{InClass}
use Rattle.step_core.specs.Format.{IsNil, IsMutable, IsFrozen, row_address, sealed_words}
use Rattle.step_core.specs.declared.published.Published.{Published}
use Rattle.step_core.specs.declared.published.Published.TheVariants.{Generation, Row, Op}
use Rattle.step_core.specs.declared.published.GenerationBlock.{GenerationBlock}
use Rattle.step_core.specs.declared.published.RowBlock.{RowBlock}
use Rattle.step_core.specs.declared.published.OpBlock.{OpBlock}
use Rattle.step_core.specs.declared.views.Known.{Known}
use Rattle.step_core.specs.declared.views.BucketLoad.{BucketLoad}
use Rattle.step_core.specs.declared.views.FilledBucket.{FilledBucket}
use Rattle.step_core.specs.declared.views.Mark.{Mark}
use Rattle.step_core.specs.declared.views.NilBucket.{NilBucket}
use Rattle.step_core.specs.declared.views.OpenTurn.{OpenTurn}
use Rattle.step_core.specs.declared.views.PassView.{PassView}
use Rattle.cells.specs.Known.{known_block, link_of, generation_at, bucket_at, IsSealedWord, IsBucketWord, KnowsGeneration}
use Rattle.cells.specs.Lone.{head_at, head_generation, is_among, is_untouched, SameLedger}
use Rattle.cells.specs.Past.{longer}
use Rattle.cells.specs.Marks.{IsMarkedFor, IsHeadNow, IsNilNow}

-- Loading the head: the front is the history, the head generation is known, the load is noted, and
-- a turn opens.
abbrev pub view_after_load_head : ℕ → List Entry → ℕ → GenerationBlock → PassView → PassView
view_after_load_head head history seen generation view = record view {
  front = history;
  horizon = history;
  known = known_block head (Generation generation) ∷ view.known;
  heads = record { at = head; front = history } ∷ view.heads;
  turn = Some (record { head = head; seen = seen; loads = [] });
  made = record view.made { head_loads = view.made.head_loads + 1 };
}

-- what the head is to a pass that is the only one
pub record LoadsKnownHead (old : PassView) (word : ℕ) (generation : GenerationBlock)
    (new : PassView) : Type 0 where
  pub head : word ≡ head_at old
  pub generation_is : generation ≡ head_generation old
  pub same : SameLedger old new

-- what loading the head tells
pub record LoadsHead (old : PassView) (word : ℕ) (new : PassView) : Type 0 where
  pub history : List Entry
  pub seen : ℕ
  pub generation : GenerationBlock
  pub grows : IsPrefix old.front history
  pub view : new ≡ view_after_load_head word history seen generation old
  pub alone : old.facts.seats ≡ 1 → LoadsKnownHead old word generation new

-- Loading a sealed word: what it names may be known, and the front may reach further, with a mark from
-- there.
abbrev pub view_after_load_sealed : List Known → List Entry → List Mark → PassView → PassView
view_after_load_sealed learned front marks view = record view {
  front = front;
  known = learned ++ view.known;
  marks = marks;
  made = record view.made { sealed_loads = view.made.sealed_loads + 1 };
}

-- the word is that of every known block that has the place
abbrev pub ReadsSealed : PassView → ℕ → ℕ → Type 0
ReadsSealed view place word = (at k : ℕ) (block : Published) → IsSealedWord view place at k block
    → word ≡ slice_index (sealed_words block) k

-- a row's operation word makes the operation known, if it isn't 0
abbrev pub LearnsOp : PassView → ℕ → List Known → Type 0
LearnsOp view place learned = (at : ℕ) (row : RowBlock) → IsSealedWord view place at 1 (Row row)
    → row.op ≢ 0 → (op : OpBlock) × (learned ≡ known_block row.op (Op op) ∷ [])

-- a generation's predecessor word makes the predecessor known, if it isn't 0
abbrev pub LearnsPredecessor : PassView → ℕ → List Known → Type 0
LearnsPredecessor view place learned =
    (at : ℕ) (generation : GenerationBlock) → IsSealedWord view place at 1 (Generation generation)
    → generation.predecessor ≢ 0
    → (other : GenerationBlock)
    × (learned ≡ known_block generation.predecessor (Generation other) ∷ [])

-- a word that names nothing makes nothing known
abbrev pub LearnsNothing : PassView → ℕ → List Known → Type 0
LearnsNothing view place learned =
    (at k : ℕ) (block : Published) → IsSealedWord view place at k block
    → (k ≢ 1) ⊎ (link_of block ≡ 0) → learned ≡ []

-- the block is a row without an operation
abbrev pub is_plain_row : Published → Bool
is_plain_row (Generation generation) = false
is_plain_row (Row row) = row.op == 0
is_plain_row (Op op) = false

-- only the second word of a row, where it names no operation, may let the front reach further
abbrev pub StaysAtFront : PassView → ℕ → List Entry → List Mark → Type 0
StaysAtFront view place front marks =
    (at k : ℕ) (block : Published) → IsSealedWord view place at k block
    → (k ≢ 1) ⊎ (is_plain_row block ≡ false) → (front ≡ view.front) × (marks ≡ view.marks)

-- the row has the key where the set after the view's front does
abbrev pub AgreesAtFront : PassView → RowBlock → ℕ → Type 0
AgreesAtFront view row key =
    is_in row.keys key ≡ members_after (is_in view.facts.keys) view.front key

-- A marked row that turns out to have no operation agrees with the set after the new front on the
-- mark's keys, and is marked from there.
abbrev pub AgreesWithMark : PassView → ℕ → PassView → Type 0
AgreesWithMark old place new = (at : ℕ) (row : RowBlock) → IsSealedWord old place at 1 (Row row)
    → row.op ≡ 0 → (key : ℕ) → IsMarkedFor old at key → AgreesAtFront new row key × IsMarkedFor new at key

-- what loading a sealed word tells
pub record LoadsSealed (place : ℕ) (old : PassView) (word : ℕ) (new : PassView) : Type 0 where
  pub learned : List Known
  pub front : List Entry
  pub marks : List Mark
  pub reads : ReadsSealed old place word
  pub op : LearnsOp old place learned
  pub predecessor : LearnsPredecessor old place learned
  pub nothing : LearnsNothing old place learned
  pub stays : StaysAtFront old place front marks
  pub grows : IsPrefix old.front front
  pub agrees : AgreesWithMark old place new
  pub view : new ≡ view_after_load_sealed learned front marks old
  pub alone : old.facts.seats ≡ 1 → SameLedger old new

-- Loading a bucket. A frozen bucket's row stays, so the front needs not reach further.
abbrev pub is_nil : ℕ → Bool
is_nil word = word == 0

-- a frozen bucket's word is odd
abbrev pub is_frozen : ℕ → Bool
is_frozen word = word % 2 == 1

-- the load that the open turn notes
abbrev pub bucket_load : PassView → ℕ → ℕ → BucketLoad
bucket_load view place word =
    record { at = generation_at view.known place; bucket = bucket_at view.known place; word = word }

-- the bucket, as one that isn't nil
abbrev pub filled_bucket : PassView → ℕ → FilledBucket
filled_bucket view place =
    record { at = generation_at view.known place; bucket = bucket_at view.known place }

-- a frozen bucket of the head that the open turn loaded loses the turn
abbrev pub loses_turn : PassView → ℕ → ℕ → Option OpenTurn → Bool
loses_turn view place word None = false
loses_turn view place word (Some turn) =
    is_frozen word && nat_eq (generation_at view.known place) turn.head

-- the turn after the load: closed where it was lost, and else with one load more
abbrev pub turn_after_load : BucketLoad → Bool → Option OpenTurn → Option OpenTurn
turn_after_load load loses None = None
turn_after_load load loses (Some turn) =
    if loses then None
    else Some (record { head = turn.head; seen = turn.seen; loads = load ∷ turn.loads })

-- the bucket, as one that was found nil
abbrev pub nil_bucket : PassView → ℕ → List Entry → NilBucket
nil_bucket view place history = record {
  at = generation_at view.known place;
  bucket = bucket_at view.known place;
  front = history;
}

-- the front is the history but where the bucket is frozen; unless the bucket is nil, that is known
-- and so is its row, and else that is noted; and the open turn has one load more or is lost
abbrev pub view_after_load_bucket : ℕ → ℕ → List Entry → RowBlock → List Mark → PassView → PassView
view_after_load_bucket place word history row marks view = record view {
  front = if is_frozen word then view.front else history;
  horizon = history;
  known = if is_nil word then view.known else known_block (row_address word) (Row row) ∷ view.known;
  filled = if is_nil word then view.filled else filled_bucket view place ∷ view.filled;
  lost = if loses_turn view place word view.turn then view.lost + 1 else view.lost;
  turn = turn_after_load (bucket_load view place word) (loses_turn view place word view.turn)
      view.turn;
  marks = marks;
  nils = if is_nil word then nil_bucket view place history ∷ view.nils else view.nils;
  made = record view.made { bucket_loads = view.made.bucket_loads + 1 };
}

-- the row of a mutable bucket is marked for the bucket's keys
abbrev pub MarksMutable : PassView → ℕ → ℕ → PassView → Type 0
MarksMutable old place word new = (at bucket : ℕ) (generation : GenerationBlock)
    → IsBucketWord old place at bucket generation → ¬ IsNil word → IsMutable word
    → (key : ℕ) → InClass generation.exponent bucket key → IsMarkedFor new (row_address word) key

-- so is that of a frozen bucket of a generation that was loaded as the head from the front of now
abbrev pub MarksOfHead : PassView → ℕ → ℕ → PassView → Type 0
MarksOfHead old place word new = (at bucket : ℕ) (generation : GenerationBlock)
    → IsBucketWord old place at bucket generation → IsFrozen word → IsHeadNow old at
    → (key : ℕ) → InClass generation.exponent bucket key → IsMarkedFor new (row_address word) key

-- That of a frozen bucket from which one is filled that was the latest to be found nil, from the front
-- of now, is marked for the keys of both.
abbrev pub MarksOfSource : PassView → ℕ → ℕ → PassView → Type 0
MarksOfSource old place word new = (at bucket : ℕ) (generation : GenerationBlock)
    → IsBucketWord old place at bucket generation → IsFrozen word
    → (later nil : ℕ) (newer : GenerationBlock) → KnowsGeneration old later newer
    → newer.predecessor ≡ at → IsNilNow old later nil
    → (key : ℕ) → InClass newer.exponent nil key → InClass generation.exponent bucket key
    → IsMarkedFor new (row_address word) key

-- which rows are marked
pub record MarksRow (place : ℕ) (old : PassView) (word : ℕ) (new : PassView) : Type 0 where
  pub mutable : MarksMutable old place word new
  pub head : MarksOfHead old place word new
  pub source : MarksOfSource old place word new

-- a bucket that isn't nil names a row of its own
abbrev pub NamesOwnRow : PassView → ℕ → ℕ → RowBlock → Type 0
NamesOwnRow view place word row = (at bucket : ℕ) (generation : GenerationBlock)
    → IsBucketWord view place at bucket generation → ¬ IsNil word
    → (row.exponent ≡ generation.exponent) × (row.bucket ≡ bucket)

-- a bucket that the pass knows to be filled, or that has nothing to be filled from, isn't nil
abbrev pub FindsFilled : PassView → ℕ → ℕ → Type 0
FindsFilled view place word = (at bucket : ℕ) (generation : GenerationBlock)
    → IsBucketWord view place at bucket generation
    → (is_among view.filled at bucket ≡ true) ⊎ (generation.predecessor ≡ 0) → ¬ IsNil word

-- a bucket of a generation that another is known to follow isn't nil
abbrev pub FindsFollowed : PassView → ℕ → ℕ → Type 0
FindsFollowed view place word = (at bucket : ℕ) (generation : GenerationBlock)
    → IsBucketWord view place at bucket generation
    → (later : ℕ) (newer : GenerationBlock) → KnowsGeneration view later newer
    → newer.predecessor ≡ at → ¬ IsNil word

-- a mutable row without an operation has the keys that the set after the history has in its bucket
abbrev pub AgreesWithHistory : PassView → ℕ → List Entry → RowBlock → Type 0
AgreesWithHistory view word history row = ¬ IsNil word → IsMutable word → row.op ≡ 0
    → (key : ℕ) → InClass row.exponent row.bucket key
    → is_in row.keys key ≡ members_after (is_in view.facts.keys) history key

-- what a bucket of the head is to a pass that is the only one: nil where the ledger says so
pub record LoadsKnownBucket (place : ℕ) (old : PassView) (word : ℕ) (new : PassView)
    : Type 0 where
  pub same : SameLedger old new
  pub mutable : (bucket : ℕ) → IsBucketWord old place (head_at old) bucket (head_generation old)
      → IsMutable word
  pub nil : (bucket : ℕ) → IsBucketWord old place (head_at old) bucket (head_generation old)
      → is_nil word ≡ is_untouched old bucket

-- what loading a bucket tells
pub record LoadsBucket (place : ℕ) (old : PassView) (word : ℕ) (new : PassView) : Type 0 where
  pub history : List Entry
  pub row : RowBlock
  pub grows : IsPrefix old.front history
  pub home : NamesOwnRow old place word row
  pub filled : FindsFilled old place word
  pub followed : FindsFollowed old place word
  pub marks : List Mark
  pub agrees : AgreesWithHistory old word history row
  pub marked : MarksRow place old word new
  pub view : new ≡ view_after_load_bucket place word history row marks old
  pub alone : old.facts.seats ≡ 1 → LoadsKnownBucket place old word new

-- A draw within the arena: a block of zeros in hand.
abbrev pub view_after_draw : ℕ → ℕ → PassView → PassView
view_after_draw at len view = record view {
  hands = drawn_block at len ∷ view.hands;
  drawn = view.drawn + len;
  made = record view.made { draws = view.made.draws + 1 };
}

-- A draw past the end: the pass is spent.
abbrev pub view_after_overdraw : ℕ → ℕ → PassView → PassView
view_after_overdraw at len view = record view {
  drawn = view.drawn + len;
  spent = Some at;
  made = record view.made { draws = view.made.draws + 1 };
}

-- the place that a draw finds: behind the opening and all that the pass has drawn, and where it is
-- the only pass, right behind it
pub record FindsNext (old : PassView) (at : ℕ) : Type 0 where
  pub behind : old.facts.opened + old.drawn ≤ at
  pub alone : old.facts.seats ≡ 1 → at ≡ old.facts.opened + old.drawn

-- what a draw tells that gave a block
pub record Draws (old : PassView) (at len : ℕ) (new : PassView) : Type 0 where
  pub unspent : old.spent ≡ None
  pub found : FindsNext old at
  pub within : at + len ≤ old.facts.cap
  -- no block in hand begins there
  pub fresh : words_at old.hands at ≡ []
  pub view : new ≡ view_after_draw at len old

-- what a draw tells that passed the end
pub record Overdraws (old : PassView) (at len : ℕ) (new : PassView) : Type 0 where
  pub found : FindsNext old at
  pub past : old.facts.cap < at + len
  pub view : new ≡ view_after_overdraw at len old

-- what a refused draw leaves: a spent pass draws no more, and else this draw passed the end
pub record RefusesDraw (old : PassView) (len : ℕ) (new : PassView) : Type 0 where
  pub spent : old.spent ≢ None → new ≡ old
  pub overdrew : old.spent ≡ None → (at : ℕ) × Overdraws old at len new

-- A write into a block in hand.
abbrev pub view_after_write : ℕ → ℕ → PassView → PassView
view_after_write place value view = record view {
  hands = written place value view.hands;
  made = record view.made { writes = view.made.writes + 1 };
}

-- These words were written into the block in hand at the address, from the offset on, and nothing
-- else changed. So told, writes add up: what the first wrote and then the second is what both
-- wrote.
pub record Writes (at offset : ℕ) (values : List ℕ) (old new : PassView) : Type 0 where
  pub only : new ≡ record old {
    hands = new.hands;
    made = record old.made { writes = old.made.writes + length values };
  }
  pub long : length (words_at new.hands at) ≡ length (words_at old.hands at)
  pub words : take (offset + length values) (words_at new.hands at)
      ≡ take offset (words_at old.hands at) ++ values
  pub others : (other : ℕ) → other ≢ at → words_at new.hands other ≡ words_at old.hands other

-- Making a note.
abbrev pub view_after_note : PassView → PassView
view_after_note view = record view { made = record view.made { notes = view.made.notes + 1 } }

-- What a note tells the pass that took it: its front is the longer of its own and the note's, which
-- begins with both, and nothing else changed.
pub record Learns (old : PassView) (front : List Entry) (new : PassView) : Type 0 where
  pub own : IsPrefix old.front new.front
  pub other : IsPrefix front new.front
  pub view : new ≡ record old {
    front = longer old.front front;
    made = record old.made { learned = old.made.learned + 2 };
  }
  pub alone : old.facts.seats ≡ 1 → SameLedger old new
