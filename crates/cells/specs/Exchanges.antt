-- The exchange of a row: when it may be made, and what it tells.
use Rattle.std.specs.Prelude.{◌≡◌, ◌≢◌, ℕ, ◌+◌, ◌==◌, ◌&&◌, ◌||◌, ◌⊎◌, true, false, nat_eq, if◌then◌else◌, List, [], ◌∷◌, ◌++◌, drop, Contains, Option, Some, None}
use Rattle.std.specs.List.Sorted.{IsStrictlyIncreasing}
use mathlib.Core.List.{IsPrefix}
use Rattle.set_model.specs.declared.call.Call.TheVariants as call
use Rattle.set_model.specs.declared.entry.Entry.{Entry}
use Rattle.arena.specs.Hands.{words_at, without}
use Rattle.step_core.specs.Content.{InClass}
use Rattle.step_core.specs.Format.{IsNil, IsMutable, row_address, row_words}
use Rattle.step_core.specs.Ledger.{changed}
use Rattle.step_core.specs.Members.{call_of}
use Rattle.step_core.specs.Rising.{Change, change_of, keys_after_call}
use Rattle.step_core.specs.declared.format.TheConstants.{FIRST_KEY}
use Rattle.step_core.specs.declared.published.Published.{Published}
use Rattle.step_core.specs.declared.published.Published.TheVariants.{Generation, Row, Op}
use Rattle.step_core.specs.declared.published.GenerationBlock.{GenerationBlock}
use Rattle.step_core.specs.declared.published.RowBlock.{RowBlock}
use Rattle.step_core.specs.declared.views.BucketLoad.{BucketLoad}
use Rattle.step_core.specs.declared.views.FixedCell.{FixedCell}
use Rattle.step_core.specs.declared.views.OpenTurn.{OpenTurn}
use Rattle.step_core.specs.declared.views.PassView.{PassView}
use Rattle.cells.specs.Known.{known_block, block_at, row_at, KnowsRow, IsBucketWord}
use Rattle.cells.specs.Lone.{ledger_of}

-- the word that a cell is known to keep, or 0
abbrev pub fixed_at : List FixedCell → ℕ → ℕ → ℕ
fixed_at [] at place = 0
fixed_at (cell ∷ others) at place =
    if nat_eq cell.at at && nat_eq cell.place place then cell.word else fixed_at others at place

-- rising keys with an operation of this result applied, where that decides it
abbrev pub list_with_op : Option Published → ℕ → List ℕ → List ℕ
list_with_op None result keys = keys
list_with_op (Some (Generation generation)) result keys = keys
list_with_op (Some (Row row)) result keys = keys
list_with_op (Some (Op op)) result keys =
    if result == 1 || result == 2 then keys_after_call (call_of op) op.key keys else keys

-- the content of a known row as a rising list, by the result that its operation is known to have
abbrev pub content_keys : PassView → RowBlock → List ℕ
content_keys view row =
    if row.op == 0 then row.keys
    else list_with_op (block_at view.known row.op) (fixed_at view.fixed row.op 0) row.keys

-- the row that a bucket word names, as the pass knows it
abbrev pub named_row : PassView → ℕ → RowBlock
named_row view word = row_at view.known (row_address word)

-- the keys of the row that the pass has in hand
abbrev pub hand_keys : PassView → ℕ → List ℕ
hand_keys view at = drop FIRST_KEY (words_at view.hands at)

-- the one change from the row that the word names to the row in hand, if it is one
abbrev pub swap_change : PassView → ℕ → ℕ → Option Change
swap_change view old at = change_of (content_keys view (named_row view old)) (hand_keys view at)

-- the entry of a change that a call of this pass with this serial makes
abbrev pub entry_by : ℕ → ℕ → Option Change → Entry
entry_by who serial None =
    record { who = who; serial = serial; call = call.Contains; key = 0; answer = false }
entry_by who serial (Some change) =
    record { who = who; serial = serial; call = change.call; key = change.key; answer = true }

-- the entry that the exchange makes
abbrev pub swap_entry : PassView → ℕ → ℕ → ℕ → Entry
swap_entry view serial old at = entry_by view.number serial (swap_change view old at)

-- the row in hand, once it is published: it has the home of the one that it replaces
abbrev pub swapped_row : PassView → ℕ → ℕ → RowBlock
swapped_row view old at = record {
  exponent = (named_row view old).exponent;
  bucket = (named_row view old).bucket;
  op = 0;
  ans = 0;
  keys = hand_keys view at;
}

-- the row has no operation, or its operation's result is known
abbrev pub IsSettled : PassView → RowBlock → Type 0
IsSettled view row = (row.op ≡ 0) ⊎ (fixed_at view.fixed row.op 0 ≢ 0)

-- the load of the bucket that found this word
abbrev pub load_of : ℕ → ℕ → ℕ → BucketLoad
load_of at bucket word = record { at = at; bucket = bucket; word = word }

-- The exchange of the word `old` at the place for the row in hand at the address may be made: the
-- place is a bucket of the head that the open turn loaded, where it found that word of a mutable
-- row; the row in hand is written whole and has one key of the bucket more, or one less.
pub record MaySwapRow (view : PassView) (place old at : ℕ) : Type 0 where
  pub turn : OpenTurn
  pub is_turn : view.turn ≡ Some turn
  pub bucket : ℕ
  pub generation : GenerationBlock
  pub is_word : IsBucketWord view place turn.head bucket generation
  pub loaded : Contains turn.loads (load_of turn.head bucket old)
  pub some_row : ¬ IsNil old
  pub mutable : IsMutable old
  pub known : KnowsRow view (row_address old) (named_row view old)
  pub settled : IsSettled view (named_row view old)
  pub keys : List ℕ
  pub built : words_at view.hands at ≡ row_words keys
  pub rising : IsStrictlyIncreasing keys
  pub change : Change
  pub is_change : swap_change view old at ≡ Some change
  pub class : InClass generation.exponent bucket change.key
  pub no_flight : view.flight ≡ None

-- A won exchange: the row is published, the call has its entry, and the turn is closed.
abbrev pub view_after_swap_row : List Entry → ℕ → ℕ → ℕ → PassView → PassView
view_after_swap_row history serial old at view = record view {
  front = history ++ swap_entry view serial old at ∷ [];
  horizon = history ++ swap_entry view serial old at ∷ [];
  known = known_block at (Row (swapped_row view old at)) ∷ view.known;
  hands = without at view.hands;
  mine = view.mine ++ swap_entry view serial old at ∷ [];
  used = serial + 1;
  won = view.won + 1;
  turn = None;
  won_since = view.won_since + 1;
  made = record view.made { row_swaps = view.made.row_swaps + 1 };
}

-- A lost exchange: the turn is lost, and the block stays in hand.
abbrev pub view_after_lost_swap : PassView → PassView
view_after_lost_swap view = record view {
  lost = view.lost + 1;
  turn = None;
  made = record view.made { row_swaps = view.made.row_swaps + 1 };
}

-- what a won exchange is to a pass that is the only one
pub record SwapsAlone (serial old at : ℕ) (view : PassView) (history : List Entry)
    (new : PassView) : Type 0 where
  pub front : history ≡ view.front
  pub ledger : (change : Change) → swap_change view old at ≡ Some change
      → ledger_of new ≡ changed change.call change.key (ledger_of view)

-- what a won exchange tells: the entry stands right behind all that had taken effect
pub record SwapsRow (serial old at : ℕ) (view new : PassView) : Type 0 where
  pub history : List Entry
  pub grows : IsPrefix view.front history
  pub view_is : new ≡ view_after_swap_row history serial old at view
  pub alone : view.facts.seats ≡ 1 → SwapsAlone serial old at view history new

-- what a lost exchange tells: another pass won one
pub record LosesSwap (view new : PassView) : Type 0 where
  pub view_is : new ≡ view_after_lost_swap view
  pub others : view.facts.seats ≢ 1
