-- What it means that an exchange of a row may be made: the row in hand is the known row after one call, and has its home.
use Rattle.std.proofs.Common.{◌≡◌, ◌*◌, ◌^◌, ℕ, ◌<◌, ◌==◌, if◌then◌else◌, true, List, All, sym, ap, ◌∙◌, subst}
use Rattle.std.specs.List.Sorted.{IsStrictlyIncreasing}
use Rattle.set_model.specs.declared.entry.Entry.{Entry}
use Rattle.arena.specs.Hands.{words_at}
use Rattle.step_core.specs.Content.{InClass}
use Rattle.step_core.specs.Fits.{HoldsClass}
use Rattle.step_core.specs.Format.{row_words}
use Rattle.step_core.specs.Rising.{IsChange, change_of}
use Rattle.set_model.specs.declared.call.Call.TheVariants.{Insert}
use Rattle.step_core.specs.declared.published.RowBlock.{RowBlock}
use Rattle.step_core.specs.declared.views.PassView.{PassView}
use Rattle.step_core.proofs.lists.Change.{change_of-only}
use Rattle.step_core.proofs.lists.Each.{all_after_call}
use Rattle.cells.specs.Exchanges.{content_keys, fixed_at, list_with_op, named_row, hand_keys, entry_by, swap_entry, swapped_row, MaySwapRow}
use Rattle.cells.specs.Known.{block_at}
use Rattle.cells.specs.Sound.{IsSound}
use Rattle.cells.proofs.laws.BuiltRow.{built_keys, built_row, built_fits}
use Rattle.cells.proofs.laws.Within.{bucket_within}

-- the content of a row without an operation is its keys
pub content_keys-plain : (view : PassView) (row : RowBlock) → row.op ≡ 0 → content_keys view row ≡ row.keys
content_keys-plain view row plain =
    λ i. if plain i == 0 then row.keys else list_with_op (block_at view.known (plain i)) (fixed_at view.fixed (plain i) 0) row.keys

module _ (view : PassView) (place old at : ℕ) (may : MaySwapRow view place old at) where
  -- the words of the row that was written stand in the hand
  pub hand_row : words_at view.hands at ≡ row_words (hand_keys view at)
  hand_row = built_row view at may.keys may.built

  -- its bucket word is a word
  pub swap_fits : IsSound view → 2 * at < 2 ^ 64
  swap_fits = built_fits view at may.keys may.built

  -- and so is the bucket's place
  pub swap_within : IsSound view → place < view.facts.cap
  swap_within sound = (bucket_within view sound place (may.turn.head, may.bucket, may.generation, may.is_word)).within

  -- its keys rise
  pub hand_rising : IsStrictlyIncreasing (hand_keys view at)
  hand_rising = subst IsStrictlyIncreasing (sym (built_keys view at may.keys may.built)) may.rising

  -- the entry is that of the change
  abbrev pub change_entry : ℕ → Entry
  change_entry serial =
      record { who = view.number; serial = serial; call = may.change.call; key = may.change.key; answer = true }

  pub entry_is : (serial : ℕ) → swap_entry view serial old at ≡ change_entry serial
  entry_is serial = ap (entry_by view.number serial) may.is_change

  module _ (plain : (named_row view old).op ≡ 0) (holds : HoldsClass (named_row view old)) where
    -- the row in hand has what the call leaves of the row that the word names
    pub is_change : IsChange (named_row view old).keys (hand_keys view at) may.change.call may.change.key
    is_change = change_of-only (named_row view old).keys (hand_keys view at) may.change holds.rising hand_rising
        (ap (λ (keys : List ℕ). change_of keys (hand_keys view at)) (sym (content_keys-plain view (named_row view old) plain)) ∙ may.is_change)

    module _ (exponent : (named_row view old).exponent ≡ may.generation.exponent) (number : (named_row view old).bucket ≡ may.bucket) where
      -- what holds of its keys and, where that is inserted, of the call's holds of those in hand
      pub all_hand : (P : ℕ → Type 0) → (may.change.call ≡ Insert → P may.change.key) → All P (named_row view old).keys
          → All P (hand_keys view at)
      all_hand P here all = subst (All P) (sym is_change.after) (all_after_call P may.change.call may.change.key (named_row view old).keys here all)

      -- so it holds its class
      pub swapped_holds : HoldsClass (swapped_row view old at)
      swapped_holds = record {
        rising = hand_rising;
        class = all_hand (InClass (named_row view old).exponent (named_row view old).bucket)
            (λ inserts. subst (λ (home : ℕ × ℕ). InClass home.0 home.1 may.change.key) (λ i. (sym exponent i, sym number i)) may.class)
            holds.class;
      }
