-- What an exchange of a row leaves of the pass's view, field by field, won or lost.
use Rattle.std.proofs.Common.{Bool, true, ◌||◌, nat_eq, inl, inr, ◌≡◌, ◌≢◌, ℕ, ◌+◌, ◌≤◌, ◌<◌, List, [], ◌∷◌, ◌++◌, length, All, None, refl, sym, ap, ◌∙◌, subst, arith, length-append}
use mathlib.Core.List.{IsPrefix}
use base.Growing.{prefix_trans}
use Rattle.std.proofs.lemmas.List.Elements.{All-head, All-tail, All-contains}
use Rattle.std.proofs.lemmas.Bool.{cases_Bool}
use Rattle.std.proofs.lemmas.Bool.Decides.{Decides-eqb}
use Rattle.std.specs.List.{Contains}
use Rattle.set_model.specs.Keys.{is_in}
use Rattle.set_model.specs.declared.entry.Entry.{Entry}
use Rattle.arena.specs.Hands.{words_at}
use Rattle.arena.proofs.laws.Hands.{words_at-without_same, words_at-without_other}
use Rattle.step_core.specs.declared.published.Published.{Published}
use Rattle.step_core.specs.declared.published.Published.TheVariants.{Row}
use Rattle.step_core.specs.declared.published.RowBlock.{RowBlock}
use Rattle.step_core.specs.declared.views.PassView.{PassView}
use Rattle.step_core.proofs.lists.Calls.{length-inside}
use Rattle.cells.specs.Exchanges.{swap_entry, swapped_row, SwapsRow, LosesSwap}
use Rattle.cells.specs.Frames.{OnlySwaps}
use Rattle.cells.specs.Known.{known_block, row_at, KnowsBlock, KnowsRow}
use Rattle.cells.specs.Past.{inserted_keys}
use Rattle.cells.specs.Sound.{IsSound}
use Rattle.cells.specs.Tokens.{PassValue, HasBegunCalls, HasNewCall}
use Rattle.cells.proofs.laws.Known.{knows_more, row_at-first}

module _ (serial old at : ℕ) (view new : PassView) (won : SwapsRow serial old at view new) where
  -- A won exchange leaves all else of the view.
  pub won_keeps : OnlySwaps view new
  won_keeps = subst (OnlySwaps view) (sym won.view_is) refl

  -- The front has the entry, right behind all that had taken effect,
  pub won_front : new.front ≡ won.history ++ swap_entry view serial old at ∷ []
  won_front = ap (λ (view : PassView). view.front) won.view_is

  -- so it begins with the front before.
  pub won_grows : IsPrefix view.front new.front
  won_grows = subst (λ (list : List Entry). IsPrefix view.front list) (sym won_front)
      (prefix_trans view.front won.history (won.history ++ swap_entry view serial old at ∷ []) won.grows (swap_entry view serial old at ∷ [], refl))

  -- The entry is the pass's last one.
  pub won_mine : new.mine ≡ view.mine ++ swap_entry view serial old at ∷ []
  won_mine = ap (λ (view : PassView). view.mine) won.view_is

  -- The call has its entry.
  pub won_used : new.used ≡ serial + 1
  won_used = ap (λ (view : PassView). view.used) won.view_is

  -- One exchange more is won, no turn is lost, and none is open.
  pub won_counts : (new.won ≡ view.won + 1) × (new.lost ≡ view.lost) × (new.turn ≡ None)
  won_counts = (
    ap (λ (view : PassView). view.won) won.view_is,
    ap (λ (view : PassView). view.lost) won.view_is,
    ap (λ (view : PassView). view.turn) won.view_is,
  )

  -- One exchange of a row more was made.
  pub won_made : new.made.row_swaps ≡ view.made.row_swaps + 1
  won_made = ap (λ (view : PassView). view.made.row_swaps) won.view_is

  -- What was known is known,
  pub won_knows : (from : ℕ) (block : Published) → KnowsBlock view from block → KnowsBlock new from block
  won_knows = knows_more (known_block at (Row (swapped_row view old at)) ∷ []) view new (ap (λ (view : PassView). view.known) won.view_is)

  -- and so is the row that was published.
  pub won_row : row_at new.known at ≡ swapped_row view old at
  won_row = ap (λ (view : PassView). row_at view.known at) won.view_is ∙ row_at-first at (swapped_row view old at) view.known

  -- The block is in hand no more,
  pub won_block : words_at new.hands at ≡ []
  won_block = ap (λ (view : PassView). words_at view.hands at) won.view_is ∙ words_at-without_same view.hands at

  -- and any other is.
  pub won_hands : (other : ℕ) → other ≢ at → words_at new.hands other ≡ words_at view.hands other
  won_hands other apart = ap (λ (view : PassView). words_at view.hands other) won.view_is
      ∙ words_at-without_other view.hands at other apart

module _ (view new : PassView) (lost : LosesSwap view new) where
  -- A lost exchange leaves all else of the view.
  pub lost_keeps : OnlySwaps view new
  lost_keeps = subst (OnlySwaps view) (sym lost.view_is) refl

  -- The blocks stay in hand, as they were.
  pub lost_hands : new.hands ≡ view.hands
  lost_hands = ap (λ (view : PassView). view.hands) lost.view_is

  -- The front stays.
  pub lost_front : new.front ≡ view.front
  lost_front = ap (λ (view : PassView). view.front) lost.view_is

  -- What is known stays.
  pub lost_known : new.known ≡ view.known
  lost_known = ap (λ (view : PassView). view.known) lost.view_is

  -- The pass has no entry more.
  pub lost_mine : (new.mine ≡ view.mine) × (new.used ≡ view.used)
  lost_mine = (ap (λ (view : PassView). view.mine) lost.view_is, ap (λ (view : PassView). view.used) lost.view_is)

  -- A turn more is lost, no exchange is won, and no turn is open.
  pub lost_counts : (new.lost ≡ view.lost + 1) × (new.won ≡ view.won) × (new.turn ≡ None)
  lost_counts = (
    ap (λ (view : PassView). view.lost) lost.view_is,
    ap (λ (view : PassView). view.won) lost.view_is,
    ap (λ (view : PassView). view.turn) lost.view_is,
  )

  -- One exchange of a row more was made.
  pub lost_made : new.made.row_swaps ≡ view.made.row_swaps + 1
  lost_made = ap (λ (view : PassView). view.made.row_swaps) lost.view_is

-- No entry of a pass has a serial that it hasn't begun,
pub no_entry_beyond : (pass : PassValue) → HasBegunCalls pass → (entry : Entry) → Contains pass.view.mine entry
    → entry.serial < pass.calls
no_entry_beyond pass begun entry there =
    All-contains (λ (entry : Entry). entry.serial < pass.calls) pass.view.mine entry begun.serials there

-- and none has that of a call that is new.
pub new_call_has_none : (pass : PassValue) → IsSound pass.view → HasNewCall pass → (entry : Entry) → Contains pass.view.mine entry
    → entry.serial + 1 < pass.calls
new_call_has_none pass sound new entry there =
    omega (arith, new, All-contains (λ (entry : Entry). entry.serial < pass.view.used) pass.view.mine entry sound.used there)

-- a list each of whose keys is in another is in it
pub inside_of : (keys list : List ℕ) → All (λ (key : ℕ). is_in list key ≡ true) keys → (key : ℕ) → is_in keys key ≡ true → is_in list key ≡ true
inside_of [] list all key here = absurd (cc)
inside_of (first ∷ keys) list all key here = elim (cases_Bool (nat_eq first key)) [
  | inl same ↦
      subst (λ (k : ℕ). is_in list k ≡ true) ((Decides-eqb first key).0 same) (All-head (λ (key : ℕ). is_in list key ≡ true) first keys all)
  | inr other ↦ inside_of keys list (All-tail (λ (key : ℕ). is_in list key ≡ true) first keys all) key
      (sym (ap (λ (b : Bool). b || is_in keys key) other) ∙ here)
]

-- A known row has at most as many keys as the round has opening keys and inserts that the pass has seen.
pub row_fits : (view : PassView) (at : ℕ) (row : RowBlock) → IsSound view → KnowsRow view at row
    → length row.keys ≤ length view.facts.keys + length (inserted_keys view.horizon)
row_fits view at row sound known =
    let given = sound.given at row known in
    let all : List ℕ = view.facts.keys ++ inserted_keys view.horizon in
    let fits = length-inside row.keys all (sound.rows at row known).rising (inside_of row.keys all given) in
    omega (arith, fits, length-append view.facts.keys (inserted_keys view.horizon))
