-- The members that the words show are those that the published blocks and their cells hold.
use Rattle.std.proofs.Common.{◌≡◌, ◌≢◌, ℕ, ◌+◌, ◌==◌, ◌||◌, ◌&&◌, not, Bool, true, false, cond, if◌then◌else◌, List, Option, refl, sym, ap, ◌∙◌, arith, add-zero, ne_eqb}
use native.Mathlib.Decide.{ℕ_discrete}
use Rattle.std.specs.Prelude.{slice_index}
use Rattle.set_model.specs.Call.{members_after_call}
use Rattle.set_model.specs.Keys.{is_in}
use Rattle.set_model.specs.declared.call.Call.TheVariants.{Insert, Remove}
use Rattle.step_core.specs.Content.{spot_of, row_keys, is_decided, applied, content_of, is_member}
use Rattle.step_core.specs.Fits.{HoldsBlocks}
use Rattle.step_core.specs.Format.{kind_of, row_address}
use Rattle.step_core.specs.Members.{live_cell, call_of, keys_with_op, row_content, is_held}
use Rattle.step_core.specs.Plain.{HasPlainRows}
use Rattle.step_core.specs.States.{RoundState, IsRow, IsOp}
use Rattle.step_core.specs.declared.published.Published.{Published}
use Rattle.step_core.specs.declared.published.Published.TheVariants.{Row, Op}
use Rattle.step_core.specs.declared.published.OpBlock.{OpBlock}
use Rattle.step_core.specs.declared.published.RowBlock.{RowBlock}
use Rattle.step_core.proofs.seen.Held.{row_content-plain, is_held-row}
use Rattle.step_core.proofs.seen.Predecessor.{is_live}
use Rattle.step_core.proofs.seen.Shown.{block_shown}
use Rattle.step_core.proofs.seen.Content.{row_keys-written}

-- what an operation's words apply to keys is what its call does to them
applied_call : (insert : Bool) (key of_op : ℕ) (keys : ℕ → Bool)
    → (if kind_of insert == 1 then key == of_op || keys key else (not (key == of_op) && keys key))
    ≡ members_after_call (if insert then Insert else Remove) of_op keys key
unfolding members_after_call
applied_call true key of_op keys = refl
applied_call false key of_op keys = refl

-- a test picked by a condition, at a key
picked_at : (b : Bool) (one other : ℕ → Bool) (key : ℕ) → cond b (one key) (other key) ≡ cond b one other key
picked_at true one other key = refl
picked_at false one other key = refl

module _ {seats : ℕ} {words : List ℕ} {state : RoundState} (holds : HoldsBlocks seats words state) where
  module _ (at : ℕ) (row : RowBlock) (here : IsRow state.blocks at row) (key : ℕ) where
    -- the row's words give its operation and its keys
    op_is : slice_index words (at + 1) ≡ row.op
    op_is = (block_shown holds at (Row row) here).sealed 1 (omega arith)

    keys_are : row_keys words at ≡ row.keys
    keys_are =
        let shown = block_shown holds at (Row row) here in
        row_keys-written words at row.op row.ans row.keys shown.sealed (omega (arith, shown.within))

    -- so its content is that of its keys, with the operation's words applied
    by_words : content_of words at key ≡ (if is_decided words row.op then applied words row.op (is_in row.keys) key else is_in row.keys key)
    by_words = λ i. if is_decided words (op_is i) then applied words (op_is i) (is_in (keys_are i)) key else is_in (keys_are i) key

    -- without an operation these are the keys
    plain_content : row.op ≡ 0 → content_of words at key ≡ row_content state.blocks state.cells row key
    plain_content none =
        by_words
        ∙ ap (λ (op : ℕ). if is_decided words op then applied words op (is_in row.keys) key else is_in row.keys key) none
        ∙ sym (row_content-plain state.head state.blocks state.cells row key none)

    -- and with one its call is applied where it is decided
    op_content : row.op ≢ 0 → content_of words at key ≡ row_content state.blocks state.cells row key
    unfolding row_content
    op_content some_op =
        let op = (holds.homes at row here).op some_op in
        let shown = block_shown holds row.op (Op op.op) op.there in
        let result : slice_index words (row.op + 4) ≡ state.cells row.op 0 =
        ap (slice_index words) (sym (add-zero (row.op + 4)))
        ∙ (holds.laid.blocks row.op (Op op.op) op.there).cell_part.shown 0 (omega arith) in
        let decided : is_decided words row.op ≡ (state.cells row.op 0 == 1 || state.cells row.op 0 == 2) =
        ap (λ (b : Bool). not b && (slice_index words (row.op + 4) == 1 || slice_index words (row.op + 4) == 2)) (ne_eqb row.op 0 some_op)
        ∙ ap (λ (r : ℕ). r == 1 || r == 2) result in
        let kind : slice_index words (row.op + 1) ≡ kind_of op.op.insert = shown.sealed 1 (omega arith) in
        let of_op : slice_index words (row.op + 2) ≡ op.op.key = shown.sealed 2 (omega arith) in
        let call : applied words row.op (is_in row.keys) key ≡ members_after_call (call_of op.op) op.op.key (is_in row.keys) key =
        (λ i. if kind i == 1 then key == of_op i || is_in row.keys key else (not (key == of_op i) && is_in row.keys key))
        ∙ applied_call op.op.insert key op.op.key (is_in row.keys) in
        by_words
        ∙ (λ i. if decided i then call i else is_in row.keys key)
        ∙ picked_at (state.cells row.op 0 == 1 || state.cells row.op 0 == 2) (members_after_call (call_of op.op) op.op.key (is_in row.keys))
        (is_in row.keys) key
        ∙ ap (λ (block : Option Published). keys_with_op block (state.cells row.op 0) (is_in row.keys) key) (sym op.there)
        ∙ ap (λ (b : Bool). cond b (is_in row.keys) (keys_with_op (state.blocks row.op) (state.cells row.op 0) (is_in row.keys)) key)
        (sym (ne_eqb row.op 0 some_op))

    -- a row's content is the same by words and by blocks
    content_same : content_of words at key ≡ row_content state.blocks state.cells row key
    content_same = elim (ℕ_discrete row.op 0) [
      | yes none ↦ plain_content none
      | no some_op ↦ op_content some_op
    ]

  -- A key is a member of the words exactly where the blocks hold it.
  pub is_member-held : (key : ℕ) → is_member words key ≡ is_held state.head state.blocks state.cells key
  is_member-held key =
      let live = is_live holds (spot_of key) in
      let word : ℕ = live_cell state.head state.blocks state.cells (spot_of key) in
      ap (λ (w : ℕ). content_of words (row_address w) key) live.same
      ∙ content_same (row_address word) live.home.row live.home.here key
      ∙ sym (is_held-row state.head state.blocks state.cells key word live.home.row refl live.home.here)

  -- Where no operation is published, no live row has one.
  pub plain_rows : ((at : ℕ) (op : OpBlock) → IsOp state.blocks at op → ⊥) → HasPlainRows words
  plain_rows no_op spot =
      let live = is_live holds spot in
      let address : ℕ = row_address (live_cell state.head state.blocks state.cells spot) in
      ap (λ (w : ℕ). slice_index words (row_address w + 1)) live.same
      ∙ (block_shown holds address (Row live.home.row) live.home.here).sealed 1 (omega arith)
      ∙ elim (ℕ_discrete live.home.row.op 0) [
        | yes none ↦ none
        | no some_op ↦
            let op = (holds.homes address live.home.row live.home.here).op some_op in
            absurd (no_op live.home.row.op op.op op.there)
      ]
