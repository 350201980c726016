-- A row in the words: its keys are read as they were written, and without an operation they are its content.
use Rattle.std.proofs.Common.{◌≡◌, ℕ, suc, ◌+◌, ◌≤◌, nat_eq, cond, List, ◌∷◌, length, slice_index, drop, sym, ap, ◌∙◌, arith, add-zero}
use Rattle.std.specs.List.{list_any}
use Rattle.std.proofs.lemmas.List.{ext_get_or, length-take, length-drop, get_or-take, get_or-drop}
use Rattle.step_core.specs.Format.{Stands}
use Rattle.step_core.specs.Content.{row_keys, content_of, is_decided, applied}
use Rattle.step_core.specs.declared.format.TheConstants.{FIRST_KEY}

-- the keys of a row are read as they were written
pub row_keys-written : (words : List ℕ) (at op ans : ℕ) (keys : List ℕ)
    → Stands words at (length keys ∷ op ∷ ans ∷ keys) → at + FIRST_KEY + length keys ≤ length words
    → row_keys words at ≡ keys
row_keys-written words at op ans keys stands within =
    let count : slice_index words at ≡ length keys = ap (slice_index words) (sym (add-zero at)) ∙ stands 0 (omega arith) in
    let long : length (row_keys words at) ≡ length keys =
    length-take (slice_index words at) (drop (at + FIRST_KEY) words) ∙ omega (arith, length-drop (at + FIRST_KEY) words) in
    ext_get_or 0 (row_keys words at) keys long (λ i lt.
    get_or-take (slice_index words at) (drop (at + FIRST_KEY) words) i 0 (omega arith)
    ∙ get_or-drop (at + FIRST_KEY) words i 0
    ∙ ap (slice_index words) (let same : at + FIRST_KEY + i ≡ at + suc (suc (suc i)) = omega arith in same)
    ∙ stands (suc (suc (suc i))) (omega arith))

-- without an operation the content is the keys
pub content_of-plain : (words : List ℕ) (row key : ℕ) → slice_index words (row + 1) ≡ 0
    → content_of words row key ≡ list_any (λ y. nat_eq y key) (row_keys words row)
content_of-plain words row key plain =
    let keys = λ (k : ℕ). list_any (λ y. nat_eq y k) (row_keys words row) in
    ap (λ (op : ℕ). cond (is_decided words op) (applied words op keys key) (keys key)) plain
