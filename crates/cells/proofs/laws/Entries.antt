-- The entries of each pass, once a history has one entry more.
use Rattle.std.proofs.Common.{◌≡◌, ◌≢◌, ℕ, ◌<◌, Bool, cond, nat_eq, List, [], ◌∷◌, ◌++◌, map, All, ap, ◌∙◌, eq-eqb, ne_eqb, append-nil}
use Rattle.std.proofs.lemmas.List.Elements.{All-head, All-tail, filter-append}
use Rattle.std.specs.List.Sorted.{IsStrictlyIncreasing}
use Rattle.set_model.specs.declared.entry.Entry.{Entry}
use Rattle.step_core.proofs.lists.Above.{Rises, RisesAbove, rises, increasing}
use Rattle.cells.specs.Past.{entries_by}

-- the pass whose entry it is has that one more,
pub entries_by-own : (pass : ℕ) (history : List Entry) (entry : Entry) → entry.who ≡ pass
    → entries_by pass (history ++ entry ∷ []) ≡ entries_by pass history ++ entry ∷ []
entries_by-own pass history entry own =
    filter-append (λ (entry : Entry). nat_eq entry.who pass) history (entry ∷ [])
    ∙ ap (λ (b : Bool). entries_by pass history ++ cond b (entry ∷ []) []) (eq-eqb entry.who pass own)

-- and any other has those that it had
pub entries_by-other : (pass : ℕ) (history : List Entry) (entry : Entry) → entry.who ≢ pass
    → entries_by pass (history ++ entry ∷ []) ≡ entries_by pass history
entries_by-other pass history entry apart =
    filter-append (λ (entry : Entry). nat_eq entry.who pass) history (entry ∷ [])
    ∙ ap (λ (b : Bool). entries_by pass history ++ cond b (entry ∷ []) []) (ne_eqb entry.who pass apart)
    ∙ append-nil (entries_by pass history)

-- the serials of some entries
abbrev serials : List Entry → List ℕ
serials entries = map (λ (entry : Entry). entry.serial) entries

-- the entry's serial is above these
abbrev IsBelow : Entry → Entry → Type 0
IsBelow last entry = entry.serial < last.serial

-- serials that rise above a number do so with a greater one behind them,
rise_above : (low : ℕ) (entries : List Entry) (last : Entry) → RisesAbove low (serials entries) → All (IsBelow last) entries
    → low < last.serial → RisesAbove low (serials (entries ++ last ∷ []))
rise_above low [] last rising below above = (above, tt)
rise_above low (first ∷ entries) last rising below above = (
  rising.0,
  rise_above first.serial entries last rising.1 (All-tail (IsBelow last) first entries below) (All-head (IsBelow last) first entries below),
)

-- and so do those that rise
rise_behind : (entries : List Entry) (last : Entry) → Rises (serials entries) → All (IsBelow last) entries
    → Rises (serials (entries ++ last ∷ []))
rise_behind [] last rising below = tt
rise_behind (first ∷ entries) last rising below =
    rise_above first.serial entries last rising (All-tail (IsBelow last) first entries below) (All-head (IsBelow last) first entries below)

-- a serial above all others keeps them in order
pub in_order-push : (entries : List Entry) (last : Entry) → IsStrictlyIncreasing (map (λ (entry : Entry). entry.serial) entries)
    → All (λ (entry : Entry). entry.serial < last.serial) entries
    → IsStrictlyIncreasing (map (λ (entry : Entry). entry.serial) (entries ++ last ∷ []))
in_order-push entries last rising below =
    increasing (serials (entries ++ last ∷ [])) (rise_behind entries last (rises (serials entries) rising) below)
