-- Of lists, one for each pass, that are put one behind the other, a pass's entries are those of its own list.
use Rattle.std.proofs.Common.{◌≡◌, ◌≢◌, ℕ, zero, suc, ◌<◌, ◌≤◌, Bool, cond, nat_eq, List, [], ◌∷◌, ◌++◌, All, refl, sym, ap, ap₂, ◌∙◌, subst, arith, eq-eqb, ne_eqb, append-nil}
use Rattle.std.proofs.lemmas.List.Elements.{All-nil, All-head, All-tail, All-append, All-weaker, filter-append}
use native.Mathlib.Decide.{ℕ_discrete}
use Rattle.set_model.specs.declared.entry.Entry.{Entry}
use Rattle.cells.specs.Past.{entries_by}
use Rattle.hash_set.specs.OneHistory.{gathered}

-- the entry is the pass's
abbrev pub IsBy : ℕ → Entry → Type 0
IsBy pass entry = entry.who ≡ pass

-- a list of a pass's entries has its entries alone
entries_by-all : (pass : ℕ) (list : List Entry) → All (IsBy pass) list → entries_by pass list ≡ list
entries_by-all pass [] own = refl
entries_by-all pass (entry ∷ list) own =
    ap (λ (b : Bool). cond b (entry ∷ entries_by pass list) (entries_by pass list))
    (eq-eqb entry.who pass (All-head (IsBy pass) entry list own))
    ∙ ap (λ (rest : List Entry). entry ∷ rest) (entries_by-all pass list (All-tail (IsBy pass) entry list own))

-- and a list of others' entries has none of the pass
entries_by-none : (pass : ℕ) (list : List Entry) → All (λ (entry : Entry). entry.who ≢ pass) list → entries_by pass list ≡ []
entries_by-none pass [] others = refl
entries_by-none pass (entry ∷ list) others =
    ap (λ (b : Bool). cond b (entry ∷ entries_by pass list) (entries_by pass list))
    (ne_eqb entry.who pass (All-head (λ (entry : Entry). entry.who ≢ pass) entry list others))
    ∙ entries_by-none pass list (All-tail (λ (entry : Entry). entry.who ≢ pass) entry list others)

module _ (lists : ℕ → List Entry) where
  -- each list below a number has only entries of its pass
  abbrev pub AreOwn : ℕ → Type 0
  AreOwn count = (pass : ℕ) → pass < count → All (IsBy pass) (lists pass)

  -- another pass's list has no entry of the pass
  none_in_other : (pass other count : ℕ) → AreOwn count → other < count → other ≢ pass → entries_by pass (lists other) ≡ []
  none_in_other pass other count own less apart =
      entries_by-none pass (lists other)
      (All-weaker (IsBy other) (λ (entry : Entry). entry.who ≢ pass) (λ entry is same. apart (sym is ∙ same)) (lists other)
      (own other less))

  -- of a pass above the number there is no entry
  gathered-none : (pass count : ℕ) → count ≤ pass → AreOwn count → entries_by pass (gathered count lists) ≡ []
  gathered-none pass zero above own = refl
  gathered-none pass (suc count) above own =
      filter-append (λ (entry : Entry). nat_eq entry.who pass) (gathered count lists) (lists count)
      ∙ ap₂ (λ (front last : List Entry). front ++ last)
      (gathered-none pass count (omega arith) (λ other less. own other (omega arith)))
      (none_in_other pass count (suc count) own (omega arith) (omega arith))

  -- of a pass below it there are those of its list
  pub gathered-own : (pass count : ℕ) → pass < count → AreOwn count → entries_by pass (gathered count lists) ≡ lists pass
  gathered-own pass zero less own = absurd (omega arith)
  gathered-own pass (suc count) less own =
      filter-append (λ (entry : Entry). nat_eq entry.who pass) (gathered count lists) (lists count)
      ∙ elim (ℕ_discrete count pass) [
        | yes same ↦
            ap₂ (λ (front last : List Entry). front ++ last)
            (gathered-none pass count (omega arith) (λ other below. own other (omega arith)))
            (subst (λ (last : ℕ). entries_by pass (lists last) ≡ lists pass) (sym same) (entries_by-all pass (lists pass) (own pass less)))
        | no apart ↦
            ap₂ (λ (front last : List Entry). front ++ last)
            (gathered-own pass count (omega arith) (λ other below. own other (omega arith)))
            (none_in_other pass count (suc count) own (omega arith) apart)
            ∙ append-nil (lists pass)
      ]

-- what holds of each list's entries holds of all
pub all_gathered : (P : Entry → Type 0) (lists : ℕ → List Entry) (count : ℕ) → ((pass : ℕ) → pass < count → All P (lists pass))
    → All P (gathered count lists)
all_gathered P lists zero each = All-nil P
all_gathered P lists (suc count) each =
    All-append P (gathered count lists) (lists count) (all_gathered P lists count (λ pass less. each pass (omega arith)))
    (each count (omega arith))
