-- Bytes of one kind at the front of others, with more of them behind.
use Rattle.std.proofs.Common.{◌≡◌, ℕ, ◌+◌, Bool, true, List, take, drop, ap, ◌∙◌, refl}
use Rattle.std.proofs.Math.Seq.{take-add}
use Rattle.std.proofs.lemmas.List.Folds.{list_all-append}
use Rattle.std.specs.List.{list_all}

-- a front that passes, and the next n elements, which do too
pub longer_front : (p : ℕ → Bool) (bytes rest : List ℕ) (at n : ℕ) → rest ≡ drop at bytes → list_all p (take at bytes) ≡ true
    → list_all p (take n rest) ≡ true → list_all p (take (at + n) bytes) ≡ true
longer_front p bytes rest at n is front behind =
    ap (list_all p) (take-add at n bytes) ∙ list_all-append p (take at bytes) (take n (drop at bytes))
    ∙ rw (front, ← is, behind) refl
