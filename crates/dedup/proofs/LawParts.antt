-- What workers began of their parts and what they left of them are, in some order, the list that the parts tile.
use Rattle.std.proofs.Common.{◌≡◌, ◌<◌, ◌≤◌, ℕ, List, [], ◌∷◌, ◌++◌, append_assoc, flat_map, length, inl, inr, sym, ap, subst, arith}
use Rattle.std.specs.List.{All}
use Rattle.std.proofs.lemmas.Bool.{cases_lt}
use Rattle.std.specs.List.Sorted.{IsPermutation}
use Rattle.std.proofs.lemmas.List.{length-append}
use Rattle.std.proofs.lemmas.List.Elements.{All-head, All-tail}
use Rattle.std.proofs.lemmas.List.Sorted.{IsPermutation-append, IsPermutation-append_comm, IsPermutation-append_left, IsPermutation-append_right, IsPermutation-refl, IsPermutation-trans}

module _ {W : Type 0} (part begun rest : W → List ℕ) where
  -- a worker began a front of its part and left the rest, and began some of a part that has some
  pub record HasSplit (worker : W) : Type 0 where
    pub front : part worker ≡ begun worker ++ rest worker
    pub some : 0 < length (part worker) → 0 < length (begun worker)

  -- all parts are what was begun and what was left, in some order
  pub begun_and_rest : (workers : List W) → All HasSplit workers
      → IsPermutation (flat_map part workers) (flat_map begun workers ++ flat_map rest workers)
  begun_and_rest [] all = IsPermutation-refl []
  begun_and_rest (worker ∷ workers) all =
      let here = (All-head HasSplit worker workers all).front in
      let others = begun_and_rest workers (All-tail HasSplit worker workers all) in
      let b = begun worker in
      let r = rest worker in
      let bs = flat_map begun workers in
      let rs = flat_map rest workers in
      let first : IsPermutation (part worker ++ flat_map part workers) ((b ++ r) ++ (bs ++ rs)) =
      IsPermutation-append (part worker) (b ++ r) (flat_map part workers) (bs ++ rs)
      (subst (IsPermutation (part worker)) here (IsPermutation-refl (part worker))) others in
      let moved : IsPermutation (r ++ (bs ++ rs)) (bs ++ (r ++ rs)) =
      subst (λ list. IsPermutation list (bs ++ (r ++ rs))) (append_assoc r bs rs)
      (subst (IsPermutation ((r ++ bs) ++ rs)) (append_assoc bs r rs)
      (IsPermutation-append_left rs (r ++ bs) (bs ++ r) (IsPermutation-append_comm r bs))) in
      let last : IsPermutation ((b ++ r) ++ (bs ++ rs)) ((b ++ bs) ++ (r ++ rs)) =
      subst (λ list. IsPermutation list ((b ++ bs) ++ (r ++ rs))) (sym (append_assoc b r (bs ++ rs)))
      (subst (IsPermutation (b ++ (r ++ (bs ++ rs)))) (sym (append_assoc b bs (r ++ rs)))
      (IsPermutation-append_right b (r ++ (bs ++ rs)) (bs ++ (r ++ rs)) moved)) in
      IsPermutation-trans (part worker ++ flat_map part workers) ((b ++ r) ++ (bs ++ rs)) ((b ++ bs) ++ (r ++ rs)) first last

  -- no more is left than there was
  rest-le : (workers : List W) → All HasSplit workers → length (flat_map rest workers) ≤ length (flat_map part workers)
  rest-le [] all = omega arith
  rest-le (worker ∷ workers) all =
      omega (
        arith,
        ap length (All-head HasSplit worker workers all).front,
        length-append (begun worker) (rest worker),
        rest-le workers (All-tail HasSplit worker workers all),
        length-append (rest worker) (flat_map rest workers),
        length-append (part worker) (flat_map part workers),
      )

  -- and less, where there was some
  pub rest-less : (workers : List W) → All HasSplit workers → 0 < length (flat_map part workers)
      → length (flat_map rest workers) < length (flat_map part workers)
  rest-less [] all some = absurd (omega (arith, some))
  rest-less (worker ∷ workers) all some =
      let here = All-head HasSplit worker workers all in
      let others = All-tail HasSplit worker workers all in
      let front = ap length here.front in
      let one = length-append (begun worker) (rest worker) in
      let rests = length-append (rest worker) (flat_map rest workers) in
      let parts = length-append (part worker) (flat_map part workers) in
      elim (cases_lt 0 (length (part worker)))
      as (λ _. length (rest worker ++ flat_map rest workers) < length (part worker ++ flat_map part workers)) [
        | inl has ↦ omega (arith, here.some has, front, one, rests, parts, rest-le workers others)
        | inr none ↦ omega (arith, front, one, rests, parts, rest-less workers others (omega (arith, some, none, parts)))
      ]
