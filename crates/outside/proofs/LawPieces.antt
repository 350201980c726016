-- What stands at the front of a slice after a write to a part of it.
use Rattle.std.proofs.Common.{◌≡◌, ℕ, ◌+◌, ◌-◌, ◌≤◌, List, ◌++◌, length, take, drop, length-append, length-drop, subst, sym, ap, ◌∙◌, arith}
use Rattle.std.proofs.Math.Seq.{take-add, take-append-add}
use Rattle.std.proofs.lemmas.List.{length-take-le, take-append-le, take_all}
use borrow.Rule.Slice.PartMut.{put_mid, post_of}

-- behind the first a elements stand the first n that were written
pub take-put_mid_more : (a n : ℕ) (xs ys : List ℕ) → a ≤ length xs → n ≤ length ys
    → take (a + n) (put_mid a (length xs - a) xs ys) ≡ take a xs ++ take n ys
take-put_mid_more a n xs ys within small =
    let front : length (take a xs) ≡ a = length-take-le a xs within in
    ap (λ m. take (m + n) (put_mid a (length xs - a) xs ys)) (sym front)
    ∙ take-append-add (take a xs) (ys ++ post_of a (length xs - a) xs) n
    ∙ ap (λ l. take a xs ++ l) (take-append-le n ys _ small)

-- what was written lies in the slice
pub length-put_mid_more : (a n : ℕ) (xs ys : List ℕ) → a ≤ length xs → n ≤ length ys → a + n ≤ length (put_mid a (length xs - a) xs ys)
length-put_mid_more a n xs ys within small =
    let rest = ys ++ post_of a (length xs - a) xs in
    omega (arith, length-append (take a xs) rest, length-append ys (post_of a (length xs - a) xs), length-take-le a xs within, small)

-- a front of the rest goes on the front that was there
pub take-add_range : (bytes : List ℕ) (taken n : ℕ) → n ≤ length (take (length bytes - taken) (drop taken bytes)) → taken ≤ length bytes
    → (taken + n ≤ length bytes) × (take taken bytes ++ take n (take (length bytes - taken) (drop taken bytes)) ≡ take (taken + n) bytes)
take-add_range bytes taken n within before =
    let rest : take (length bytes - taken) (drop taken bytes) ≡ drop taken bytes =
    take_all _ (drop taken bytes) (omega (arith, length-drop taken bytes)) in
    let at_most : n ≤ length (drop taken bytes) = subst (λ l. n ≤ length l) rest within in
    (omega (arith, length-drop taken bytes, at_most), ap (λ l. take taken bytes ++ take n l) rest ∙ sym (take-add taken n bytes))
