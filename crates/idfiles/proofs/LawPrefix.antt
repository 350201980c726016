-- Records that begin with those of before.
use Rattle.std.proofs.Common.{List, ◌++◌, sym, ap, ◌∙◌, append_assoc}
use mathlib.Core.List.{IsPrefix}

-- what begins with a list that begins with another begins with it
pub prefix_trans : {A : Type 0} (xs ys zs : List A) → IsPrefix xs ys → IsPrefix ys zs → IsPrefix xs zs
prefix_trans xs ys zs first second =
    (first.0 ++ second.0, sym (append_assoc xs first.0 second.0) ∙ ap (λ l. l ++ second.0) first.1 ∙ second.1)
