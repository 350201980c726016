-- The rounds of three lists, with one more.
use Rattle.std.proofs.Common.{◌≡◌, List, [], ◌∷◌, ◌++◌, ℕ, Vec, length, refl, ap, arith}
use Rattle.std.specs.declared.alloc.Global.{Global}
use Rattle.set_model.specs.declared.entry.Entry.{Entry}
use Rattle.chain.specs.Chain.{RoundEnd}
use Rattle.rounds.specs.Closings.{ClosingValue}
use Rattle.dedup.specs.Rounds.{round_of, rounds_of}

-- one more of each is one round more
pub rounds_of-push : (closings : List ClosingValue) (settled : List (Vec Entry Global)) (made : List (Vec (Vec ℕ Global) Global))
    (closing : ClosingValue) (entries : Vec Entry Global) (lists : Vec (Vec ℕ Global) Global)
    → length settled ≡ length closings → length made ≡ length closings
    → rounds_of (closings ++ closing ∷ []) (settled ++ entries ∷ []) (made ++ lists ∷ [])
    ≡ rounds_of closings settled made ++ round_of closing entries lists ∷ []
rounds_of-push [] [] [] closing entries lists one other = refl
rounds_of-push [] (s ∷ settled) made closing entries lists one other = absurd (omega (arith, one))
rounds_of-push [] [] (m ∷ made) closing entries lists one other = absurd (omega (arith, other))
rounds_of-push (c ∷ closings) [] made closing entries lists one other = absurd (omega (arith, one))
rounds_of-push (c ∷ closings) (s ∷ settled) [] closing entries lists one other = absurd (omega (arith, other))
rounds_of-push (c ∷ closings) (s ∷ settled) (m ∷ made) closing entries lists one other =
    ap (λ (rounds : List RoundEnd). round_of c s m ∷ rounds)
    (rounds_of-push closings settled made closing entries lists (omega (arith, one)) (omega (arith, other)))
