-- The passes of a round as it begins are all that it has, each once; and they stay so where each stays the round's and keeps its number.
use Rattle.std.proofs.Common.{◌≡◌, ℕ, suc, ◌<◌, List, [], ◌∷◌, ◌++◌, length, map, take, drop, slice_index_or, refl, sym, ap, ap₂, ◌∙◌, subst, append-nil, take_all, arith}
use Rattle.std.specs.List.{range_with_len}
use Rattle.std.specs.List.Sorted.{IsPermutation}
use Rattle.std.proofs.lemmas.List.{drop_all, length-map}
use Rattle.std.proofs.lemmas.List.Elements.{All-map}
use Rattle.std.proofs.lemmas.List.FromFn.{length-range_with_len}
use Rattle.std.proofs.lemmas.List.Sorted.{IsPermutation-refl}
use Rattle.cells.specs.Ends.{AreAllPasses}
use Rattle.cells.specs.Tokens.{RoundValue, PassValue, IsPassOf, fresh_pass, fresh_passes}

-- fresh passes have the numbers that they were given
numbers-fresh : (round : RoundValue) (numbers : List ℕ)
    → map (λ (pass : PassValue). pass.view.number) (map (fresh_pass round) numbers) ≡ numbers
numbers-fresh round [] = refl
numbers-fresh round (number ∷ numbers) = ap (λ (list : List ℕ). number ∷ list) (numbers-fresh round numbers)

-- a round may end with the passes that it began with
pub fresh_all : (round : RoundValue) → AreAllPasses round (fresh_passes round)
fresh_all round =
    let all = range_with_len 0 round.facts.seats in
    record {
      ours = All-map (IsPassOf round) (fresh_pass round) all (λ k d lt. record { table = refl; facts = refl });
      once = subst (λ (numbers : List ℕ). IsPermutation numbers all) (sym (numbers-fresh round all)) (IsPermutation-refl all);
    }

-- also where they are said to be those
pub fresh_all-is : (round : RoundValue) (passes : List PassValue) → passes ≡ fresh_passes round → AreAllPasses round passes
fresh_all-is round passes are = subst (AreAllPasses round) (sym are) (fresh_all round)

-- there are as many as the round has
pub fresh_count : (round : RoundValue) (passes : List PassValue) → passes ≡ fresh_passes round → length passes ≡ round.facts.seats
fresh_count round passes are =
    ap length are ∙ length-map (range_with_len 0 round.facts.seats) (fresh_pass round) ∙ length-range_with_len 0 round.facts.seats

-- Lists of one length with the same numbers, place by place, have the same numbers.
pub numbers_same : (xs ys : List PassValue) → length ys ≡ length xs
    → ((k : ℕ) (d : PassValue) → k < length xs → (slice_index_or ys k d).view.number ≡ (slice_index_or xs k d).view.number)
    → map (λ (pass : PassValue). pass.view.number) ys ≡ map (λ (pass : PassValue). pass.view.number) xs
numbers_same [] [] long each = refl
numbers_same [] (y ∷ ys) long each = absurd (omega (arith, long))
numbers_same (x ∷ xs) [] long each = absurd (omega (arith, long))
numbers_same (x ∷ xs) (y ∷ ys) long each =
    ap₂ (λ (n : ℕ) (ns : List ℕ). n ∷ ns) (each 0 x (omega arith))
    (numbers_same xs ys (omega (arith, long)) (λ k d within. each (suc k) d (omega (arith, within))))

-- what calls on some passes left of each
pub record EachStays (round : RoundValue) (old new : List PassValue) : Type 0 where
  pub long : length new ≡ length old
  pub tables : (k : ℕ) (d : PassValue) → k < length old → (slice_index_or new k d).table ≡ round.table
  pub facts : (k : ℕ) (d : PassValue) → k < length old → (slice_index_or new k d).view.facts ≡ round.facts
  pub numbers : (k : ℕ) (d : PassValue) → k < length old → (slice_index_or new k d).view.number ≡ (slice_index_or old k d).view.number

-- They are all of the round still.
pub still_all : (round : RoundValue) (old new : List PassValue) → EachStays round old new → AreAllPasses round old → AreAllPasses round new
still_all round old new each all = record {
  ours = λ k d within.
      let inside : k < length old = omega (arith, within, each.long) in
      record { table = each.tables k d inside; facts = each.facts k d inside };
  once = subst (λ (numbers : List ℕ). IsPermutation numbers (range_with_len 0 round.facts.seats))
      (sym (numbers_same old new each.long each.numbers)) all.once;
}

-- A slice of a whole vector, written back, is the vector.
pub written_back : {X : Type 0} (items new : List X) (len : ℕ) → length new ≡ length items → len ≡ length items
    → take len (new ++ drop (length new) items) ≡ new
written_back items new len long same =
    ap (λ list. take len (new ++ list)) (drop_all (length new) items (omega (arith, long)))
    ∙ ap (take len) (append-nil new) ∙ take_all len new (omega (arith, long, same))
