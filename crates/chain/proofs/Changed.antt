-- The records whose insert changed the set in a round are, in some order, those of its workers and those of the settled calls.
use Rattle.std.proofs.Common.{◌≡◌, ℕ, suc, ◌+◌, ◌<◌, List, [], ◌∷◌, ◌++◌, length, map, slice_index, slice_index_or, refl, sym, ap, ap₂, ◌∙◌, subst, arith}
use Rattle.std.specs.List.{filter, flat_map, range_with_len}
use Rattle.std.specs.List.Sorted.{IsPermutation}
use Rattle.std.proofs.lemmas.List.{map-append}
use Rattle.std.proofs.lemmas.List.Elements.{filter-append}
use Rattle.std.proofs.lemmas.List.Sorted.{IsPermutation-append_left}
use Rattle.set_model.specs.declared.entry.Entry.{Entry}
use Rattle.cells.specs.Past.{entries_by}
use Rattle.rounds.specs.Closings.{Closes, ClosingValue}
use Rattle.rounds.specs.Halts.{HaltedValue}
use Rattle.chain.specs.Chain.{Asked, number_of_entry, numbers_by}
use Rattle.chain.specs.Changing.{changing_in, is_changing}
use Rattle.chain.specs.Workers.{HandedIn, HaveWorked}
use Rattle.chain.proofs.ByWorkers.{changing_by_workers}
use Rattle.chain.proofs.Refusing.{hand_at}
use Rattle.chain.proofs.Working.{all_made, at_work, own, workers}

-- lists that are had by number, put together
put_together : (part : ℕ → List ℕ) (lists : List (List ℕ)) (from : ℕ)
    → ((k : ℕ) → k < length lists → part (from + k) ≡ slice_index_or lists k [])
    → flat_map part (range_with_len from (length lists)) ≡ flat_map (λ (list : List ℕ). list) lists
put_together part [] from is = refl
put_together part (list ∷ lists) from is =
    ap₂ (λ (xs ys : List ℕ). xs ++ ys) (ap part (omega arith) ∙ is 0 (omega arith))
    (put_together part lists (from + 1) (λ k less. ap part (omega arith) ∙ is (suc k) (omega (arith, less))))

module _ (asked : List Asked) (turns : ℕ) (halted : HaltedValue) (closing : ClosingValue) (hands : List HandedIn)
    (changed : List (List ℕ)) (closes : Closes halted closing) (worked : HaveWorked asked turns halted hands changed) where
  abbrev made : List (List ℕ)
  made = all_made hands

  -- the records of a worker whose insert changed the set, by the history
  abbrev changed_by : ℕ → List ℕ
  changed_by who =
      map (λ (entry : Entry). slice_index (numbers_by made who) entry.serial) (filter is_changing (entries_by who closing.front))

  -- they are those that it handed in
  handed_in : (who : ℕ) → who < length hands → changed_by who ≡ slice_index_or changed who []
  handed_in who within =
      let at = at_work asked turns halted closing hands changed closes worked who within in
      ap (λ (numbers : List ℕ). map (λ (entry : Entry). slice_index numbers entry.serial)
      (filter is_changing (entries_by who closing.front))) at.made
      ∙ ap (λ (entries : List Entry). map (λ (entry : Entry). slice_index (hand_at hands who).made entry.serial)
      (filter is_changing entries)) (own at)
      ∙ sym at.did.changing

  -- so are those of all
  all_handed_in : IsPermutation (map (number_of_entry made) (filter is_changing closing.front)) (flat_map (λ (list : List ℕ). list) changed)
  all_handed_in =
      subst (IsPermutation (map (number_of_entry made) (filter is_changing closing.front)))
      (ap (λ (count : ℕ). flat_map changed_by (range_with_len 0 count))
      (sym (worked.lists ∙ workers asked turns halted closing hands changed closes worked))
      ∙ put_together changed_by changed 0 (λ k less. ap changed_by (omega arith) ∙ handed_in k (omega (arith, less, worked.lists))))
      (changing_by_workers halted.round.facts.seats made closing.front closes.history.who)

  -- The round's are these and those of the settled calls.
  pub changing_is : (settled : List Entry)
      → IsPermutation (changing_in (record { closing = closing; settled = settled; made = made }))
      (flat_map (λ (list : List ℕ). list) changed ++ map (number_of_entry made) (filter is_changing settled))
  changing_is settled =
      let numbers : List Entry → List ℕ = map (number_of_entry made) in
      let front = filter is_changing closing.front in
      let behind = filter is_changing settled in
      subst (λ (list : List ℕ). IsPermutation list (flat_map (λ (list : List ℕ). list) changed ++ numbers behind))
      (sym (ap numbers (filter-append is_changing closing.front settled) ∙ map-append (number_of_entry made) front behind))
      (IsPermutation-append_left (numbers behind) (numbers front) (flat_map (λ (list : List ℕ). list) changed) all_handed_in)
