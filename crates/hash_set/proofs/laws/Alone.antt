-- How the calls end for a pass that is the only one: as its ledger says.
use Rattle.std.proofs.Common.{◌≡◌, ℕ, Bool, List, sym, ap, ◌∙◌, subst}
use Rattle.std.specs.List.Sorted.{IsStrictlyIncreasing}
use Rattle.set_model.specs.Keys.{is_in}
use Rattle.step_core.specs.Rising.{keys_after}
use Rattle.step_core.specs.declared.views.PassView.{PassView}
use Rattle.step_core.proofs.lists.Histories.{is_in-after}
use Rattle.cells.specs.Frames.{after_reads}
use Rattle.cells.specs.Lone.{SameLedger}
use Rattle.cells.proofs.laws.Lone.{ledger_of-keys}
use Rattle.fset.specs.Content.{Agrees, seen_content}
use Rattle.fset.specs.declared.seen.Seen.{Seen}
use Rattle.fset.proofs.laws.AloneRows.{reads_same, same_then, still_alone}
use Rattle.hash_set.specs.Alone.{LooksAlone}

-- The only pass loses no turn, so what its turn ended as is what its call ends as.
pub first_turn : (Ends : PassView → Type 0) (old between : PassView) → between.facts ≡ old.facts → (old.facts.seats ≡ 1 → between ≡ old)
    → (between.facts.seats ≡ 1 → Ends between) → old.facts.seats ≡ 1 → Ends old
first_turn Ends old between facts first ends alone = subst Ends (first alone) (ends (still_alone old between facts alone))

-- A look-up is answered by the ledger, which stays.
pub looks_alone : (key loads : ℕ) (answer : Bool) (seen : Seen) (v0 v1 v2 : PassView) → IsStrictlyIncreasing v1.facts.keys
    → v1.facts ≡ v0.facts → (v0.facts.seats ≡ 1 → SameLedger v0 v1) → answer ≡ seen_content v1 seen key → Agrees v1 seen key
    → v2 ≡ after_reads loads v1 → v0.facts.seats ≡ 1 → LooksAlone key answer v0 v2
looks_alone key loads answer seen v0 v1 v2 rising facts looks found agrees reads alone =
    let same : SameLedger v0 v1 = looks alone in
    record {
      same = same_then v0 v1 v2 same (subst (SameLedger v1) (sym reads) (reads_same loads v1));
      is_answer = found
          ∙ agrees
          ∙ sym (is_in-after v1.facts.keys v1.front rising key)
          ∙ (λ i. is_in (keys_after (facts i).keys (same.front i)) key)
          ∙ ap (λ (keys : List ℕ). is_in keys key) (sym (ledger_of-keys v0));
    }
