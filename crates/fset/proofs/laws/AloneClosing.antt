-- A bucket that the only pass of a round froze, and its row read: the ledger stays, and the row has what the set has of untouched buckets.
use Rattle.std.proofs.Common.{◌≡◌, ℕ, ◌+◌, sym, ap, ◌∙◌, subst}
use Rattle.set_model.specs.Keys.{is_in}
use Rattle.step_core.specs.Format.{row_address}
use Rattle.step_core.specs.declared.format.TheConstants.{FIRST_BUCKET}
use Rattle.step_core.specs.declared.published.RowBlock.{RowBlock}
use Rattle.step_core.specs.declared.views.PassView.{PassView}
use Rattle.cells.specs.Freezing.{FreezesAlone, FreezesBucket}
use Rattle.cells.specs.Known.{row_at, IsBucketWord}
use Rattle.cells.specs.Sound.{IsSound}
use Rattle.fset.specs.Alone.{ClosesAlone}
use Rattle.fset.specs.Seen.{ReadsRow}
use Rattle.fset.specs.declared.seen.Seen.{Seen}
use Rattle.fset.proofs.laws.AloneRows.{ledger_has, same_then, still_alone}
use Rattle.fset.proofs.laws.Closing.{named}

module _ (at bucket : ℕ) (v0 v1 : PassView) (word : ℕ) (freezes : FreezesBucket (at + FIRST_BUCKET + bucket) v0 word v1)
    (v2 : PassView) (seen : Seen) (reads : ReadsRow (row_address word) v1 seen v2) (sound : IsSound v0) (sound_now : IsSound v2) where
  -- the row that was read is the bucket's
  read_row : row_at v2.known seen.at ≡ freezes.row
  read_row = ap (row_at v2.known) reads.place ∙ reads.same ∙ named at bucket v0 v1 word freezes

  -- So far it has no operation, and so it has those keys.
  pub closed_alone : (alone : v0.facts.seats ≡ 1) → FreezesAlone (at + FIRST_BUCKET + bucket) v0 freezes.row v1
      → ClosesAlone at bucket v0 seen v2
  closed_alone alone tells = record {
    same = same_then v0 v1 v2 tells.same
        (reads.alone (still_alone v0 v1 (ap (λ (view : PassView). view.facts) freezes.view) alone));
    agrees = λ source is_word before key class untouched.
        ap (λ (row : RowBlock). is_in row.keys key) read_row
        ∙ tells.agrees bucket source
        (subst (λ (a : ℕ). IsBucketWord v0 (at + FIRST_BUCKET + bucket) a bucket source) (sym before) is_word)
        (sym (ap (λ (row : RowBlock). row.op) read_row) ∙ sound_now.no_op seen.at (row_at v2.known seen.at) reads.agrees.known)
        key class untouched
        ∙ sym (ledger_has v0 key sound);
  }
