-- Where the published operations and their results are those that were, an operation in flight has the entry that it had.
use Rattle.std.proofs.Common.{◌≡◌, ℕ, [], Option, Some, None, refl, sym, ◌∙◌}
use Rattle.step_core.specs.declared.published.Published.{Published}
use Rattle.step_core.specs.declared.published.Published.TheVariants.{Generation, Row, Op}
use Rattle.step_core.specs.declared.published.OpBlock.{OpBlock}
use Rattle.step_core.proofs.changes.Held.{KeepsOps}
use Rattle.cells.specs.Past.{decided_entry, flying_entry}

-- what isn't an operation has no entry
no_entry : (block : Option Published) (result : ℕ) → ((op : OpBlock) → block ≡ Some (Op op) → ⊥) → decided_entry block result ≡ []
no_entry None result none = refl
no_entry (Some (Generation generation)) result none = refl
no_entry (Some (Row row)) result none = refl
no_entry (Some (Op op)) result none = absurd (none op refl)

module _ {blocks : ℕ → Option Published} {cells : ℕ → ℕ → ℕ} {new_blocks : ℕ → Option Published} {new_cells : ℕ → ℕ → ℕ}
    (keeps : KeepsOps blocks cells new_blocks new_cells) where
  -- where no operation was published, none is
  none_decided : (at : ℕ) → ((op : OpBlock) → blocks at ≡ Some (Op op) → ⊥)
      → decided_entry (new_blocks at) (new_cells at 0) ≡ decided_entry (blocks at) (cells at 0)
  none_decided at none =
      no_entry (new_blocks at) (new_cells at 0) (λ op here. none op (keeps.was at op here))
      ∙ sym (no_entry (blocks at) (cells at 0) none)

  -- so what is published there has the entry that it had
  same_decided : (at : ℕ) (block : Option Published) → blocks at ≡ block
      → decided_entry (new_blocks at) (new_cells at 0) ≡ decided_entry (blocks at) (cells at 0)
  same_decided at None is = none_decided at (λ op here. let e : None ≡ Some (Op op) = sym is ∙ here in cc)
  same_decided at (Some (Generation generation)) is =
      none_decided at (λ op here. let e : Some (Generation generation) ≡ Some (Op op) = sym is ∙ here in cc)
  same_decided at (Some (Row row)) is = none_decided at (λ op here. let e : Some (Row row) ≡ Some (Op op) = sym is ∙ here in cc)
  same_decided at (Some (Op op)) is =
      let block : new_blocks at ≡ blocks at = keeps.stays at op is ∙ sym is in
      let result : new_cells at 0 ≡ cells at 0 = keeps.result at op is in
      λ i. decided_entry (block i) (result i)

  -- An operation in flight has the entry that it had.
  pub flying_same : (flight : Option ℕ) → flying_entry new_blocks new_cells flight ≡ flying_entry blocks cells flight
  flying_same None = refl
  flying_same (Some at) = same_decided at (blocks at) refl
