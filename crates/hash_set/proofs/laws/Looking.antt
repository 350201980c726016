-- A key whose row was looked up, and which was then looked for in it, was looked at and nothing else.
use Rattle.std.proofs.Common.{◌≡◌, ⊎_elim, inl, inr, ℕ, ◌+◌, ◌≤◌, List, [], length, sym, ap, ◌∙◌, subst, add-zero, add_assoc, arith}
use mathlib.Core.List.{IsPrefix}
use Rattle.set_model.specs.declared.entry.Entry.{Entry}
use Rattle.step_core.specs.declared.views.PassView.{PassView}
use Rattle.step_core.specs.declared.views.StepCounts.{StepCounts}
use Rattle.step_core.specs.declared.published.RowBlock.{RowBlock}
use Rattle.cells.specs.Frames.{after_reads}
use Rattle.cells.specs.Known.{keys_at}
use Rattle.fset.specs.Frames.{Grows, KeepsOwn}
use Rattle.fset.specs.Looking.{LoadsBehind, LoadsEachOnce, LoadsInHead, LooksUp}
use Rattle.fset.specs.declared.seen.Seen.{Seen}
use Rattle.fset.proofs.laws.Frames.{grows_then, own_then, reads_grow, reads_own, widest-latest}
use Rattle.hash_set.specs.Calls.{OnlyLooks}

-- Reading sealed words loads no bucket more,
once_after : (loads head key : ℕ) (old between : PassView) → LoadsEachOnce head key old between
    → LoadsEachOnce head key old (after_reads loads between)
once_after loads head key old between once = ⊎_elim
    (λ (one : LoadsInHead head key old between).
    let still : LoadsEachOnce head key old (after_reads loads between) = inl (record {
      generation = one.generation;
      known = one.known;
      filled = one.filled;
      nils = one.nils;
      loads = one.loads;
    }) in still)
    (λ (two : LoadsBehind head key old between).
    let still : LoadsEachOnce head key old (after_reads loads between) = inr (record {
      generation = two.generation;
      known = two.known;
      nil = two.nil;
      found = two.found;
      nils = two.nils;
      source = two.source;
      before = two.before;
      filled = two.filled;
      loads = two.loads;
    }) in still)
    once

-- so it drew nothing and made no entry.
pub only_looks : (key : ℕ) (old between new : PassView) (seen : Seen) (loads : ℕ) → LooksUp key old seen between
    → loads ≤ length (keys_at between seen.at) → new ≡ after_reads loads between → OnlyLooks key old new
only_looks key old between new seen loads looks few same = record {
  learned = looks.learned;
  losses = looks.losses;
  few_losses = looks.few;
  grows = subst (λ (sum : ℕ). Grows looks.learned 0 sum old new) (add-zero looks.losses)
      (grows_then looks.learned [] 0 0 looks.losses 0 old between new looks.grows
      (subst (Grows [] 0 0 between) (sym same) (reads_grow loads between)));
  own = own_then old between new looks.own (subst (KeepsOwn between) (sym same) (reads_own loads between));
  head = looks.head;
  heads = ap (λ (view : PassView). view.heads) same ∙ looks.heads;
  further = subst (λ (front : List Entry). IsPrefix looks.head.front front) (sym (ap (λ (view : PassView). view.front) same)) looks.further;
  spent = ap (λ (view : PassView). view.spent) same ∙ looks.spent;
  hands = ap (λ (view : PassView). view.hands) same ∙ looks.hands;
  buckets = looks.buckets;
  few_buckets = looks.few_buckets;
  each_once = subst (LoadsEachOnce looks.head.at key old) (sym same) (once_after loads looks.head.at key old between looks.each_once);
  loads = looks.sealed + loads;
  few = omega (
    arith,
    few,
    looks.few_sealed,
    ap (λ (row : RowBlock). length row.keys) looks.is_row,
    widest-latest looks.learned looks.row looks.latest,
  );
  made = ap (λ (view : PassView). view.made) same
      ∙ ap (λ (made : StepCounts). record made { sealed_loads = made.sealed_loads + loads }) looks.made
      ∙ (λ i. record old.made {
        head_loads = old.made.head_loads + 1;
        sealed_loads = add_assoc old.made.sealed_loads looks.sealed loads i;
        bucket_loads = old.made.bucket_loads + looks.buckets;
      });
}
