-- How the parts of a call make its end, as the ledger of a pass that is the only one tells them.
use Rattle.std.proofs.Common.{◌≡◌, ℕ, ◌+◌, ◌≤◌, Bool, true, false, List, refl, sym, ap, ◌∙◌, subst}
use Rattle.std.specs.List.Sorted.{IsStrictlyIncreasing}
use Rattle.set_model.specs.History.{members_after}
use Rattle.set_model.specs.Keys.{is_in}
use Rattle.step_core.specs.Ledger.{Ledger, Outcome, and_then, and_then_where, done, fill, touch, touch_first}
use Rattle.step_core.specs.declared.views.PassView.{PassView}
use Rattle.step_core.proofs.ledgers.Touched.{touch-filled, touch-own, touch-untouched, touch_first-full, touch_first-next, touch_first-none}
use Rattle.step_core.proofs.lists.Histories.{IsStrictlyIncreasing-after, is_in-after}
use Rattle.cells.specs.Lone.{is_untouched, ledger_of, EndsAs, SameLedger}
use Rattle.cells.proofs.laws.Lone.{ledger_of-keys, ledger_of-untouched}

-- a first part that was Full ends the call
pub ends_full : (first : Outcome) (next : Ledger → Outcome) (new : PassView)
    → EndsAs first true new → EndsAs (and_then first next) true new
ends_full first next new ends =
    subst (λ (full : Bool). EndsAs (and_then_where full first (next first.ledger)) true new) ends.is_full ends

-- behind one that wasn't, the call ends as the next does
pub ends_then : (first : Outcome) (next : Ledger → Outcome) (full : Bool) (mid new : PassView)
    → EndsAs first false mid → EndsAs (next (ledger_of mid)) full new → EndsAs (and_then first next) full new
ends_then first next full mid new before after =
    let then_next : EndsAs (next first.ledger) full new = subst (λ (ledger : Ledger). EndsAs (next ledger) full new) before.ledger after in
    subst (λ (was : Bool). EndsAs (and_then_where was first (next first.ledger)) full new) before.is_full
    (record { is_full = then_next.is_full; ledger = then_next.ledger })

-- what leaves the ledger may come before
pub ends_from : (part : Ledger → Outcome) (full : Bool) (old mid new : PassView)
    → SameLedger old mid → EndsAs (part (ledger_of mid)) full new → EndsAs (part (ledger_of old)) full new
ends_from part full old mid new same ends = subst (λ (ledger : Ledger). EndsAs (part ledger) full new) same.ledger ends

-- or behind
pub ends_before : (outcome : Outcome) (full : Bool) (mid new : PassView)
    → EndsAs outcome full mid → SameLedger mid new → EndsAs outcome full new
ends_before outcome full mid new ends same = record { is_full = ends.is_full; ledger = same.ledger ∙ ends.ledger }

-- and it is a call that draws nothing
pub ends_same : (old new : PassView) → SameLedger old new → EndsAs (done (ledger_of old)) false new
ends_same old new same = record { is_full = refl; ledger = same.ledger }

-- The ledger's keys rise,
pub ledger_rises : (view : PassView) → IsStrictlyIncreasing view.facts.keys → IsStrictlyIncreasing (ledger_of view).keys
ledger_rises view rising =
    subst IsStrictlyIncreasing (sym (ledger_of-keys view)) (IsStrictlyIncreasing-after view.facts.keys view.front rising)

-- and are the members of the set after the front.
pub ledger_has : (view : PassView) → IsStrictlyIncreasing view.facts.keys → (key : ℕ)
    → is_in (ledger_of view).keys key ≡ members_after (is_in view.facts.keys) view.front key
ledger_has view rising key =
    ap (λ (keys : List ℕ). is_in keys key) (ledger_of-keys view) ∙ is_in-after view.facts.keys view.front rising key

-- The touch of a bucket fills it where it is untouched,
pub ends_fill : (bucket : ℕ) (full : Bool) (old new : PassView) → is_untouched old bucket ≡ true
    → EndsAs (fill bucket (ledger_of old)) full new → EndsAs (touch bucket (ledger_of old)) full new
ends_fill bucket full old new untouched ends =
    subst (λ (outcome : Outcome). EndsAs outcome full new)
    (sym (touch-untouched bucket (ledger_of old) (ledger_of-untouched old bucket ∙ untouched))) ends

-- does nothing where it isn't,
pub ends_filled : (bucket : ℕ) (old new : PassView) → is_untouched old bucket ≡ false
    → SameLedger old new → EndsAs (touch bucket (ledger_of old)) false new
ends_filled bucket old new filled same =
    subst (λ (outcome : Outcome). EndsAs outcome false new)
    (sym (touch-filled bucket (ledger_of old) (ledger_of-untouched old bucket ∙ filled))) (ends_same old new same)

-- and unless it is Full, the bucket isn't untouched behind it.
pub ends_touched : (bucket : ℕ) (old new : PassView) → EndsAs (touch bucket (ledger_of old)) false new → is_untouched new bucket ≡ false
ends_touched bucket old new ends =
    sym (ledger_of-untouched new bucket)
    ∙ ap (λ (ledger : Ledger). ledger.untouched bucket) ends.ledger
    ∙ touch-own bucket (ledger_of old) (sym ends.is_full)

-- To touch the first buckets begins with none,
pub ends_none : (view : PassView) → EndsAs (touch_first 0 (ledger_of view)) false view
ends_none view =
    subst (λ (outcome : Outcome). EndsAs outcome false view) (sym (touch_first-none (ledger_of view)))
    (record { is_full = refl; ledger = refl })

-- goes on with the next,
pub ends_next : (bucket : ℕ) (full : Bool) (old mid new : PassView) → EndsAs (touch_first bucket (ledger_of old)) false mid
    → EndsAs (touch bucket (ledger_of mid)) full new → EndsAs (touch_first (bucket + 1) (ledger_of old)) full new
ends_next bucket full old mid new before after =
    subst (λ (outcome : Outcome). EndsAs outcome full new) (sym (touch_first-next (ledger_of old) bucket))
    (ends_then (touch_first bucket (ledger_of old)) (touch bucket) full mid new before after)

-- and ends where one is Full.
pub ends_early : (count less : ℕ) (old new : PassView) → less ≤ count → EndsAs (touch_first less (ledger_of old)) true new
    → EndsAs (touch_first count (ledger_of old)) true new
ends_early count less old new within ends =
    subst (λ (outcome : Outcome). EndsAs outcome true new)
    (sym (touch_first-full (ledger_of old) count less within (sym ends.is_full))) ends
