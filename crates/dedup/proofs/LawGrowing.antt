-- A resize leaves what a worker's hand says of its pass.
use Rattle.std.proofs.Common.{◌≡◌, ℕ, false, List, sym, ap, ◌∙◌, subst}
use mathlib.Core.List.{IsPrefix}
use Rattle.step_core.specs.declared.views.PassView.{PassView}
use Rattle.cells.specs.Tokens.{IsSamePass, PassValue, RoundValue}
use Rattle.fset.specs.Frames.{KeepsOwn}
use Rattle.buckets.specs.Resizing.{EndsResize, IsExponent}
use Rattle.buckets.specs.declared.outcomes.Resized.{Resized}
use Rattle.buckets.specs.declared.outcomes.Resized.TheVariants.{Changed, Moved, AtLimit, Full}
use Rattle.chain.specs.Workers.{HasMade}
use Rattle.chain.proofs.Making.{made_stays}
use Rattle.idfiles.specs.declared.id_record.IdRecord.{IdRecord}
use Rattle.dedup.specs.Growing.{OnlyResizes}
use Rattle.dedup.specs.Records.{asked_of}
use Rattle.dedup.specs.Workers.{Goes, HasBegun, Serves, is_refused}
use Rattle.dedup.specs.declared.worker.Hand.{Hand}
use Rattle.dedup.specs.declared.worker.Stop.{Stop}
use Rattle.dedup.specs.declared.worker.Stop.TheVariants.{Finished, Refused, NoMemory}
use Rattle.dedup.proofs.LawHands.{HasAsked}

-- what a pass leaves that made no call: its front only grew, and it has no entry more
pub record MakesNoCall (old new : PassView) : Type 0 where
  pub front : IsPrefix old.front new.front
  pub own : KeepsOwn old new

-- a look at the exponent makes none,
pub exponent_makes_none : (exponent : ℕ) (old new : PassView) → IsExponent exponent old new → MakesNoCall old new
exponent_makes_none exponent old new (at, loads) =
    let head = loads.loads in
    record {
      front = subst (IsPrefix old.front)
          (sym (ap (λ (view : PassView). view.front) loads.same ∙ ap (λ (view : PassView). view.front) head.view)) head.grows;
      own = record {
        mine = ap (λ (view : PassView). view.mine) loads.same ∙ ap (λ (view : PassView). view.mine) head.view;
        flight = ap (λ (view : PassView). view.flight) loads.same ∙ ap (λ (view : PassView). view.flight) head.view;
        used = ap (λ (view : PassView). view.used) loads.same ∙ ap (λ (view : PassView). view.used) head.view;
      };
    }

-- nor does a resize, however it ends
pub resize_makes_none : (limit : ℕ) (IsNext : ℕ → ℕ → Type 0) (resized : Resized) (old new : PassView)
    → EndsResize limit IsNext resized old new → MakesNoCall old new
resize_makes_none limit IsNext (Changed exponent) old new ends = record { front = ends.resizes.spends.grows.front; own = ends.resizes.own }
resize_makes_none limit IsNext (Moved head) old new ends = record { front = ends.resizes.spends.grows.front; own = ends.resizes.own }
resize_makes_none limit IsNext AtLimit old new ends = exponent_makes_none limit old new ends
resize_makes_none limit IsNext Full old new ends = record { front = ends.resizes.spends.grows.front; own = ends.resizes.own }

-- so it is a pass that only resized,
pub only_resizes : (old new : PassValue) → IsSamePass old new → MakesNoCall old.view new.view → OnlyResizes old new
only_resizes old new same none = record { same = same; front = none.front; own = none.own }

-- and what it did so far stays told
pub begun_stays : (records : List IdRecord) (round : RoundValue) (stop : Stop) (hand : Hand) (old new : PassValue)
    → is_refused stop ≡ false → HasAsked records round stop hand old → OnlyResizes old new → Serves records round stop hand new
    → HasBegun records round stop hand new
begun_stays records round stop hand old new goes_on begun resizes serves = record {
  ours = record {
    table = resizes.same.table ∙ begun.ours.table;
    facts = resizes.same.facts ∙ begun.ours.facts;
  };
  idle = resizes.own.flight ∙ begun.idle;
  did = subst (λ refused. HasMade (asked_of records) round.plan.fast hand.made.items hand.changed.items refused new) (sym goes_on)
      (made_stays (asked_of records) round.plan.fast hand.made.items hand.changed.items old new
      (subst (λ refused. HasMade (asked_of records) round.plan.fast hand.made.items hand.changed.items refused old) goes_on begun.did)
      resizes.same resizes.front resizes.own);
  serves = serves;
}

-- however the worker stopped that found memory
pub goes_stays : (records : List IdRecord) (round : RoundValue) (stop : Stop) (hand : Hand) (old new : PassValue)
    → is_refused stop ≡ false → OnlyResizes old new → Goes stop (HasAsked records round stop hand old)
    → Goes stop (Serves records round stop hand new) → Goes stop (HasBegun records round stop hand new)
goes_stays records round Finished hand old new goes_on resizes begun serves =
    begun_stays records round Finished hand old new goes_on begun resizes serves
goes_stays records round Refused hand old new goes_on resizes begun serves = absurd (cc)
goes_stays records round NoMemory hand old new goes_on resizes begun serves = tt
