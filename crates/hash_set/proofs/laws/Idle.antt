-- Passes that are idle, each left so and with its number, are all of their round still.
use Rattle.std.proofs.Common.{◌≡◌, ℕ, ◌<◌, List, length, slice_index_or, All, None, refl, sym, subst, arith}
use Rattle.std.proofs.lemmas.List.Elements.{All-map}
use Rattle.std.specs.List.{range_with_len}
use Rattle.cells.specs.Tokens.{PassValue, RoundValue, fresh_pass, fresh_passes}
use Rattle.cells.proofs.laws.Fresh.{fresh_all, still_all}
use Rattle.hash_set.specs.Tests.{AreIdle, IsIdle}

-- what calls on some passes left of each
pub record EachIdle (round : RoundValue) (old new : List PassValue) : Type 0 where
  pub long : length new ≡ length old
  pub tables : (k : ℕ) (d : PassValue) → k < length old → (slice_index_or new k d).table ≡ round.table
  pub facts : (k : ℕ) (d : PassValue) → k < length old → (slice_index_or new k d).view.facts ≡ round.facts
  pub flights : (k : ℕ) (d : PassValue) → k < length old → (slice_index_or new k d).view.flight ≡ None
  pub numbers : (k : ℕ) (d : PassValue) → k < length old → (slice_index_or new k d).view.number ≡ (slice_index_or old k d).view.number

-- They are idle still.
pub still_idle : (round : RoundValue) (old new : List PassValue) → round.plan.turns ≡ 0 → EachIdle round old new → AreIdle round old
    → AreIdle round new
still_idle round old new plan each idle =
    let all = still_all round old new
    (record { long = each.long; tables = each.tables; facts = each.facts; numbers = each.numbers }) idle.all in
    record {
      all = all;
      idle = λ k d within. record {
        ours = all.ours k d within;
        flight = each.flights k d (omega (arith, within, each.long));
        plan = plan;
      };
    }

-- Of a round with an idle pass the plan announces nothing.
pub first_plan : (round : RoundValue) (passes : List PassValue) → All (IsIdle round) passes → 0 < length passes → round.plan.turns ≡ 0
first_plan round passes idle some = (idle 0 (fresh_pass round 0) some).plan

-- Passes as a round begins are idle.
pub fresh_idle : (round : RoundValue) (passes : List PassValue) → passes ≡ fresh_passes round → round.plan.turns ≡ 0 → AreIdle round passes
fresh_idle round passes are plan = subst (AreIdle round) (sym are) (record {
  all = fresh_all round;
  idle = All-map (IsIdle round) (fresh_pass round) (range_with_len 0 round.facts.seats)
      (λ k d lt. record { ours = record { table = refl; facts = refl }; flight = refl; plan = plan });
})
