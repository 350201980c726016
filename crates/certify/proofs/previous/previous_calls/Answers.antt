use Rattle.std.proofs.Common.{◌≡◌, ℕ, nat_eq, slice_index, ap, ◌∙◌, get_or, Option, unwrap_or, false, arith}
use Rattle.std.specs.HashMap.{get}
use Rattle.certify.specs.Place.{IsLast, callers}
use Rattle.certify.specs.declared.claimed.Claimed.{Claimed}
use Rattle.set_model.specs.declared.call.Call.TheVariants.{Insert}
use Rattle.certify.proofs.LoopPrevious.{last_goes_on, before_goes_on, caller_at}
use Rattle.certify.proofs.previous.previous_calls.Goals as goal

abbrev blank : Claimed
blank = record { who = 0; call = Insert; key = 0; answer = false }

pub loop-index-preserved : goal.loop-index-preserved
loop-index-preserved c =
    let k = c.loop-index.index in
    let made = caller_at c.args.calls.now k blank c.loop-index-test.true in
    let old : c.unwrap_or.result ≡ unwrap_or (get nat_eq c.loop-index.last (get_or c.args.calls.now k blank).who) 0 =
    c.unwrap_or.ensures ∙ ap (λ (o : Option ℕ). unwrap_or o 0) c.in_ok-before.ensures.old in
    let last : IsLast (callers c.args.calls.now) k (slice_index (callers c.args.calls.now) k) c.unwrap_or.result =
    rw (made, old) (c.loop-index.invariant.last (get_or c.args.calls.now k blank).who) in
    record {
      count = omega (arith, c.loop-index.invariant.count, c.in_ok-push.ensures.len);
      before = rw c.in_ok-push.ensures.items (before_goes_on (callers c.args.calls.now) c.loop-index.previous.items k c.unwrap_or.result
          (omega (arith, c.loop-index.previous.ok, c.loop-index.invariant.count))
          c.loop-index.invariant.before last);
      last = last_goes_on (callers c.args.calls.now) k (get_or c.args.calls.now k blank).who (get nat_eq c.loop-index.last)
          (get nat_eq c.insert.new.self) made
          c.in_ok-before.ensures.updates.0 c.loop-index.invariant.last;
    }
