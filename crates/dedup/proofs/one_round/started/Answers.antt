use Rattle.std.proofs.Common.{◌≡◌, ◌+◌, ◌<◌, length, ap, subst, arith}
use Rattle.rounds.specs.Starts.{RefusesStart, round_words}
use Rattle.step_core.specs.Limits.{max_words}
use Rattle.step_core.specs.Openings.{exponent_for, opening_words}
use Rattle.step_core.proofs.tables.OneExponent.{exponent_for-bound, exponent_for-least}
use Rattle.dedup.proofs.one_round.started.Goals as goal

-- an opening of that many keys, with the most room, isn't too wide
pub unreachable-requires : goal.unreachable-requires
unreachable-requires c =
    let keys = c.deref.result.now in
    let few : length keys ≡ length c.args.keys.items = ap length c.deref.ensures.value in
    let bound = exponent_for-bound (length keys) (exponent_for (length keys)) (exponent_for-least (length keys)) in
    let refused = subst (RefusesStart (round_words c.args.plan keys)) c.in-Err-TooWide.field-0-is c.in-Err-TooWide.ensures.refused in
    let wide : max_words < opening_words c.args.plan.seats keys + c.args.plan.room = refused.1 in
    omega (arith, bound, few, wide, c.requires.few, c.requires.plan.room, c.requires.plan.fits.few_passes)
