use Rattle.std.proofs.Common.{rules, refl}
use mathlib.Core.Option.{none}
use Rattle.atomic_table.specs.Table.{step}
use Rattle.step_core.specs.declared.kinds.Step.TheVariants.{LoadBucket}
use Rattle.cells.specs.Known.{KnowsBucket}
use Rattle.cells.specs.Moves.{load_bucket_tells}
use Rattle.cells.specs.Seats.{facts_of, pass_of}
use Rattle.cells.proofs.laws.Seats.{load_allows}
use Rattle.cells.proofs.laws.Within.{bucket_within}
use Rattle.cells.proofs.keeps.LoadBucket.{load_bucket_moves}
use Rattle.cells.proofs.round.Round.load_bucket.Goals as goal

-- whatever the round is, the pass may load a bucket word of a generation that it knows
pub load-requires : goal.load-requires
load-requires c =
    let seat = c.pass.inside.seat in
    let view = pass_of seat.me.0 in
    let at = c.before.before.before.args.at in
    let knows : KnowsBucket view at = search rules in
    let allowed = load_allows c.self.inside c.self.invariant seat.id seat.me at (LoadBucket at) load_bucket_tells c.pass.invariant.one (search rules)
    (bucket_within view c.pass.invariant.sound at knows).within refl (λ word. refl)
    (load_bucket_moves (facts_of c.self.inside.table.shared.key) view
    (step c.self.inside.table.shared.table_id.slots at 0 0 none) knows) in
    (search rules, allowed.0, allowed.1)
