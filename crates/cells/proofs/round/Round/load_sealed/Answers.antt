use Rattle.std.proofs.Common.{rules, refl}
use mathlib.Core.Option.{none}
use Rattle.atomic_table.specs.Table.{step}
use Rattle.step_core.specs.declared.kinds.Step.TheVariants.{LoadSealed}
use Rattle.cells.specs.Known.{KnowsSealed}
use Rattle.cells.specs.Moves.{load_sealed_tells}
use Rattle.cells.specs.Seats.{facts_of, pass_of}
use Rattle.cells.proofs.laws.Seats.{load_allows}
use Rattle.cells.proofs.laws.Within.{sealed_within}
use Rattle.cells.proofs.keeps.LoadSealed.{load_sealed_moves}
use Rattle.cells.proofs.round.Round.load_sealed.Goals as goal

-- whatever the round is, the pass may load a sealed word that it knows
pub load-requires : goal.load-requires
load-requires c =
    let seat = c.pass.inside.seat in
    let view = pass_of seat.me.0 in
    let at = c.before.before.before.args.at in
    let knows : KnowsSealed view at = search rules in
    let allowed = load_allows c.self.inside c.self.invariant seat.id seat.me at (LoadSealed at) load_sealed_tells c.pass.invariant.one (search rules)
    (sealed_within view c.pass.invariant.sound at knows).within refl (λ word. refl)
    (load_sealed_moves (facts_of c.self.inside.table.shared.key) view
    (step c.self.inside.table.shared.table_id.slots at 0 0 none) knows) in
    (search rules, allowed.0, allowed.1)
