use Rattle.std.proofs.Common.{rules, refl}
use mathlib.Core.Option.{none}
use Rattle.atomic_table.specs.Table.{step}
use Rattle.step_core.specs.declared.kinds.Step.TheVariants.{LoadHead}
use Rattle.step_core.specs.declared.format.TheConstants.{HEAD}
use Rattle.cells.specs.Moves.{load_head_tells}
use Rattle.cells.specs.Seats.{facts_of, pass_of}
use Rattle.cells.proofs.laws.Seats.{load_allows}
use Rattle.cells.proofs.laws.Within.{fixed_within}
use Rattle.cells.proofs.keeps.LoadHead.{load_head_moves}
use Rattle.cells.proofs.round.Round.load_head.Goals as goal

-- whatever the round is, the pass may load the head
pub load-requires : goal.load-requires
load-requires c =
    let seat = c.pass.inside.seat in
    let view = pass_of seat.me.0 in
    let allowed = load_allows c.self.inside c.self.invariant seat.id seat.me HEAD LoadHead load_head_tells c.pass.invariant.one (search rules)
    (fixed_within view c.pass.invariant.sound) refl (λ word. refl)
    (load_head_moves (facts_of c.self.inside.table.shared.key) view
    (step c.self.inside.table.shared.table_id.slots HEAD 0 0 none)) in
    (search rules, allowed.0, allowed.1)
