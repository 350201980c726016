use Rattle.std.proofs.Common.{◌≡◌, ◌<◌, ◌++◌, ℕ, List, drop, length, slice_index_or, take, sym, ap, ◌∙◌, subst, arith}
use Rattle.std.specs.List.{All}
use Rattle.std.proofs.lemmas.List.{length-map}
use Rattle.std.proofs.lemmas.List.FromFn.{length-range_with_len}
use Rattle.std.specs.List.{range_with_len}
use Rattle.cells.specs.Tokens.{fresh_pass}
use Rattle.dedup.specs.Crews.{HasMemory, HaveDone}
use Rattle.dedup.specs.Workers.{HasWorked, IsReady}
use Rattle.dedup.specs.declared.worker.Worker.{Worker}
use Rattle.dedup.proofs.LawCrews.{crew_done, crew_ready}
use Rattle.cells.proofs.laws.Fresh.{written_back}
use Rattle.dedup.proofs.one_round.worked.Goals as goal

-- there are as many passes as the round has
pub workers_of-requires-clause-passes : goal.workers_of-requires-clause-passes
workers_of-requires-clause-passes g c =
    let seats = c.args.job.now.round.now.facts.seats in
    omega (
      arith,
      ap length c.requires.passes,
      length-map (range_with_len 0 seats) (fresh_pass c.args.job.now.round.now),
      length-range_with_len 0 seats,
      c.requires.job.few_passes,
    )

-- the workers are ready
pub work_all-requires-clause-ready : goal.work_all-requires-clause-ready
work_all-requires-clause-ready g c κs outlives =
    let records = c.args.job.now.records.now in
    let round = c.args.job.now.round.now in
    subst (λ (all : List Worker). All (IsReady records round c.args.left.now) all) (sym c.as_mut_slice.ensures.value)
    (crew_ready records round c.args.left.now c.args.passes.items c.in_ok-workers.workers.items c.requires.job c.requires.passes
    c.in_ok-workers.ensures)

-- each has done its part
pub returns : goal.returns
returns g c =
    let records = c.args.job.now.records.now in
    let round = c.args.job.now.round.now in
    let left = c.args.left.now in
    let items : List Worker = c.in_ok-workers.workers.items in
    let new : List Worker = c.work_all.new.workers in
    let same : c.as_mut_slice.result.now ≡ items = c.as_mut_slice.ensures.value in
    let long : length new ≡ length items = c.work_all.ensures.count ∙ ap length same in
    let back : take c.in_ok-workers.workers.len (new ++ drop (length new) items) ≡ new =
    written_back items new c.in_ok-workers.workers.len long (omega (arith, c.in_ok-workers.workers.ok)) in
    let memory : All HasMemory new =
    subst (λ (all : List Worker). All HasMemory all) (c.deref.ensures.value ∙ back) (c.has_failed.ensures c.if-has_failed.false) in
    let worked : (k : ℕ) (d : Worker) → k < length items
    → HasWorked records round left (slice_index_or items k d) (slice_index_or new k d) =
    subst (λ (old : List Worker). (k : ℕ) (d : Worker) → k < length old
    → HasWorked records round left (slice_index_or old k d) (slice_index_or new k d)) same c.work_all.ensures.worked in
    subst (λ (all : List Worker). HaveDone records round left all) (sym back)
    (crew_done records round left c.args.passes.items items c.requires.job c.requires.passes c.in_ok-workers.ensures new long worked memory)
