use Rattle.std.proofs.Common.{◌≡◌, ◌∷◌, ◌++◌, [], rules, refl, subst}
use Rattle.set_model.specs.declared.call.Call.TheVariants.{Insert}
use Rattle.hash_set.specs.Alone.{EndsCallAlone}
use Rattle.fset.specs.declared.outcomes.Outcome.{Outcome}
use Rattle.dedup.specs.Workers.{Goes, Serves}
use Rattle.dedup.proofs.LawGrowing.{goes_stays}
use Rattle.dedup.proofs.LawHands.{BeginsInsert, HasAsked, goes_answered, goes_refused, id_at, serves_answered}
use Rattle.dedup.proofs.worker.Hand.begin.Goals as goal

-- the insert was answered, and then the table grew or stayed
pub returns-in-Done-clause-begun : goal.returns-in-Done-clause-begun
returns-in-Done-clause-begun g c =
    let records = c.args.job.now.records.now in
    let round = c.args.job.now.round.now in
    let old = c.args.pass.now in
    let mid = c.insert-outcome.new.pass in
    let grown = c.grow_after.new.pass in
    let step : BeginsInsert records round c.args.number c.args.self.now old mid =
    record { before = c.requires.begun; begins = c.insert-outcome.ensures.pass; idle = c.insert-outcome.ensures.idle } in
    let made : c.note.new.self.made.items ≡ c.args.self.now.made.items ++ c.args.number ∷ [] = search rules in
    let asked : Goes c.note.result (HasAsked records round c.note.result c.note.new.self mid) =
    goes_answered step c.note.new.self made c.note.result c.in-Done.answered c.note.ensures.refused (search rules)
    c.note.ensures.changed in
    let serves : Goes c.note.result (Serves records round c.note.result c.note.new.self grown) =
    serves_answered step c.note.new.self made c.note.result c.in-Done.answered grown c.note.ensures.refused
    (λ one. subst (λ (o : Outcome). EndsCallAlone Insert (id_at records c.args.number) o old.view mid.view) c.in-Done.is
    (c.insert-outcome.ensures.ledger one)) c.grow_after.ensures.ledger in
    goes_stays records round c.note.result c.note.new.self mid grown c.note.ensures.refused c.grow_after.ensures.resizes asked serves

-- or refused
pub returns-in-Busy : goal.returns-in-Busy
returns-in-Busy g c =
    let records = c.args.job.now.records.now in
    let round = c.args.job.now.round.now in
    let step : BeginsInsert records round c.args.number c.args.self.now c.args.pass.now c.insert-outcome.new.pass =
    record { before = c.requires.begun; begins = c.insert-outcome.ensures.pass; idle = c.insert-outcome.ensures.idle } in
    let made : c.push.new.self.items ≡ c.args.self.now.made.items ++ c.args.number ∷ [] = search rules in
    record {
      pass = c.insert-outcome.ensures.pass.number;
      made = made;
      begun = goes_refused step (record c.args.self.now { made = c.push.new.self }) made c.insert-outcome.result c.in-Busy.is
          c.insert-outcome.ensures.answer c.insert-outcome.ensures.ledger refl;
    }
