-- What a worker's hand says of its pass stays told with one insert more.
use Rattle.std.proofs.Common.{◌≡◌, ◌+◌, ◌<◌, ◌⊎◌, ℕ, true, false, if◌then◌else◌, List, [], ◌∷◌, ◌++◌, length, take, drop, None, slice_index, slice_index_or, inl, inr, refl, sym, ap, ◌∙◌, subst, arith}
use Rattle.std.proofs.lemmas.List.{length-append, take-append-drop, take_more}
use Rattle.set_model.specs.declared.call.Call.TheVariants.{Insert}
use Rattle.step_core.specs.Ledger.{write}
use Rattle.step_core.specs.declared.views.RoundFacts.{RoundFacts}
use Rattle.cells.specs.Lone.{EndsAs, ledger_of}
use Rattle.cells.specs.Tokens.{IsPassOf, PassValue, RoundValue}
use Rattle.fset.specs.Alone.{AnswersAlone}
use Rattle.fset.specs.declared.outcomes.Answered.{Answered}
use Rattle.fset.specs.declared.outcomes.Outcome.{Outcome}
use Rattle.fset.specs.declared.outcomes.Outcome.TheVariants.{Busy, Full}
use Rattle.hash_set.specs.Alone.{EndsCallAlone}
use Rattle.hash_set.specs.Calls.{AnswersCall, BeginsCall, EndsCall, LosesCall, RefusesCall}
use Rattle.chain.specs.Workers.{HasMade}
use Rattle.chain.proofs.Making.{made_answered, made_refused}
use Rattle.idfiles.specs.declared.id_record.IdRecord.{IdRecord}
use Rattle.dedup.specs.LoneRun.{after_insert, serve, served, serving_none}
use Rattle.dedup.specs.Records.{asked_of, ids_at, no_record}
use Rattle.dedup.specs.Workers.{Goes, GoesThrough, HasBegun, Serves, is_refused, serving_of}
use Rattle.dedup.specs.declared.worker.Hand.{Hand}
use Rattle.dedup.specs.declared.worker.Stop.{Stop}
use Rattle.dedup.specs.declared.worker.Stop.TheVariants.{Finished, Refused, NoMemory}
use Rattle.dedup.proofs.LawRecords.{asked_at-record, ids_at-append}
use Rattle.dedup.proofs.LawServing.{serve_answered, serve_refused, served-push}

-- what a hand says of its pass, but for the ledger
pub record HasAsked (records : List IdRecord) (round : RoundValue) (stop : Stop) (hand : Hand) (pass : PassValue) : Type 0 where
  pub ours : IsPassOf round pass
  pub idle : pass.view.flight ≡ None
  pub did : HasMade (asked_of records) round.plan.fast hand.made.items hand.changed.items (is_refused stop) pass

-- one insert more of a record was begun with the pass
pub record BeginsInsert (records : List IdRecord) (round : RoundValue) (number : ℕ) (hand : Hand) (old new : PassValue) : Type 0 where
  pub before : HasBegun records round Finished hand old
  pub begins : BeginsCall old new
  pub idle : new.view.flight ≡ None

-- the id of the record with the number
abbrev pub id_at : List IdRecord → ℕ → ℕ
id_at records number = (slice_index_or records number no_record).id

module _ {records : List IdRecord} {round : RoundValue} {number : ℕ} {hand : Hand} {old new : PassValue}
    (step : BeginsInsert records round number hand old new) (later : Hand)
    (made : later.made.items ≡ hand.made.items ++ number ∷ []) where
  ours : IsPassOf round new
  ours = record {
    table = step.begins.table ∙ step.before.ours.table;
    facts = step.begins.facts ∙ step.before.ours.facts;
  }

  did : (stop : Stop) (numbers : List ℕ) → later.changed.items ≡ numbers
      → HasMade (asked_of records) round.plan.fast (hand.made.items ++ number ∷ []) numbers (is_refused stop) new
      → HasAsked records round stop later new
  did stop numbers changed has = record {
    ours = ours;
    idle = step.idle;
    did = subst (λ all. HasMade (asked_of records) round.plan.fast all later.changed.items (is_refused stop) new) (sym made)
        (subst (λ all. HasMade (asked_of records) round.plan.fast (hand.made.items ++ number ∷ []) all (is_refused stop) new)
        (sym changed) has);
  }

  -- the insert was answered
  pub goes_answered : (stop : Stop) (answered : Answered) → is_refused stop ≡ false
      → AnswersCall round.plan.fast old.calls Insert (id_at records number) answered old.view new.view
      → Goes stop (later.changed.items
      ≡ (if answered.changed then hand.changed.items ++ number ∷ [] else hand.changed.items))
      → Goes stop (HasAsked records round stop later new)
  goes_answered Finished answered goes_on answers changed =
      did Finished (if answered.changed then hand.changed.items ++ number ∷ [] else hand.changed.items) changed
      (made_answered (asked_of records) round.plan.fast hand.made.items hand.changed.items number old new step.before.did
      step.begins round.plan.fast old.calls (id_at records number) answered refl (asked_at-record records number) answers)
  goes_answered Refused answered goes_on answers changed = absurd (cc)
  goes_answered NoMemory answered goes_on answers changed = tt

  refused : LosesCall round.plan.fast Insert (id_at records number) old.view new.view
      ⊎ RefusesCall round.plan.fast Insert (id_at records number) old.view new.view
      → later.changed.items ≡ hand.changed.items → HasAsked records round Refused later new
  refused cause changed =
      did Refused hand.changed.items changed
      (made_refused (asked_of records) round.plan.fast hand.made.items hand.changed.items number old new step.before.did
      step.begins (id_at records number) cause)

  -- the ledger with one insert more
  served_more : round.facts.seats ≡ 1
      → served round.plan.room (ids_at records later.made.items) (serving_none round.plan.room round.facts.keys)
      ≡ serve round.plan.room (id_at records number) (serving_of Finished hand old)
  served_more one =
      let room = round.plan.room in
      let first = serving_none room round.facts.keys in
      ap (λ (numbers : List ℕ). served room (ids_at records numbers) first) made
      ∙ ap (λ (ids : List ℕ). served room ids first) (ids_at-append records hand.made.items (number ∷ []))
      ∙ served-push room (ids_at records hand.made.items) (id_at records number) first
      ∙ ap (serve room (id_at records number)) (step.before.serves one)

  begun_more : length hand.made.items + 1 ≡ length later.made.items
  begun_more = omega (arith, ap length made, length-append hand.made.items (number ∷ []))

  -- an insert was answered, and then the table grew or not
  pub serves_answered : (stop : Stop) (answered : Answered) (grown : PassValue) → is_refused stop ≡ false
      → (old.view.facts.seats ≡ 1 → AnswersAlone Insert (id_at records number) answered old.view new.view)
      → (new.view.facts.seats ≡ 1
      → ledger_of grown.view ≡ after_insert round.plan.room answered.changed answered.width (ledger_of new.view))
      → Goes stop (Serves records round stop later grown)
  serves_answered Finished answered grown goes_on answers grows = λ one.
      let first_one : old.view.facts.seats ≡ 1 = ap (λ (facts : RoundFacts). facts.seats) step.before.ours.facts ∙ one in
      let second_one : new.view.facts.seats ≡ 1 = ap (λ (facts : RoundFacts). facts.seats) ours.facts ∙ one in
      served_more one
      ∙ serve_answered round.plan.room (id_at records number) (length hand.made.items) old.view grown.view answered new.view
      (answers first_one) (grows second_one)
      ∙ (λ i. record { ledger = ledger_of grown.view; begun = begun_more i; refused = false })
  serves_answered Refused answered grown goes_on answers grows = absurd (cc)
  serves_answered NoMemory answered grown goes_on answers grows = tt

  serves_refused : EndsAs (write Insert (id_at records number) (ledger_of old.view)) true new.view → round.facts.seats ≡ 1
      → served round.plan.room (ids_at records later.made.items) (serving_none round.plan.room round.facts.keys)
      ≡ serving_of Refused later new
  serves_refused ends one =
      served_more one
      ∙ serve_refused round.plan.room (id_at records number) (length hand.made.items) old.view new.view ends
      ∙ (λ i. record { ledger = ledger_of new.view; begun = begun_more i; refused = true })

  -- or refused
  pub goes_refused : (outcome : Outcome) → (outcome ≡ Busy) ⊎ (outcome ≡ Full)
      → EndsCall round.plan.fast old.calls Insert (id_at records number) outcome old.view new.view
      → (old.view.facts.seats ≡ 1 → EndsCallAlone Insert (id_at records number) outcome old.view new.view)
      → later.changed.items ≡ hand.changed.items → HasBegun records round Refused later new
  goes_refused outcome (inl is) ends alone changed =
      let asked = refused (inl (subst (λ o. EndsCall round.plan.fast old.calls Insert (id_at records number) o old.view new.view) is ends)) changed in
      record {
        ours = asked.ours;
        idle = asked.idle;
        did = asked.did;
        serves = λ one. absurd (subst (λ o. EndsCallAlone Insert (id_at records number) o old.view new.view) is
            (alone (ap (λ (facts : RoundFacts). facts.seats) step.before.ours.facts ∙ one)));
      }
  goes_refused outcome (inr is) ends alone changed =
      let asked = refused (inr (subst (λ o. EndsCall round.plan.fast old.calls Insert (id_at records number) o old.view new.view) is ends)) changed in
      record {
        ours = asked.ours;
        idle = asked.idle;
        did = asked.did;
        serves = λ one. serves_refused (subst (λ o. EndsCallAlone Insert (id_at records number) o old.view new.view) is
            (alone (ap (λ (facts : RoundFacts). facts.seats) step.before.ours.facts ∙ one))) one;
      }

-- where it was refused, a front of the part was begun
pub stops_part : (records : List IdRecord) (round : RoundValue) (part : List ℕ) (place : ℕ) (stop : Stop) (before later : Hand)
    (pass : PassValue) → place < length part → (stop ≡ Finished → ⊥) → before.made.items ≡ take place part
    → Goes stop (later.made.items ≡ before.made.items ++ slice_index part place ∷ []) → Goes stop (HasBegun records round stop later pass)
    → Goes stop (GoesThrough records round part stop later pass)
stops_part records round part place Finished before later pass within stopped so_far made begun = absurd (stopped refl)
stops_part records round part place Refused before later pass within stopped so_far made begun = record {
  begun = begun;
  rest = drop (place + 1) part;
  front = sym (take-append-drop (place + 1) part)
      ∙ ap (λ front. front ++ drop (place + 1) part)
      (take_more part place 0 within ∙ ap (λ front. front ++ slice_index part place ∷ []) (sym so_far) ∙ sym made);
  all = λ is. absurd (cc);
}
stops_part records round part place NoMemory before later pass within stopped so_far made begun = tt
