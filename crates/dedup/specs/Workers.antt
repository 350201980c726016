-- What a worker of a round does with its part of the records, and what it hands in.
use Rattle.std.specs.Prelude.{◌≡◌, ⊤, ℕ, ◌<◌, ◌≤◌, Bool, true, false, List, [], ◌++◌, length, slice_range, All, None}
use Rattle.cells.specs.Lone.{ledger_of}
use Rattle.cells.specs.Tokens.{IsPassOf, PassValue, RoundValue}
use Rattle.chain.specs.Workers.{HasMade}
use Rattle.idfiles.specs.declared.id_record.IdRecord.{IdRecord}
use Rattle.step_core.specs.Limits.{max_keys, max_passes}
use Rattle.step_core.specs.Openings.{opening_facts}
use Rattle.rounds.specs.Starts.{round_words}
use Rattle.dedup.specs.LoneRun.{Serving, served, serving_none}
use Rattle.dedup.specs.Records.{asked_of, ids_at}
use Rattle.dedup.specs.declared.worker.Hand.{Hand}
use Rattle.dedup.specs.declared.worker.Stop.{Stop}
use Rattle.dedup.specs.declared.worker.Stop.TheVariants.{Finished, Refused, NoMemory}
use Rattle.dedup.specs.declared.worker.Worker.{Worker}

-- whether the last insert was refused
abbrev pub is_refused : Stop → Bool
is_refused Finished = false
is_refused Refused = true
is_refused NoMemory = false

-- it is so, unless no memory was found
abbrev pub Goes : Stop → Type 0 → Type 0
Goes Finished Fact = Fact
Goes Refused Fact = Fact
Goes NoMemory Fact = ⊤

-- the ledger of the round's only pass, how many inserts were begun with it, and whether the last was
-- refused
abbrev pub serving_of : Stop → Hand → PassValue → Serving
serving_of stop hand pass = record {
  ledger = ledger_of pass.view;
  begun = length hand.made.items;
  refused = is_refused stop;
}

-- where the round has no other pass, that is what the hand's inserts make of the ledger that it began with
abbrev pub Serves : List IdRecord → RoundValue → Stop → Hand → PassValue → Type 0
Serves records round stop hand pass = round.facts.seats ≡ 1
    → served round.plan.room (ids_at records hand.made.items)
    (serving_none round.plan.room round.facts.keys) ≡ serving_of stop hand pass

-- with this pass of the round the inserts of the hand's records were begun
pub record HasBegun (records : List IdRecord) (round : RoundValue) (stop : Stop) (hand : Hand)
    (pass : PassValue) : Type 0 where
  pub ours : IsPassOf round pass
  pub idle : pass.view.flight ≡ None
  pub did : HasMade (asked_of records) round.plan.fast hand.made.items hand.changed.items
      (is_refused stop) pass
  pub serves : Serves records round stop hand pass

-- the round has a pass and few, began with an opening for its keys and has its room behind it, and
-- announces nothing, and these are the numbers of records
pub record IsJob (records : List IdRecord) (round : RoundValue) (left : List ℕ) : Type 0 where
  pub opened : round.facts ≡ opening_facts round.plan.seats (round_words round.plan round.facts.keys) round.facts.keys
  pub some_pass : 0 < round.facts.seats
  pub few_passes : round.facts.seats ≤ max_passes
  pub plan : round.plan.turns ≡ 0
  pub numbers : All (λ number. number < length records) left
  pub few : length left ≤ max_keys

-- the numbers of the worker's part
abbrev pub part_of : List ℕ → Worker → List ℕ
part_of left worker = slice_range left worker.from worker.to

-- the worker did nothing yet
pub record IsReady (records : List IdRecord) (round : RoundValue) (left : List ℕ) (worker : Worker)
    : Type 0 where
  pub ordered : worker.from ≤ worker.to
  pub within : worker.to ≤ length left
  pub stop : worker.hand.stop ≡ Finished
  pub none : worker.hand.made.items ≡ []
  pub begun : HasBegun records round Finished worker.hand worker.pass

-- with the pass the inserts of these records were begun, in order, all or up to one that was refused
pub record GoesThrough (records : List IdRecord) (round : RoundValue) (part : List ℕ) (stop : Stop)
    (hand : Hand) (pass : PassValue) : Type 0 where
  pub begun : HasBegun records round stop hand pass
  pub rest : List ℕ
  pub front : part ≡ hand.made.items ++ rest
  pub all : is_refused stop ≡ false → rest ≡ []

-- so the worker did with its part
abbrev pub HasDone : List IdRecord → RoundValue → List ℕ → Worker → Type 0
HasDone records round left worker = GoesThrough records round (part_of left worker)
    worker.hand.stop worker.hand worker.pass

-- so it did, unless it found no memory; its part and its pass's number are as they were
pub record HasWorked (records : List IdRecord) (round : RoundValue) (left : List ℕ)
    (old new : Worker) : Type 0 where
  pub from : new.from ≡ old.from
  pub to : new.to ≡ old.to
  pub number : new.pass.view.number ≡ old.pass.view.number
  pub done : Goes new.hand.stop (HasDone records round left new)
