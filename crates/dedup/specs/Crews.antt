-- The workers of a round together: how the records are cut among them, and what they leave.
use Rattle.std.specs.Prelude.{◌≡◌, ◌≢◌, ℕ, ◌+◌, ◌*◌, ◌/◌, ◌<◌, ◌≤◌, List, [], flat_map, length, map, slice_index_or, slice_range, All}
use Rattle.std.specs.List.{range_with_len}
use Rattle.cells.specs.Tokens.{PassValue, RoundValue}
use Rattle.idfiles.specs.declared.id_record.IdRecord.{IdRecord}
use Rattle.dedup.specs.Workers.{HasDone, part_of}
use Rattle.dedup.specs.declared.worker.Stop.TheVariants.{Finished, NoMemory}
use Rattle.dedup.specs.declared.worker.Worker.{Worker}

-- where the part with the number begins, of so many parts of a list of this length
abbrev pub cut : ℕ → ℕ → ℕ → ℕ
cut len parts number = number * len / parts

-- the worker has the pass of its number and its part, and did nothing yet
pub record IsCut (passes : List PassValue) (len number : ℕ) (worker : Worker) : Type 0 where
  pub pass : worker.pass ≡ slice_index_or passes number worker.pass
  pub from : worker.from ≡ cut len (length passes) number
  pub to : worker.to ≡ cut len (length passes) (number + 1)
  pub stop : worker.hand.stop ≡ Finished
  pub made : worker.hand.made.items ≡ []
  pub changed : worker.hand.changed.items ≡ []

-- so it is with a worker for each pass
pub record AreCut (passes : List PassValue) (len : ℕ) (workers : List Worker) : Type 0 where
  pub count : length workers ≡ length passes
  pub each : (k : ℕ) (d : Worker) → k < length workers
      → IsCut passes len k (slice_index_or workers k d)

-- the worker found memory for all that it noted
abbrev pub HasMemory : Worker → Type 0
HasMemory worker = worker.hand.stop ≢ NoMemory

-- its part lies in the list, and is long enough for the records that it came to
pub record HasPart (left : List ℕ) (worker : Worker) : Type 0 where
  pub begun : worker.from + length worker.hand.made.items ≤ worker.to
  pub within : worker.to ≤ length left

-- the numbers of its part to which it didn't come
abbrev pub rest_of : List ℕ → Worker → List ℕ
rest_of left worker = slice_range left (worker.from + length worker.hand.made.items) worker.to

-- the workers of a round did their parts, into which the list is cut
pub record HaveDone (records : List IdRecord) (round : RoundValue) (left : List ℕ)
    (workers : List Worker) : Type 0 where
  pub each : All (HasDone records round left) workers
  pub parts : All (HasPart left) workers
  pub tiles : flat_map (part_of left) workers ≡ left
  pub numbered : map (λ worker. worker.pass.view.number) workers
      ≡ range_with_len 0 round.facts.seats
