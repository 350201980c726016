-- A crew of workers: as it is cut it is ready, and when each has worked and found memory it has done its parts.
use Rattle.std.proofs.Common.{◌≡◌, ◌≢◌, ◌+◌, ◌-◌, ◌<◌, ℕ, false, List, [], ◌∷◌, ◌++◌, drop, length, slice_index_or, inl, inr, refl, sym, ap, ◌∙◌, subst, arith}
use Rattle.std.specs.List.{All, range_with_len}
use Rattle.std.proofs.lemmas.Bool.{cases_lt}
use Rattle.std.proofs.lemmas.List.{get_or-map, get_or_append_left, get_or_push, length-append, length-drop, length-map, length-take-le}
use Rattle.std.proofs.lemmas.List.FromFn.{get_or-range_with_len, length-range_with_len}
use Rattle.cells.specs.Tokens.{IsPassOf, PassValue, RoundValue, fresh_pass, fresh_passes}
use Rattle.chain.specs.Workers.{HasMade}
use Rattle.chain.proofs.Making.{made_none}
use Rattle.idfiles.specs.declared.id_record.IdRecord.{IdRecord}
use Rattle.dedup.specs.Crews.{AreCut, HasMemory, HasPart, HaveDone, IsCut, cut}
use Rattle.dedup.specs.Records.{asked_of}
use Rattle.dedup.specs.Workers.{Goes, HasDone, HasWorked, IsJob, IsReady, part_of}
use Rattle.dedup.specs.declared.worker.Stop.{Stop}
use Rattle.dedup.specs.declared.worker.Stop.TheVariants.{Finished, Refused, NoMemory}
use Rattle.dedup.specs.declared.worker.Worker.{Worker}
use Rattle.dedup.proofs.LawCuts.{cut_first, cut_last, cut_rises, cut_within, tiles_all}
use Rattle.dedup.proofs.LawLone.{serves_none}
use Rattle.dedup.proofs.LawLists.{numbers_in_row}

-- one worker more, cut as the others
pub cut_push : (passes : List PassValue) (len place : ℕ) (workers : List Worker) (worker : Worker) → length workers ≡ place
    → ((k : ℕ) (d : Worker) → k < place → IsCut passes len k (slice_index_or workers k d)) → IsCut passes len place worker
    → (k : ℕ) (d : Worker) → k < place + 1 → IsCut passes len k (slice_index_or (workers ++ worker ∷ []) k d)
cut_push passes len place workers worker long each is k d less =
    elim (cases_lt k place) as (λ _. IsCut passes len k (slice_index_or (workers ++ worker ∷ []) k d)) [
      | inl below ↦ subst (IsCut passes len k) (sym (get_or_append_left workers (worker ∷ []) d k (omega (arith, below, long)))) (each k d below)
      | inr past ↦
          let last : k ≡ length workers = omega (arith, less, past, long) in
          let here : place ≡ k = omega (arith, last, long) in
          subst (IsCut passes len k) (sym (get_or_push workers worker d k (sym last))) (subst (λ n. IsCut passes len n worker) here is)
    ]

-- what holds unless no memory was found, holds where it was found
with_memory : (stop : Stop) (Fact : Type 0) → stop ≢ NoMemory → Goes stop Fact → Fact
with_memory Finished Fact memory goes_on = goes_on
with_memory Refused Fact memory goes_on = goes_on
with_memory NoMemory Fact memory goes_on = absurd (memory refl)

-- the pass of a number, as the round begins
fresh_at : (round : RoundValue) (passes : List PassValue) (k : ℕ) (d : PassValue) → passes ≡ fresh_passes round → k < length passes
    → slice_index_or passes k d ≡ fresh_pass round k
fresh_at round passes k d are within =
    let range = range_with_len 0 round.facts.seats in
    let inside : k < length range = omega (arith, within, ap length are, length-map range (fresh_pass round)) in
    let below : k < round.facts.seats = omega (arith, inside, length-range_with_len 0 round.facts.seats) in
    let number : slice_index_or range k 0 ≡ k = omega (arith, get_or-range_with_len 0 round.facts.seats k 0 below) in
    ap (λ all. slice_index_or all k d) are ∙ get_or-map (fresh_pass round) range k 0 d inside ∙ ap (fresh_pass round) number

module _ (records : List IdRecord) (round : RoundValue) (left : List ℕ) (passes : List PassValue) (workers : List Worker)
    (job : IsJob records round left) (fresh : passes ≡ fresh_passes round) (cuts : AreCut passes (length left) workers) where
  abbrev parts : ℕ
  parts = length passes

  seated : parts ≡ round.facts.seats
  seated = ap length fresh ∙ length-map (range_with_len 0 round.facts.seats) (fresh_pass round) ∙ length-range_with_len 0 round.facts.seats

  some : 0 < parts
  some = omega (arith, seated, job.some_pass)

  -- the workers are ready
  pub crew_ready : All (IsReady records round left) workers
  crew_ready k d within =
      let worker = slice_index_or workers k d in
      let is = cuts.each k d within in
      let below : k < parts = omega (arith, within, cuts.count) in
      let pass : worker.pass ≡ fresh_pass round k = is.pass ∙ fresh_at round passes k worker.pass fresh below in
      let made : HasMade (asked_of records) round.plan.fast worker.hand.made.items worker.hand.changed.items false worker.pass =
      subst (λ (p : PassValue). HasMade (asked_of records) round.plan.fast worker.hand.made.items worker.hand.changed.items false p) (sym pass)
      (subst (λ (ns : List ℕ). HasMade (asked_of records) round.plan.fast ns worker.hand.changed.items false (fresh_pass round k)) (sym is.made)
      (subst (λ (ns : List ℕ). HasMade (asked_of records) round.plan.fast [] ns false (fresh_pass round k)) (sym is.changed)
      (made_none (asked_of records) round.plan.fast round k))) in
      record {
        ordered = omega (arith, is.from, is.to, cut_rises (length left) parts k some);
        within = omega (arith, is.to, cut_within (length left) parts (k + 1) (omega (arith, below)));
        stop = is.stop;
        none = is.made;
        begun = record {
          ours = subst (IsPassOf round) (sym pass) (record { table = refl; facts = refl });
          idle = ap (λ (p : PassValue). p.view.flight) pass;
          did = made;
          serves = serves_none records round worker.hand worker.pass k job.opened pass is.made;
        };
      }

  module _ (now : List Worker) (long : length now ≡ length workers)
      (worked : (k : ℕ) (d : Worker) → k < length workers
      → HasWorked records round left (slice_index_or workers k d) (slice_index_or now k d))
      (memory : All HasMemory now) where
    its_done : All (HasDone records round left) now
    its_done k d within =
        with_memory (slice_index_or now k d).hand.stop (HasDone records round left (slice_index_or now k d)) (memory k d within)
        (worked k d (omega (arith, within, long))).done

    its_part : All (HasPart left) now
    its_part k d within =
        let old = slice_index_or workers k d in
        let worker = slice_index_or now k d in
        let inside : k < length workers = omega (arith, within, long) in
        let ready = crew_ready k d inside in
        let same = worked k d inside in
        let done = its_done k d within in
        let part : length (part_of left worker) ≡ worker.to - worker.from =
        length-take-le (worker.to - worker.from) (drop worker.from left)
        (omega (arith, length-drop worker.from left, ready.within, same.to)) in
        record {
          begun = omega (
            arith,
            part,
            ap length done.front,
            length-append worker.hand.made.items done.rest,
            ready.ordered,
            same.from,
            same.to,
          );
          within = omega (arith, ready.within, same.to);
        }

    -- each has done its part
    pub crew_done : HaveDone records round left now
    crew_done =
        let count : length now ≡ round.facts.seats = long ∙ cuts.count ∙ seated in
        let numbered : (k : ℕ) (d : Worker) → k < length now → (slice_index_or now k d).pass.view.number ≡ k =
        λ k d within.
        let inside : k < length workers = omega (arith, within, long) in
        let below : k < parts = omega (arith, inside, cuts.count) in
        let old = slice_index_or workers k d in
        (worked k d inside).number
        ∙ ap (λ (p : PassValue). p.view.number) ((cuts.each k d inside).pass ∙ fresh_at round passes k old.pass fresh below) in
        record {
          each = its_done;
          parts = its_part;
          tiles = tiles_all left (cut (length left) parts) (λ number. cut_rises (length left) parts number some) now
              (λ k d within.
              let inside : k < length workers = omega (arith, within, long) in
              let is = cuts.each k d inside in
              let same = worked k d inside in
              let at : 0 + k ≡ k = omega arith in (
                same.from ∙ is.from ∙ ap (cut (length left) parts) (sym at),
                same.to ∙ is.to ∙ ap (λ n. cut (length left) parts (n + 1)) (sym at),
              ))
              (cut_first (length left) parts)
              (ap (cut (length left) parts) (long ∙ cuts.count) ∙ cut_last (length left) parts some);
          numbered = numbers_in_row (λ (worker : Worker). worker.pass.view.number) now numbered ∙ ap (range_with_len 0) count;
        }
