use Rattle.std.proofs.Common.{◌≡◌, ◌+◌, ◌*◌, ◌/◌, ◌<◌, ℕ, [], ◌∷◌, ◌++◌, drop, length, replicate, slice_index_or, sym, ap, ◌∙◌, subst, arith}
use Rattle.std.proofs.lemmas.List.{drop-drop, get_or-drop, length_push}
use Rattle.dedup.specs.Crews.{IsCut}
use Rattle.dedup.specs.declared.worker.Worker.{Worker}
use Rattle.dedup.proofs.LawCrews.{cut_push}
use Rattle.dedup.proofs.crew.workers_of.Goals as goal

-- one worker more
pub loop-place-preserved : goal.loop-place-preserved
loop-place-preserved c =
    let place = c.loop-place.place in
    let passes = c.args.passes.items in
    let count : c.len-count.result ≡ length passes = c.loop-place.invariant.count in
    let worker : Worker = record {
      pass = c.remove.result;
      from = place * c.args.len / c.len-count.result;
      to = (place + 1) * c.args.len / c.len-count.result;
      hand = c.new.result;
      apart = replicate 16 0;
    } in
    let pushed : c.push.new.self.items ≡ c.loop-place.workers.items ++ worker ∷ [] = c.in_ok-push.ensures.items in
    let here : c.remove.result ≡ slice_index_or passes place c.remove.result =
    c.remove.ensures.value ∙ ap (λ all. slice_index_or all 0 c.remove.result) c.loop-place.invariant.left
    ∙ get_or-drop place passes 0 c.remove.result ∙ ap (λ n. slice_index_or passes n c.remove.result) (omega arith) in
    let is : IsCut passes c.args.len place worker = record {
      pass = here;
      from = ap (λ n. place * c.args.len / n) count;
      to = ap (λ n. (place + 1) * c.args.len / n) count;
      stop = c.new.ensures.stop;
      made = c.new.ensures.made;
      changed = c.new.ensures.changed;
    } in
    record {
      count = count;
      left = c.remove.ensures.by_index.2 ∙ ap (drop 1) c.loop-place.invariant.left ∙ drop-drop 1 place passes;
      made = ap length pushed ∙ length_push c.loop-place.workers.items worker ∙ ap (λ n. n + 1) c.loop-place.invariant.made;
      each = subst (λ all. (k : ℕ) (d : Worker) → k < place + 1 → IsCut passes c.args.len k (slice_index_or all k d)) (sym pushed)
          (cut_push passes c.args.len place c.loop-place.workers.items worker c.loop-place.invariant.made c.loop-place.invariant.each is);
    }
