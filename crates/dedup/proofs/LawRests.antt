-- What a worker left of its part.
use Rattle.std.proofs.Common.{◌≡◌, ◌+◌, ◌-◌, ℕ, List, ◌++◌, drop, length, take, sym, ap, ◌∙◌, arith}
use Rattle.std.proofs.lemmas.List.{drop-drop, drop-take}
use Rattle.std.proofs.Math.Seq.{drop-append_seam}
use Rattle.dedup.specs.Crews.{HasPart, rest_of}
use Rattle.dedup.specs.Workers.{part_of}
use Rattle.dedup.specs.declared.worker.Worker.{Worker}

-- the numbers of the records whose inserts a worker began
abbrev pub begun_by : Worker → List ℕ
begun_by worker = worker.hand.made.items

-- what a front leaves of a part is the part's end
pub rest_is : (left : List ℕ) (worker : Worker) (rest : List ℕ) → HasPart left worker → part_of left worker ≡ begun_by worker ++ rest
    → rest ≡ rest_of left worker
rest_is left worker rest part front =
    let from = worker.from in
    let begun = length (begun_by worker) in
    let more = worker.to - (from + begun) in
    let long : worker.to - from ≡ begun + more = omega (arith, part.begun) in
    sym (drop-append_seam (begun_by worker) rest)
    ∙ ap (drop begun) (sym front ∙ ap (λ n. take n (drop from left)) long)
    ∙ drop-take begun more (drop from left)
    ∙ ap (take more) (drop-drop begun from left)
