use Rattle.std.proofs.Common.{◌≡◌, ◌≢◌, ℕ, ◌+◌, slice_index, ap, ◌∙◌, arith}
use Rattle.step_core.specs.Format.{head_of}
use Rattle.step_core.proofs.seen.Predecessor.{predecessor_shown}
use Rattle.step_core.proofs.reading.finest_exponent.Goals as goal

pub word-requires-2 : goal.word-requires-2
word-requires-2 c =
    let words = c.args.words.now in
    let predecessor : c.word-predecessor.result ≡ slice_index words (head_of words + 1) =
    c.word-predecessor.ensures ∙ ap (λ (at : ℕ). slice_index words (at + 1)) c.word.ensures in
    let some_before : slice_index words (head_of words + 1) ≢ 0 = λ none. c.if-predecessor-eq0.false (predecessor ∙ none) in
    omega (arith, predecessor, (predecessor_shown words c.requires some_before).within)
