use Rattle.std.proofs.Common.{◌≡◌, ℕ, ◌+◌, ◌-◌, ◌==◌, true, length, take, drop, get_or, List, Some, sym, ap, ◌∙◌, subst, length-drop, arith}
use Rattle.std.specs.List.{list_all}
use Rattle.std.proofs.lemmas.List.{take_all}
use Rattle.std.proofs.lemmas.Bool.Decides.{nat_tests}
use Rattle.certify.specs.Line.{split_once}
use Rattle.certify.proofs.LawTrim.{is_other, with_one_at, split_once-none, split_once-at}
use Rattle.certify.proofs.line.split_once.Goals as goal

-- the first space is met
pub returns-then-byte-eq32 : goal.returns-then-byte-eq32
returns-then-byte-eq32 c =
    let text = c.args.text.now in
    let at = c.loop-at.at in
    let space : (get_or text at 0 == 32) ≡ true = grind (arith, nat_tests) in
    let size = length-drop (at + 1) text in
    let rest : take (length text - (at + 1)) (drop (at + 1) text) ≡ drop (at + 1) text =
    take_all (length text - (at + 1)) (drop (at + 1) text) (omega arith) in
    ap split_once (with_one_at text at c.loop-at-test.true)
    ∙ split_once-at (take at text) (get_or text at 0) (drop (at + 1) text) c.loop-at.invariant space
    ∙ ap (λ (tail : List ℕ). Some (take at text, tail)) (sym rest)

-- there is none
pub returns : goal.returns
returns c =
    let all = take_all c.loop-at.at c.args.text.now (omega arith) in
    split_once-none c.args.text.now (subst (λ (t : List ℕ). list_all is_other t ≡ true) all c.loop-at.invariant)
