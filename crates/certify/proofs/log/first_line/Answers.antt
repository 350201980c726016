use Rattle.std.proofs.Common.{◌≡◌, ℕ, ◌+◌, ◌-◌, ◌==◌, true, length, take, drop, get_or, List, ◌∷◌, sym, ap, ◌∙◌, subst, length-drop, arith}
use Rattle.std.specs.List.{list_all}
use Rattle.std.proofs.lemmas.List.{take_all}
use Rattle.std.proofs.lemmas.Bool.Decides.{nat_tests}
use Rattle.certify.specs.Trim.{lf, cut_lines}
use Rattle.certify.proofs.LawTrim.{with_one_at}
use Rattle.certify.proofs.LawLines.{is_inner, cut_lines-at, cut_lines-last}
use Rattle.certify.proofs.log.first_line.Goals as goal

-- the first LF is met
pub returns-then-byte-eq10-clause-cut : goal.returns-then-byte-eq10-clause-cut
returns-then-byte-eq10-clause-cut c =
    let bytes = c.args.bytes.now in
    let at = c.loop-at.at in
    let ends : (get_or bytes at 0 == lf) ≡ true = grind (arith, nat_tests) in
    let size = length-drop (at + 1) bytes in
    let rest : take (length bytes - (at + 1)) (drop (at + 1) bytes) ≡ drop (at + 1) bytes =
    take_all (length bytes - (at + 1)) (drop (at + 1) bytes) (omega arith) in
    ap cut_lines (with_one_at bytes at c.loop-at-test.true)
    ∙ cut_lines-at (take at bytes) (get_or bytes at 0) (drop (at + 1) bytes) c.loop-at.invariant ends
    ∙ ap (λ (tail : List ℕ). take at bytes ∷ cut_lines tail) (sym rest)

-- there is none
pub returns-clause-cut : goal.returns-clause-cut
returns-clause-cut c =
    let bytes = c.args.bytes.now in
    let all = take_all c.loop-at.at bytes (omega arith) in
    let inner : list_all is_inner bytes ≡ true = subst (λ (t : List ℕ). list_all is_inner t ≡ true) all c.loop-at.invariant in
    let none : length bytes - length bytes ≡ 0 = omega arith in
    rw none (cut_lines-last bytes (omega arith) inner)
