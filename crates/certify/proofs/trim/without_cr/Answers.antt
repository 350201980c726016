use Rattle.std.proofs.Common.{◌≡◌, ℕ, ◌-◌, ◌==◌, ◌<◌, true, false, length, take, get_or, List, [], ◌∷◌, refl, sym, ap, ◌∙◌, arith}
use Rattle.std.proofs.lemmas.Bool.Decides.{nat_tests}
use Rattle.certify.specs.Trim.{cr, without_cr}
use Rattle.certify.proofs.LawTrim.{with_last, without_cr-cr, without_cr-other}
use Rattle.certify.proofs.trim.without_cr.Goals as goal
use Rattle.certify.proofs.trim.without_cr.Goals.{else-len-gt0-via-then-len-gt0+else-text-len-eq13, else-len-gt0-via-else-len-gt0}

-- the last byte is a CR
pub returns-then-text-len-eq13 : goal.returns-then-text-len-eq13
returns-then-text-len-eq13 c =
    let text = c.args.text.now in
    let some : 0 < length text = omega arith in
    let last = get_or text (length text - 1) 0 in
    let is : (last == cr) ≡ true = grind (arith, nat_tests) in
    sym (ap without_cr (with_last text some) ∙ without_cr-cr (take (length text - 1) text) last is)

-- or there is none, or another byte
pub returns : goal.returns
returns c =
    let text = c.args.text.now in
    elim c.else-len-gt0.branch [
      | else-len-gt0-via-then-len-gt0+else-text-len-eq13 w ↦
          let some : 0 < length text = omega arith in
          let last = get_or text (length text - 1) 0 in
          let differs : last ≡ 13 → ⊥ = w.if-text-len-eq13.false in
          let other : (last == cr) ≡ false = grind (arith, nat_tests) in
          with_last text some
          ∙ sym (ap without_cr (with_last text some) ∙ without_cr-other (take (length text - 1) text) last other)
      | else-len-gt0-via-else-len-gt0 w ↦ none text (omega arith)
    ] where
      none : (text : List ℕ) → length text ≡ 0 → text ≡ without_cr text
      none [] size = refl
      none (b ∷ text) size = absurd (omega arith)
