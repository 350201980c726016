use Rattle.std.proofs.Common.{◌≡◌, ◌-◌, true, false, take, get_or, [], refl, sym, ap, ◌∙◌, arith}
use Rattle.certify.specs.Trim.{is_blank, before_blanks}
use Rattle.certify.proofs.LawTrim.{take_one_more, before_blanks-blank, before_blanks-other}
use Rattle.certify.proofs.trim.before_blanks.Goals as goal
use Rattle.certify.proofs.trim.before_blanks.Goals.{then-loop-end-test+else-is_blank, else-loop-end-test}

-- one more blank
pub loop-end-preserved : goal.loop-end-preserved
loop-end-preserved c =
    let text = c.args.text.now in
    let end = c.loop-end.end in
    let blank : is_blank (get_or text (end - 1) 0) ≡ true = sym c.is_blank.ensures ∙ c.if-is_blank.true in
    record {
      within = let w = c.loop-end.invariant.within in omega arith;
      same = c.loop-end.invariant.same
          ∙ ap before_blanks (take_one_more text end (omega arith) c.loop-end.invariant.within)
          ∙ before_blanks-blank (take (end - 1) text) (get_or text (end - 1) 0) blank;
    }

-- no byte is left, or the last one is no blank
pub returns : goal.returns
returns c =
    let text = c.args.text.now in
    let end = c.loop-end.end in
    elim c.loop-end-test.branch [
      | then-loop-end-test+else-is_blank w ↦
          let last = get_or text (end - 1) 0 in
          let other : is_blank last ≡ false = sym w.is_blank.ensures ∙ w.if-is_blank.false in
          let more = take_one_more text end w.loop-end-test.true c.loop-end.invariant.within in
          more ∙ sym (c.loop-end.invariant.same ∙ ap before_blanks more ∙ before_blanks-other (take (end - 1) text) last other)
      | else-loop-end-test w ↦
          let none : end ≡ 0 = omega arith in
          let empty : take end text ≡ [] = rw none refl in
          empty ∙ sym (c.loop-end.invariant.same ∙ ap before_blanks empty)
    ]
