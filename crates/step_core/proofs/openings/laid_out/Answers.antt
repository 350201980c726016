use Rattle.std.proofs.Common.{ℕ, ◌-◌, ◌^◌, List, [], ◌∷◌, ◌++◌, length, take, replicate, ap, ◌∙◌}
use Rattle.step_core.specs.Format.{base_of}
use Rattle.step_core.specs.Openings.{generation_words, rows_of}
use Rattle.step_core.proofs.tables.Written.{IsWritten, opening_of-written}
use Rattle.step_core.proofs.openings.laid_out.Goals as goal

pub returns : goal.returns
returns c =
    let seats : ℕ = c.args.layout.now.seats in
    let cap : ℕ = c.args.layout.now.cap in
    let exponent : ℕ = c.exponent_for-exponent.result in
    let ordered : List ℕ = c.in_ok-ordered.ordered.items in
    let one : List ℕ = c.push_fixed.new.words.items in
    let two : List ℕ = c.push_generation.new.words.items in
    let three : List ℕ = c.push_rows.new.words.items in
    let four : List ℕ = c.resize.new.self.items in
    let written : IsWritten seats cap exponent c.args.keys.now ordered one two three four = record {
      exponent_is = c.exponent_for-exponent.ensures.exponent;
      classes = c.in_ok-ordered.ensures.classes;
      fixed = c.in_ok-push_fixed.ensures
          ∙ ap (λ (next : ℕ). (base_of seats ∷ next ∷ 0 ∷ []) ++ replicate seats 0) c.opening_words.ensures.len;
      generation = c.in_ok-push_generation.ensures
          ∙ ap (λ (keys : List ℕ). one ++ generation_words (length one) exponent keys) c.deref.ensures.value;
      rows = c.in_ok-push_rows.ensures ∙ ap (λ (keys : List ℕ). two ++ rows_of exponent keys (2 ^ exponent)) c.deref-2.ensures.value;
      room = c.in_ok-resize.ensures.items ∙ ap (λ (n : ℕ). take cap three ++ replicate (cap - n) 0) c.push_rows.new.words.ok.0;
    } in
    c.from_vec.ensures ∙ opening_of-written c.requires.fits written
